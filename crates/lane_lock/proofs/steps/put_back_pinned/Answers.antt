use Rattle.std.proofs.Common.{rules, ap, ◌∙◌, refl}
use Rattle.atomic_table.specs.Table.{rest}
use Rattle.lane_lock.specs.Views.{freed}
use Rattle.lane_lock.proofs.Keeps.{can_free, lane_of_place}
use Rattle.lane_lock.proofs.steps.put_back_pinned.Goals as goal

pub store-requires : goal.store-requires
store-requires g c = let h = c.requires.share in let p = c.requires.pass in (
  search rules,
  search rules,
  can_free _ _ _ _ _ _ _ _ _ c.args.seat.now.me.0.pin h.0 c.place.ensures h.1 p.0 p.1 h.2 (λ n. (refl, p.2 n)),
)

pub returns-clause-told : goal.returns-clause-told
returns-clause-told g c = let m = c.args.seat.now.me in
    c.store.ensures.2 ∙ ap (λ k. (freed m.0 k m.0.pin, rest m.1)) (lane_of_place _ _ c.place.ensures)
