use Rattle.std.proofs.Common.{rules, ap, ◌∙◌, refl}
use Rattle.atomic_table.specs.Table.{rest}
use Rattle.lane_lock.specs.Views.{freed}
use Rattle.lane_lock.proofs.Keeps.{can_free, lane_of_place}
use Rattle.lane_lock.proofs.steps.put_back_last.Goals as goal

pub store-requires : goal.store-requires
store-requires g c = let h = c.requires.share in (
  search rules,
  search rules,
  can_free _ _ _ _ _ _ _ _ _ 0 h.0 c.place.ensures h.1 c.requires.pass.0 c.requires.pass.1 h.2 (λ n. absurd (n refl)),
)

pub returns-clause-told : goal.returns-clause-told
returns-clause-told g c = c.store.ensures.2 ∙ ap (λ k. (freed c.args.seat.now.me.0 k 0, rest c.args.seat.now.me.1))
    (lane_of_place _ _ c.place.ensures)
