use Rattle.std.proofs.Common.{◌<◌, ℕ, rules, sym, subst}
use Rattle.lane_lock.proofs.Grows.{can_commit}
use Rattle.lane_lock.proofs.Keeps.{lane_of_place}
use Rattle.lane_lock.proofs.steps.put_back_with_record.Goals as goal

pub store-requires : goal.store-requires
store-requires g c = let h = c.requires.share in let p = c.requires.pass in let t =
    c.requires.table in (
      search rules,
      search rules,
      can_commit _ _ _ _ _ _ _ h.0 h.1 h.2 p.0 p.1 t.2 p.2 p.3 p.4 h.3 h.4,
    )

pub returns-clause-told : goal.returns-clause-told
returns-clause-told g c = let told = c.store.ensures.2 in (
  told.0,
  (λ l. told.1 (subst (λ (n : ℕ). 1 < n) (sym (lane_of_place _ _ (sym c.requires.table.2))) l)),
  told.2,
)
