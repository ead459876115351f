use Rattle.std.proofs.Common.{◌≡◌, inl, inr, ⊎_elim, ℕ, length, slice_get, Some, rules, refl, sym, ap, ◌∙◌}
use mathlib.Core.Option.{some}
use lib.ListN.{get_elem?}
use Rattle.atomic_table.proofs.Lists.{at_longer}
use Rattle.lane_lock.specs.Ending.{known_of}
use Rattle.lane_lock.proofs.PassLists.{last_at, front_at, either_at, snoc_last}
use Rattle.lane_lock.proofs.close.gather_all.Goals as goal

pub loop-pass-init : goal.loop-pass-init
loop-pass-init g c = record {
  table = refl;
  owned = λ i p e. c.requires.owned i p e ∙ sym c.requires.table.0;
  idle = c.requires.idle;
  view = refl;
  taken = λ i p e. inl e;
}

pub gather-requires-clause-pass : goal.gather-requires-clause-pass
gather-requires-clause-pass g c = let e = c.into_seat.ensures in (e.alone.0, e.alone.1, e.idle.1)

pub returns-clause-same_seat : goal.returns-clause-same_seat
returns-clause-same_seat g c = c.loop-pass.invariant.table

pub into_seat-requires : goal.into_seat-requires
into_seat-requires g c = c.loop-pass.invariant.idle _ _ (last_at _ _ _ c.in-Some.ensures.items)

pub gather-requires-clause-table : goal.gather-requires-clause-table
gather-requires-clause-table g c = (
  c.loop-pass.invariant.table ∙ c.requires.table.0,
  ap (λ s. s.table_id) c.into_seat.ensures.seat
      ∙ (c.loop-pass.invariant.owned _ _ (last_at _ _ _ c.in-Some.ensures.items) ∙ c.requires.table.0),
  c.requires.table.1,
  c.into_seat.ensures.idle.0,
)

pub loop-pass-preserved : goal.loop-pass-preserved
loop-pass-preserved g c =
    let grown = ap (λ m. m.0.others) c.gather.ensures.1 in let is = c.in-Some.ensures.items in record {
      table = search rules;
      owned = λ i p e. c.loop-pass.invariant.owned i p (front_at _ _ _ p i is e);
      idle = λ i p e. c.loop-pass.invariant.idle i p (front_at _ _ _ p i is e);
      view = search rules;
      taken = λ i p e. ⊎_elim
          (λ (h : slice_get c.loop-pass.passes.items i ≡ Some p). ⊎_elim
          (λ (f : slice_get c.pop.new.self.items i ≡ Some p). inl f)
          (λ (f : c.in-Some.pass ≡ p). inr (
            length c.loop-pass.seat.me.0.others,
            ap (λ l. get_elem? l (length c.loop-pass.seat.me.0.others)) grown
                ∙ (snoc_last c.loop-pass.seat.me.0.others _
                ∙ (ap (λ s. some (record { number = s.me.0.number; seen = s.me.0.seen; made = s.me.0.made }))
                c.into_seat.ensures.seat ∙ ap (λ q. some (known_of q)) f)),
          )) (either_at _ _ _ p i is h))
          (λ (h : (j : ℕ) × (get_elem? c.loop-pass.seat.me.0.others j ≡ some (known_of p))). inr (
            h.0,
            ap (λ l. get_elem? l h.0) grown ∙ at_longer c.loop-pass.seat.me.0.others _ h.0 (known_of p) h.1,
          ))
          (c.loop-pass.invariant.taken i p e);
    }
