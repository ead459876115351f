use Rattle.std.proofs.Common.{◌≡◌, ◌⊎◌, ℕ, slice_get, Some, vec_len}
use mathlib.Core.Option.{some}
use lib.ListN.{get_elem?}
use Rattle.lane_lock.specs.Ending.{AllIdle, known_of}
use Rattle.lane_lock.proofs.close.gather_all.Given as goal

abbrev pub invariant-loop-pass : goal.invariant-loop-pass
invariant-loop-pass g l = record {
  table : l.seat.table_id ≡ l.initial.seat.table_id;
  owned : (i : ℕ) (p : _) → slice_get l.passes.items i ≡ Some p → p.seat.table_id ≡ l.initial.seat.table_id;
  idle : AllIdle l.passes.items;
  view : l.seat.me.0 ≡ record l.initial.seat.me.0 { others = l.seat.me.0.others };
  taken : (i : ℕ) (p : _) → slice_get l.initial.passes.items i ≡ Some p → (slice_get l.passes.items i ≡ Some p)
      ⊎ ((j : ℕ) × (get_elem? l.seat.me.0.others j ≡ some (known_of p)));
}

abbrev pub decreases-loop-pass : goal.decreases-loop-pass
decreases-loop-pass g l = vec_len l.passes
