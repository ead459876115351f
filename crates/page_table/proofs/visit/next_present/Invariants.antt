use Rattle.std.proofs.Common.{◌≡◌, ℕ, ◌≤◌, ◌<◌, ◌-◌, ◌%◌}
use Rattle.page_table_words.specs.Entries.{entry_at}
use Rattle.page_table.proofs.visit.next_present.Given as goal

abbrev pub invariant-loop-index : goal.invariant-loop-index
invariant-loop-index g l = record {
  from : l.start ≤ l.index;
  within : l.index ≤ 512;
  absent : (k : ℕ) → l.start ≤ k → k < l.index → entry_at l.pool l.table.0 k % 4 ≡ 0;
}

abbrev pub decreases-loop-index : goal.decreases-loop-index
decreases-loop-index g l = 512 - l.index
