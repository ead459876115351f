use Rattle.std.proofs.Common.{◌≡◌, ℕ, ◌≤◌, ◌<◌, ◌%◌, true}
use Rattle.page_table_words.specs.Entries.{entry_at}
use Rattle.page_table.proofs.visit.are_absent.Given as goal

abbrev pub invariant-loop-index : goal.invariant-loop-index
invariant-loop-index g l = l.absent ≡ true → (k : ℕ) → l.first ≤ k → k < l.index → entry_at l.pool l.table.0 k % 4 ≡ 0
