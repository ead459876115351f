use Rattle.std.proofs.Common.{◌≡◌, ◌≤◌, ℕ, Some, List, vec_capacity, vec_len}
use Rattle.iofd_words.specs.declared.numbers.FrameNo.{FrameNo}
use Rattle.iofd_words.specs.Levels.{number_at}
use Rattle.page_table_words.specs.Rows.{MappedPage, TableRow, table_at}
use Rattle.page_table_words.specs.Stands.{Stands}
use Rattle.page_table.proofs.CutBefore.{CutsBefore}
use Rattle.page_table.proofs.prune.+cut_idle.Given as goal

abbrev pub decreases-cut_idle : goal.decreases-cut_idle
decreases-cut_idle g l = l.level

-- the tables below the entries so far are cut off
abbrev pub invariant-loop-index : goal.invariant-loop-index
invariant-loop-index g l = record {
  holds : l.pool.holds ≡ l.fn.pool.holds;
  len : vec_len l.fn.out ≤ vec_len l.out;
  capacity : vec_capacity l.out ≡ vec_capacity l.fn.out;
  cut : (levels : ℕ) (root : FrameNo) (rows : List TableRow) (pages : List MappedPage) (page : ℕ)
      → Stands l.fn.pool levels root rows pages → table_at rows l.level page ≡ Some l.table
      → l.number ≡ number_at l.level page → CutsBefore l.fn.pool l.pool levels root rows pages l.kept l.level page
      l.index l.table l.fn.out.items l.out.items;
}
