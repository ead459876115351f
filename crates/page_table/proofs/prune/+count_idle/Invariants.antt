use Rattle.std.proofs.Common.{◌≡◌, ◌≤◌, ◌+◌, ◌-◌, ◌*◌, ◌^◌, ℕ, Some, List}
use Rattle.std.specs.List.{count_by}
use Rattle.iofd_words.specs.declared.numbers.FrameNo.{FrameNo}
use Rattle.iofd_words.specs.Levels.{number_at}
use Rattle.page_table_words.specs.Rows.{MappedPage, TableRow, table_at}
use Rattle.page_table_words.specs.Stands.{Stands}
use Rattle.page_table.proofs.Parting.{cut_before}
use Rattle.page_table.proofs.prune.+count_idle.Given as goal

abbrev pub decreases-count_idle : goal.decreases-count_idle
decreases-count_idle g l = l.level

-- those below the entries so far
abbrev pub invariant-loop-index : goal.invariant-loop-index
invariant-loop-index g l = record {
  small : l.total ≤ 1 + l.index * 1000 ^ (l.level - 1);
  idle : (levels : ℕ) (root : FrameNo) (rows : List TableRow) (pages : List MappedPage) (page : ℕ)
      → Stands l.pool levels root rows pages → table_at rows l.level page ≡ Some l.table
      → l.number ≡ number_at l.level page → l.total ≡ count_by
      (cut_before levels pages l.kept l.level page l.index) rows;
}
