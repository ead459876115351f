use Rattle.std.proofs.Common.{◌≡◌, ℕ, false, Some, List}
use Rattle.iofd_words.specs.declared.numbers.FrameNo.{FrameNo}
use Rattle.iofd_words.specs.Levels.{number_at}
use Rattle.page_table_words.specs.Rows.{MappedPage, TableRow, table_at}
use Rattle.page_table_words.specs.Stands.{Stands}
use Rattle.page_table.proofs.Wanted.{used_before}
use Rattle.page_table.proofs.prune.+is_used.Given as goal

abbrev pub decreases-is_used : goal.decreases-is_used
decreases-is_used g l = l.level

-- no mapped page goes through the entries so far
abbrev pub invariant-loop-index : goal.invariant-loop-index
invariant-loop-index g l = (levels : ℕ) (root : FrameNo) (rows : List TableRow) (pages : List MappedPage) (page : ℕ)
    → Stands l.pool levels root rows pages → table_at rows l.level page ≡ Some l.table
    → used_before pages l.level (number_at l.level page) l.index ≡ false
