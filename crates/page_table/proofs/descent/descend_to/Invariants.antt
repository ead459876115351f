use Rattle.std.proofs.Common.{ℕ, ◌≡◌, ◌≤◌, List, Some, is_some, true}
use Rattle.iofd_words.specs.declared.numbers.FrameNo.{FrameNo}
use Rattle.page_table_words.specs.Emptied.{GoesDown}
use Rattle.page_table_words.specs.Rows.{MappedPage, TableRow, table_at}
use Rattle.page_table_words.specs.Stands.{Stands}
use Rattle.page_table.proofs.descent.descend_to.Given as goal

-- a table on the page's way, from the upper one down
abbrev pub invariant-loop-above : goal.invariant-loop-above
invariant-loop-above g l = record {
  low : l.level ≤ l.above;
  down : l.above ≤ l.fn.top;
  way : GoesDown l.pool l.frame l.above l.level l.page;
  at : (levels : ℕ) (root : FrameNo) (rows : List TableRow) (pages : List MappedPage)
      → Stands l.pool levels root rows pages → table_at rows l.fn.top l.page ≡ Some l.fn.from
      → is_some (table_at rows l.level l.page) ≡ true → table_at rows l.above l.page ≡ Some l.frame;
}

abbrev pub decreases-loop-above : goal.decreases-loop-above
decreases-loop-above g l = l.above
