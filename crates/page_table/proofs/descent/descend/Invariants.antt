use Rattle.std.proofs.Common.{◌≡◌, ◌≤◌, ◌<◌, ℕ, List, Some}
use Rattle.iofd_words.specs.declared.numbers.FrameNo.{FrameNo}
use Rattle.page_table_words.specs.Reached.{GoesThrough}
use Rattle.page_table_words.specs.Rows.{MappedPage, TableRow, table_at}
use Rattle.page_table_words.specs.Stands.{Stands}
use Rattle.page_table.proofs.descent.descend.Given as goal

-- a table on the page's way, from the first one down
abbrev pub invariant-loop-reached : goal.invariant-loop-reached
invariant-loop-reached g l = record {
  some : 0 < l.reached.level;
  down : l.reached.level ≤ l.fn.from.level;
  rights : l.reached.rights.0 ≡ 3;
  through : GoesThrough l.pool l.reached.level l.page l.reached.frame;
  at : (levels : ℕ) (root : FrameNo) (rows : List TableRow) (pages : List MappedPage)
      → Stands l.pool levels root rows pages → table_at rows l.fn.from.level l.page ≡ Some l.fn.from.frame
      → table_at rows l.reached.level l.page ≡ Some l.reached.frame;
}

abbrev pub decreases-loop-reached : goal.decreases-loop-reached
decreases-loop-reached g l = l.reached.level
