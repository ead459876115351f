-- The root, through which each page below the width goes.
use Rattle.std.proofs.Common.{◌≡◌, ℕ, ◌*◌, ◌^◌, ◌<◌, Some, List, sym, ◌∙◌, arith}
use Rattle.std.proofs.Math.Nat.{zero-div}
use Rattle.iofd_words.specs.declared.numbers.FrameNo.{FrameNo}
use Rattle.iofd_words.specs.declared.width.Width.{Width}
use Rattle.iofd_words.specs.declared.width.Width.TheVariants.{Bits39, Bits48, Bits57}
use Rattle.frame_memory.specs.Pool.{FramePool}
use Rattle.iofd_words.specs.Levels.{levels_of, number_at}
use Rattle.page_table_words.specs.Mapped.{IsBelow, IsTable}
use Rattle.page_table_words.specs.Reached.{EndsAt, GoesThrough, IsLowest}
use Rattle.page_table_words.specs.Rows.{MappedPage, TableRow, table_at}
use Rattle.page_table_words.specs.Stands.{Stands, TableRoot, TableStands}
use Rattle.page_table_words.specs.Under.{HoldsTable}
use Rattle.page_table_words.proofs.Lookups.{table_at-same}

-- the end of a width is 512 entries of each level on
below_end : (width : Width) (page : ℕ) → IsBelow width page → number_at (levels_of width) page ≡ 0
unfolding number_at
below_end Bits39 page below = omega arith
below_end Bits48 page below = omega arith
below_end Bits57 page below = omega arith

pub some_levels : (width : Width) → 0 < levels_of width
some_levels Bits39 = omega arith
some_levels Bits48 = omega arith
some_levels Bits57 = omega arith

-- the number of a page below the width fits a word
pub page_fits : (width : Width) (page : ℕ) → IsBelow width page → page < 2 ^ 64
page_fits Bits39 page below = omega (arith, below)
page_fits Bits48 page below = omega (arith, below)
page_fits Bits57 page below = omega (arith, below)

pub number-first : (level : ℕ) → number_at level 0 ≡ 0
unfolding number_at
number-first level = zero-div (2 ^ (9 * level))

pub at_top : (pool : FramePool) (table : TableRoot) (rows : List TableRow) (pages : List MappedPage) (page : ℕ)
    → TableStands pool table rows pages → IsBelow table.width page
    → table_at rows (levels_of table.width) page ≡ Some table.root
at_top pool table rows pages page stands below =
    table_at-same rows (levels_of table.width) page 0 (below_end table.width page below
    ∙ sym (number-first (levels_of table.width))) ∙ stands.at_root

pub goes_from_top : (pool : FramePool) (table : TableRoot) (page : ℕ) → IsTable pool table → IsBelow table.width page
    → GoesThrough pool (levels_of table.width) page table.root
goes_from_top pool table page is below = record {
  levels = levels_of table.width;
  root = table.root;
  rows = is.rows;
  pages = is.pages;
  stands = is.stands;
  at = at_top pool table is.rows is.pages page is.stands below;
}

pub ends_somewhere : (pool : FramePool) (table : TableRoot) (level page : ℕ) (frame : FrameNo) → IsTable pool table
    → ((rows : List TableRow) (pages : List MappedPage) → TableStands pool table rows pages
    → IsLowest rows level page frame) → EndsAt pool level page frame
ends_somewhere pool table level page frame is lowest = record {
  levels = levels_of table.width;
  root = table.root;
  rows = is.rows;
  pages = is.pages;
  stands = is.stands;
  lowest = lowest is.rows is.pages is.stands;
}

pub root_holds : (pool : FramePool) (levels : ℕ) (root : FrameNo) (rows : List TableRow) (pages : List MappedPage)
    → Stands pool levels root rows pages → HoldsTable pool levels root
root_holds pool levels root rows pages stands = record {
  page = 0;
  through = record {
    levels = levels;
    root = root;
    rows = rows;
    pages = pages;
    stands = stands;
    at = stands.at_root;
  };
}
