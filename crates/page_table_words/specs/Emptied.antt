-- A table that nothing goes through any more: it is taken out of its page table, and its frame is given back.
use Rattle.std.specs.Prelude.{ℕ, ◌≡◌, ◌<◌, ◌+◌, Bool, false, ◌==◌, ◌&&◌, not, None, Some, is_some, true, List}
use Rattle.std.specs.Prelude.{◌++◌, filter, length, slice_index}
use Rattle.std.specs.List.{count_by}
use Rattle.iofd_words.specs.Levels.{number_at}
use Rattle.iofd_words.specs.Pages.{page_of}
use Rattle.iofd_words.specs.declared.numbers.FrameNo.{FrameNo}
use Rattle.frame_memory.specs.Pool.{FramePool, bytes_of}
use Rattle.page_table_words.specs.Needed.{is_absent}
use Rattle.page_table_words.specs.Released.{times}
use Rattle.page_table_words.specs.Rows.{MappedPage, TableRow, page_at, table_at}
use Rattle.page_table_words.specs.Stands.{Stands, TableRoot, TableStands}
use Rattle.page_table_words.specs.Taken.{names}

-- which table of its level a row is, counted from 0 by rising address
abbrev pub number_of : TableRow → ℕ
number_of row = number_at row.level (page_of row.first)

-- the row is of the level's table of this number
abbrev pub is_numbered : ℕ → ℕ → TableRow → Bool
is_numbered level number row = row.level == level && number_of row == number

abbrev pub without_table : ℕ → ℕ → List TableRow → List TableRow
without_table level number rows = filter (λ row. not (is_numbered level number row)) rows

-- how many of the tables are in the frame
abbrev pub rows_in : List TableRow → ℕ → ℕ
rows_in rows frame = count_by (λ row. row.frame.0 == frame) rows

-- the level's table of this number is there, below the root of so many levels, and no table and no mapped page is below
-- it
pub record IsEmpty (levels : ℕ) (rows : List TableRow) (pages : List MappedPage) (level number : ℕ) : Type 0 where
  pub there : is_absent rows level number ≡ false
  pub low : level < levels
  pub below : (other page : ℕ) → other < level → number_at level page ≡ number → table_at rows other page ≡ None
  pub unmapped : (page : ℕ) → number_at level page ≡ number → page_at pages page ≡ None

-- the level's table of this number is there and empty, for some rows and pages with which the page table stands in the
-- pool
pub record HasEmpty (pool : FramePool) (table : TableRoot) (levels level number : ℕ) : Type 0 where
  pub rows : List TableRow
  pub pages : List MappedPage
  pub stands : TableStands pool table rows pages
  pub empty : IsEmpty levels rows pages level number

-- from this table of its level on, the page goes down to one of the other level
pub record GoesDown (pool : FramePool) (from : FrameNo) (top level page : ℕ) : Type 0 where
  pub levels : ℕ
  pub root : FrameNo
  pub rows : List TableRow
  pub pages : List MappedPage
  pub stands : Stands pool levels root rows pages
  pub at : table_at rows top page ≡ Some from
  pub there : is_some (table_at rows level page) ≡ true

-- of these tables some are left; the frames of the others stand behind what was listed, and each has a hold less for
-- each time that it stands there. No bytes are others but those of tables
pub record GivesUp (old new : FramePool) (rows left : List TableRow) (listed listing : List FrameNo) : Type 0 where
  pub given : List FrameNo
  pub is : listing ≡ listed ++ given
  pub went : (frame : ℕ) → times frame given + rows_in left frame ≡ rows_in rows frame
  pub holds : (frame : ℕ) → slice_index new.holds frame + times frame given ≡ slice_index old.holds frame
  pub bytes : (frame : ℕ) → names rows frame ≡ false → bytes_of new frame ≡ bytes_of old frame
  pub count : length new.holds ≡ length old.holds
