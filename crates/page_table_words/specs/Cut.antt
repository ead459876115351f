-- What a page table is once the tables are cut off that go below one of its tables.
use Rattle.std.specs.Prelude.{ℕ, ◌≡◌, ◌≤◌, Bool, ◌==◌, ◌&&◌, not, nat_lt, false, Some, List}
use Rattle.std.specs.Prelude.{◌++◌, filter, map}
use Rattle.std.specs.List.{count_by}
use Rattle.std.specs.List.Sorted.{IsPermutation}
use Rattle.iofd_words.specs.Bounds.{Bounds}
use Rattle.iofd_words.specs.Pages.{page_of}
use Rattle.iofd_words.specs.declared.numbers.FrameNo.{FrameNo}
use Rattle.frame_memory.specs.Pool.{FramePool, bytes_of}
use Rattle.iofd_words.specs.Levels.{number_at}
use Rattle.page_table_words.specs.Pruned.{goes, left}
use Rattle.page_table_words.specs.Rows.{MappedPage, TableRow, table_at}
use Rattle.page_table_words.specs.Stands.{Stands}
use Rattle.page_table_words.specs.Taken.{names}

-- the row is of a table below the level's table through which the page goes
abbrev pub is_below : ℕ → ℕ → TableRow → Bool
is_below level page row = nat_lt row.level level && number_at level (page_of row.first) == number_at level page

-- and that table goes
abbrev pub goes_below : ℕ → List MappedPage → List Bounds → ℕ → ℕ → TableRow → Bool
goes_below levels pages kept level page row = goes levels pages kept row && is_below level page row

-- the frame is that of the level's table of this number, in some page table that stands in the pool, and there is room
-- for the frames of the tables below it that go
pub record CanCut (pool : FramePool) (level number : ℕ) (table : FrameNo) (kept : List Bounds)
    (room : ℕ) : Type 0 where
  pub levels : ℕ
  pub root : FrameNo
  pub rows : List TableRow
  pub pages : List MappedPage
  pub page : ℕ
  pub stands : Stands pool levels root rows pages
  pub at : table_at rows level page ≡ Some table
  pub is : number ≡ number_at level page
  pub enough : count_by (goes_below levels pages kept level page) rows ≤ room

-- the page table stands without these tables; their frames stand behind what was listed, and only bytes of tables that
-- stay are others
pub record Cuts (old new : FramePool) (levels : ℕ) (root : FrameNo) (rows : List TableRow) (pages : List MappedPage)
    (kept : List Bounds) (level page : ℕ) (listed listing : List FrameNo) : Type 0 where
  pub frames : List FrameNo
  pub is : listing ≡ listed ++ frames
  pub same : IsPermutation (map (λ row. row.frame) (filter (goes_below levels pages kept level page) rows)) frames
  pub stands : Stands new levels root (filter (λ row. not (goes_below levels pages kept level page row)) rows) pages
  pub bytes : (frame : ℕ) → names (left levels pages kept rows) frame ≡ false →
      bytes_of new frame ≡ bytes_of old frame
