-- Which tables go where a page table is pruned, and what is left of it.
use Rattle.std.specs.Prelude.{ℕ, ◌≡◌, ◌≤◌, Bool, ◌==◌, ◌&&◌, ◌||◌, not, nat_lt, true, false}
use Rattle.std.specs.Prelude.{List, filter, length}
use Rattle.std.specs.Prelude.{slice_index}
use Rattle.std.specs.List.{list_any}
use Rattle.iofd_words.specs.Bounds.{Bounds}
use Rattle.iofd_words.specs.Pages.{page_of}
use Rattle.frame_memory.specs.Pool.{FramePool, bytes_of}
use Rattle.iofd_words.specs.Levels.{levels_of, number_at}
use Rattle.page_table_words.specs.Needed.{goes_through}
use Rattle.page_table_words.specs.Rows.{MappedPage, TableRow}
use Rattle.page_table_words.specs.Stands.{TableRoot, TableStands}
use Rattle.page_table_words.specs.Taken.{names}

-- a mapped page goes through the level's table of this number
abbrev pub is_used : List MappedPage → ℕ → ℕ → Bool
is_used pages level number = list_any (λ mapped. number_at level mapped.page == number) pages

-- so does a page of a kept span
abbrev pub is_kept : List Bounds → ℕ → ℕ → Bool
is_kept kept level number = list_any (goes_through level number) kept

-- one of either kind does
abbrev pub is_wanted : List MappedPage → List Bounds → ℕ → ℕ → Bool
is_wanted pages kept level number = is_used pages level number || is_kept kept level number

-- of so many levels, the table goes: it isn't the root, and no such page goes through it
abbrev pub goes : ℕ → List MappedPage → List Bounds → TableRow → Bool
goes levels pages kept row =
    nat_lt row.level levels && not (is_wanted pages kept row.level (number_at row.level (page_of row.first)))

-- the tables that go, and those that stay
abbrev pub gone : ℕ → List MappedPage → List Bounds → List TableRow → List TableRow
gone levels pages kept rows = filter (goes levels pages kept) rows

abbrev pub left : ℕ → List MappedPage → List Bounds → List TableRow → List TableRow
left levels pages kept rows = filter (λ row. not (goes levels pages kept row)) rows

-- the page table stands in the pool, and there is room for the frames of the tables that go
pub record CanPrune (pool : FramePool) (table : TableRoot) (kept : List Bounds) (room : ℕ) : Type 0 where
  pub rows : List TableRow
  pub pages : List MappedPage
  pub stands : TableStands pool table rows pages
  pub enough : length (gone (levels_of table.width) pages kept rows) ≤ room

-- no hold is left on the frames of the tables that went, and every other hold is as it was; so are the bytes of each
-- frame but those of the tables that stay
pub record Prunes (gone left : List TableRow) (old new : FramePool) : Type 0 where
  pub free : (frame : ℕ) → names gone frame ≡ true → slice_index new.holds frame ≡ 0
  pub others : (frame : ℕ) → names gone frame ≡ false →
      slice_index new.holds frame ≡ slice_index old.holds frame
  pub bytes : (frame : ℕ) → names left frame ≡ false → bytes_of new frame ≡ bytes_of old frame
  pub count : length new.holds ≡ length old.holds
