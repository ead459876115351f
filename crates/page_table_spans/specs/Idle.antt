-- Tables of one hardware page table through which no page of an area goes, and what is left once they are given back.
use Rattle.std.specs.Prelude.{ℕ, ◌≡◌, ◌≤◌, ◌+◌, ◌*◌, ◌^◌, Bool, true, false, ◌==◌, ◌&&◌, not, nat_le, nat_lt, Some, List}
use Rattle.std.specs.Prelude.{filter}
use Rattle.std.specs.List.{All, count_by, list_any}
use Rattle.iofd_words.specs.Areas.{areas_meet, is_cut}
use Rattle.iofd_words.specs.Bounds.{Bounds}
use Rattle.iofd_words.specs.Levels.{levels_of}
use Rattle.iofd_words.specs.Span.{span_from}
use Rattle.iofd_words.specs.declared.numbers.FrameNo.{FrameNo}
use Rattle.iofd_words.specs.declared.rows.Area.{Area}
use Rattle.iofd_words.specs.declared.width.Width.{Width}
use Rattle.area_map_rows.specs.Areas.{areas_outside, areas_within}
use Rattle.frame_memory.specs.Pool.{FramePool}
use Rattle.page_table_words.specs.Emptied.{GivesUp, number_of}
use Rattle.page_table_words.specs.Rows.{MappedPage, TableRow, page_at}
use Rattle.page_table_words.specs.Stands.{TableRoot, TableStands}
use Rattle.page_table_spans.specs.Spans.{IsOfPages}

-- the addresses that go through the level's table of this number, through a row's table, and those of a page
abbrev pub span_at : ℕ → ℕ → Bounds
span_at level number = span_from (number * 2 ^ (9 * level + 12)) (2 ^ (9 * level + 12))

abbrev pub span_of_row : TableRow → Bounds
span_of_row row = span_from row.first (2 ^ (9 * row.level + 12))

abbrev pub span_of_page : ℕ → Bounds
span_of_page page = span_from (page * 4096) 4096

-- of so many levels, the row is of a table below the root, and no page of these areas goes through it
abbrev pub is_idle : ℕ → List Area → TableRow → Bool
is_idle levels areas row = not (row.level == levels) && not (areas_meet (span_of_row row) areas)

-- the same of a table of this level, and of one that is numbered from the one on and before the other
abbrev pub is_idle_at : ℕ → List Area → ℕ → TableRow → Bool
is_idle_at levels areas level row = is_idle levels areas row && row.level == level

abbrev pub is_idle_between : ℕ → List Area → ℕ → ℕ → ℕ → TableRow → Bool
is_idle_between levels areas level first end row =
    is_idle_at levels areas level row && (nat_le first (number_of row) && nat_lt (number_of row) end)

-- of the areas of an address space those in the span are of whole pages below the end of the width, and it cuts none
pub record CanLeave (width : Width) (areas : List Area) (span : Bounds) : Type 0 where
  pub pages : All (λ area. IsOfPages width area.span) (areas_within span areas)
  pub uncut : is_cut span areas ≡ false

-- while these areas stand no table is idle; mapped pages are of those alone that the span leaves; and of the tables
-- that those leave idle none is below the level
pub record MayShed (levels : ℕ) (areas : List Area) (span : Bounds) (level : ℕ) (rows : List TableRow)
    (pages : List MappedPage) : Type 0 where
  pub needed : list_any (is_idle levels areas) rows ≡ false
  pub mapped : (page : ℕ) (to : MappedPage) → page_at pages page ≡ Some to →
      areas_meet (span_of_page page) (areas_outside span areas) ≡ true
  pub lower : list_any (λ row. is_idle levels (areas_outside span areas) row && nat_lt row.level level) rows ≡ false

-- the same in some way in which the page table stands, and there is room for the frames of the tables that go
pub record CanShed (pool : FramePool) (table : TableRoot) (areas : List Area) (span : Bounds) (level : ℕ)
    (goes : TableRow → Bool) (room : ℕ) : Type 0 where
  pub rows : List TableRow
  pub pages : List MappedPage
  pub stands : TableStands pool table rows pages
  pub may : MayShed (levels_of table.width) areas span level rows pages
  pub enough : count_by goes rows ≤ room

-- the tables that go are gone; the others stay, and every mapped page
pub record Sheds (old new : FramePool) (table : TableRoot) (rows : List TableRow) (pages : List MappedPage)
    (goes : TableRow → Bool) (listed listing : List FrameNo) (before after : ℕ) : Type 0 where
  pub stands : TableStands new table (filter (λ row. not (goes row)) rows) pages
  pub gives : GivesUp old new rows (filter (λ row. not (goes row)) rows) listed listing
  pub many : after ≡ before + count_by goes rows
