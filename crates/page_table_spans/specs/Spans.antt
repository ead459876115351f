-- Spans of pages in one hardware page table: which tables they lack, and what is found of their pages once they are
-- mapped or cleared.
use Rattle.std.specs.Prelude.{ℕ, ◌≡◌, ◌≤◌, ◌<◌, ◌⊎◌, ◌+◌, ◌-◌, ◌^◌, Bool, true}
use Rattle.std.specs.Prelude.{Some, None, List, [], ◌∷◌, ◌++◌, length}
use Rattle.std.specs.Prelude.{slice_index_or, slice_set}
use Rattle.std.specs.List.{flat_map, list_any}
use Rattle.iofd_words.specs.Bounds.{Bounds}
use Rattle.iofd_words.specs.Levels.{levels_of}
use Rattle.iofd_words.specs.Span.{is_whole_pages}
use Rattle.iofd_words.specs.TablePlaces.{TablePlace, is_place, lacking, places_from}
use Rattle.iofd_words.specs.Width.{bits_of}
use Rattle.iofd_words.specs.declared.flags.Rights.{Rights}
use Rattle.iofd_words.specs.declared.numbers.FrameNo.{FrameNo}
use Rattle.iofd_words.specs.declared.width.Width.{Width}
use Rattle.frame_memory.specs.Pool.{FramePool, free_count}
use Rattle.page_table_words.specs.Rows.{MappedPage, TableRow, page_at}
use Rattle.page_table_words.specs.Stands.{TableRoot, TableStands}
use Rattle.page_table_words.specs.Taken.{least_frames}

-- the span begins and ends at a page's border, and lies below the end of the width
pub record IsOfPages (width : Width) (span : Bounds) : Type 0 where
  pub whole : is_whole_pages span ≡ true
  pub below : span.last < 2 ^ bits_of width

-- ---- tables that are lacked

-- the table of a row
abbrev pub place_of : TableRow → TablePlace
place_of row = record { level = row.level; first = row.first }

-- some row is of this table
abbrev pub has_row : List TableRow → TablePlace → Bool
has_row rows place = list_any (λ row. is_place (place_of row) place) rows

-- of so many levels, the tables below the root through which these pages go and that aren't there, each once: page
-- after page, from the upper one down
abbrev pub lacked : List TableRow → ℕ → List ℕ → List TablePlace
lacked rows levels pages = lacking (has_row rows) (flat_map (places_from (levels - 1)) pages)

-- these tables in these frames, in turn
abbrev pub rows_in : List TablePlace → List FrameNo → List TableRow
rows_in [] frames = []
rows_in (place ∷ places) [] = []
rows_in (place ∷ places) (frame ∷ frames) =
    record { level = place.level; first = place.first; frame = frame } ∷ rows_in places frames

-- the frames for these tables: so many of the least ones that are free by these holds
abbrev pub frames_for : List TablePlace → List ℕ → List FrameNo
frames_for places holds = least_frames holds (length places)

-- the rows with those of the tables that the pages lack
abbrev pub with_lacked : List TableRow → ℕ → List ℕ → List ℕ → List TableRow
with_lacked rows levels pages holds =
    rows ++ rows_in (lacked rows levels pages) (frames_for (lacked rows levels pages) holds)

-- the holds with just one on each of these frames
abbrev pub held_once : List ℕ → List FrameNo → List ℕ
held_once holds [] = holds
held_once holds (frame ∷ frames) = held_once (slice_set holds frame.0 1) frames

-- the page table stands in the pool, and there are free frames for the tables that the pages lack, and room for them
pub record HasFrames (pool : FramePool) (table : TableRoot) (pages : List ℕ) (room : ℕ) : Type 0 where
  pub rows : List TableRow
  pub mapped : List MappedPage
  pub stands : TableStands pool table rows mapped
  pub free : length (lacked rows (levels_of table.width) pages) ≤ free_count pool.holds
  pub enough : length (lacked rows (levels_of table.width) pages) ≤ room

-- ---- what is found of pages

-- from the first page on, page after page leads to the next of these frames, with these rights; every other page leads
-- where it did
pub record MapsSpan (old new : List MappedPage) (first : ℕ) (frames : List FrameNo) (rights : Rights) : Type 0 where
  pub inside : (k : ℕ) (d : FrameNo) → k < length frames →
      page_at new (first + k)
      ≡ Some (record { page = first + k; frame = slice_index_or frames k d; rights = rights })
  pub others : (page : ℕ) → (page < first) ⊎ (first + length frames ≤ page) →
      page_at new page ≡ page_at old page

-- from the first page on, so many pages lead nowhere; every other page leads where it did
pub record ClearsSpan (old new : List MappedPage) (first count : ℕ) : Type 0 where
  pub inside : (page : ℕ) → first ≤ page → page < first + count → page_at new page ≡ None
  pub others : (page : ℕ) → (page < first) ⊎ (first + count ≤ page) → page_at new page ≡ page_at old page
