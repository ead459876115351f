-- Which tables a page table needs (VT-d, "Second-Stage Translation"): its root, and each table below it through which a
-- page that it maps goes. A table is known by its level and by the first address that goes through it.
use Rattle.std.specs.Prelude.{ℕ, ◌-◌, ◌/◌, zero, suc, Bool, true, false, ◌==◌, ◌&&◌, ◌||◌, List}
use Rattle.std.specs.Prelude.{[], ◌∷◌, filter}
use Rattle.std.specs.Prelude.{if◌then◌else◌}
use Rattle.std.specs.List.{flat_map, list_any, range_with_len}
use Rattle.iofd_words.specs.Bounds.{Bounds}
use Rattle.iofd_words.specs.Levels.{first_address, levels_of}
use Rattle.iofd_words.specs.Pages.{page_of}
use Rattle.iofd_words.specs.Span.{size_of}
use Rattle.iofd_words.specs.declared.numbers.FileNo.{FileNo}
use Rattle.iofd_words.specs.declared.numbers.ObjId.{ObjId}
use Rattle.iofd_words.specs.declared.rows.Area.{Area}
use Rattle.iofd_words.specs.declared.rows.Phase.{Phase}
use Rattle.iofd_words.specs.declared.rows.Phase.TheVariants.{Live, Leaving}
use Rattle.iofd_words.specs.declared.rows.TableFrame.{TableFrame}
use Rattle.iofd_words.specs.declared.width.Width.{Width}

pub record TablePlace : Type 0 where
  pub level : ℕ
  pub first : ℕ

abbrev pub is_place : TablePlace → TablePlace → Bool
is_place a b = a.level == b.level && a.first == b.first

-- ---- through which tables pages go

-- the tables of this level and of those below it through which the page goes, from the upper one down
abbrev pub places_from : ℕ → ℕ → List TablePlace
places_from zero page = []
places_from (suc level) page =
    record { level = suc level; first = first_address (suc level) page } ∷ places_from level page

-- the root of a page table, which stands alone in its level
abbrev pub root_place : Width → TablePlace
root_place width = record { level = levels_of width; first = 0 }

-- the tables of a page table of this width that maps these pages: the root, and page after page those below it, from
-- the upper one down
abbrev pub places_of : Width → List ℕ → List TablePlace
places_of width pages = root_place width ∷ flat_map (places_from (levels_of width - 1)) pages

-- of these tables those that aren't there, each once
abbrev pub lacking : (TablePlace → Bool) → List TablePlace → List TablePlace
lacking is_there [] = []
lacking is_there (place ∷ places) =
    if is_there place then lacking is_there places
    else place ∷ lacking (λ other. is_there other || is_place place other) places

-- ---- which pages a page table maps

abbrev pub is_live : Phase → Bool
is_live Live = true
is_live (Leaving owed tries) = false

-- the pages of a span that begins and ends at a page's border
abbrev pub pages_in : Bounds → List ℕ
pages_in span = range_with_len (page_of span.first) (size_of span / 4096)

-- those of the live areas of an address space, by rising address
abbrev pub live_pages : List Area → List ℕ
live_pages areas = flat_map (λ area. pages_in area.span) (filter (λ area. is_live area.phase) areas)

-- ---- rows of tables

abbrev pub is_table_of : FileNo → ObjId → TableFrame → Bool
is_table_of file hwpt table = table.file.0 == file.0 && table.hwpt.0 == hwpt.0

abbrev pub place_of : TableFrame → TablePlace
place_of table = record { level = table.level; first = table.first.0 }

-- the page table has a row for the table
abbrev pub has_table : List TableFrame → FileNo → ObjId → TablePlace → Bool
has_table tables file hwpt place =
    list_any (λ table. is_table_of file hwpt table && is_place (place_of table) place) tables
