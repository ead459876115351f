-- Tables of the page tables over an address space through which no page of an area goes, and what is left once they are
-- given back.
use Rattle.std.specs.Prelude.{ℕ, ◌≡◌, ◌≤◌, ◌+◌, Bool, true, false, ◌&&◌, not, Option, Some, List, ◌++◌, filter, length}
use Rattle.std.specs.Prelude.{slice_index}
use Rattle.std.specs.List.{count_by, list_any}
use Rattle.std.specs.List.Sorted.{IsNonDecreasingBy}
use Rattle.iofd_rows.proofs.Each.{IsIn}
use Rattle.iofd_words.specs.Areas.{areas_meet}
use Rattle.iofd_words.specs.Bounds.{Bounds}
use Rattle.iofd_words.specs.Levels.{levels_of}
use Rattle.iofd_words.specs.TablePlaces.{is_table_of}
use Rattle.iofd_words.specs.declared.numbers.FileNo.{FileNo}
use Rattle.iofd_words.specs.declared.numbers.FrameNo.{FrameNo}
use Rattle.iofd_words.specs.declared.numbers.ObjId.{ObjId}
use Rattle.iofd_words.specs.declared.rows.Area.{Area}
use Rattle.iofd_words.specs.declared.rows.Object.{Object}
use Rattle.iofd_words.specs.declared.rows.TableFrame.{TableFrame}
use Rattle.area_map_rows.specs.Areas.{areas_outside}
use Rattle.frame_memory.specs.Pool.{FramePool}
use Rattle.page_table_spans.specs.Idle.{CanLeave, is_idle, span_of_page}
use Rattle.page_table_words.specs.Released.{times}
use Rattle.page_table_words.specs.Rows.{MappedPage}
use Rattle.page_table_set.specs.OverSpans.{is_over}
use Rattle.page_table_set.specs.PageTables.{AllStand, Hwpt, KeepsOthers, row_of, tables_in}

-- the table is one of this page table, below its root, and no page of these areas goes through it
abbrev pub is_idle_of : Hwpt → List Area → TableFrame → Bool
is_idle_of h areas table =
    is_table_of h.object.file h.object.id table && is_idle (levels_of h.table.width) areas (row_of table)

-- it is so of one over the address space
abbrev pub is_idle_in : FileNo → ObjId → List Area → List Hwpt → TableFrame → Bool
is_idle_in file ioas areas tables table =
    list_any (λ h. is_over file ioas h.object && is_idle_of h areas table) tables

-- the areas are of whole pages below the end of each of them, and the span cuts none
abbrev pub AllCanLeave : FileNo → ObjId → List Area → Bounds → List Hwpt → Type 0
AllCanLeave file ioas areas span tables =
    (h : Hwpt) → IsIn tables h → is_over file ioas h.object ≡ true → CanLeave h.table.width areas span

-- while these areas stand no table is idle, and pages are mapped of those alone that the span leaves
pub record MayShed (file : FileNo) (ioas : ObjId) (areas : List Area) (span : Bounds) (frames : List TableFrame)
    (leads : Object → ℕ → Option MappedPage) (tables : List Hwpt) : Type 0 where
  pub needed : list_any (is_idle_in file ioas areas tables) frames ≡ false
  pub mapped : (h : Hwpt) (page : ℕ) (to : MappedPage) → IsIn tables h → is_over file ioas h.object ≡ true →
      leads h.object page ≡ Some to → areas_meet (span_of_page page) (areas_outside span areas) ≡ true

-- the same in some way in which they stand, and there is room for the frames of the tables that go
pub record CanShed (pool : FramePool) (tables : List Hwpt) (file : FileNo) (ioas : ObjId) (areas : List Area)
    (span : Bounds) (room : ℕ) : Type 0 where
  pub frames : List TableFrame
  pub leads : Object → ℕ → Option MappedPage
  pub stand : AllStand pool frames leads tables
  pub may : MayShed file ioas areas span frames leads tables
  pub enough : count_by (is_idle_in file ioas (areas_outside span areas) tables) frames ≤ room

-- of these tables some are left; on the frame of each other one is a hold less, and it is listed
pub record GivesUp (old new : FramePool) (frames left : List TableFrame) (given : List FrameNo) : Type 0 where
  pub went : (frame : ℕ) → times frame given + tables_in left frame ≡ tables_in frames frame
  pub holds : (frame : ℕ) → slice_index new.holds frame + times frame given ≡ slice_index old.holds frame
  pub others : KeepsOthers frames old new
  pub count : length new.holds ≡ length old.holds

-- the idle tables are gone, their frames are listed by rising number, and the others stand
pub record Sheds (old new : FramePool) (frames : List TableFrame) (leads : Object → ℕ → Option MappedPage)
    (tables : List Hwpt) (goes : TableFrame → Bool) (given : List FrameNo) : Type 0 where
  pub stand : AllStand new (filter (λ table. not (goes table)) frames) leads tables
  pub gives : GivesUp old new frames (filter (λ table. not (goes table)) frames) given
  pub rising : IsNonDecreasingBy (λ frame. frame.0) given

-- the same of tables that are gone so far, whose frames stand behind what was listed in any order
pub record Shedding (old new : FramePool) (frames : List TableFrame) (leads : Object → ℕ → Option MappedPage)
    (tables : List Hwpt) (goes : TableFrame → Bool) (listed listing : List FrameNo) (before after : ℕ) : Type 0 where
  pub stand : AllStand new (filter (λ table. not (goes table)) frames) leads tables
  pub given : List FrameNo
  pub is : listing ≡ listed ++ given
  pub gives : GivesUp old new frames (filter (λ table. not (goes table)) frames) given
  pub many : after ≡ before + count_by goes frames
