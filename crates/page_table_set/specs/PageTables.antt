-- What is seen of the page tables of all files, and when they stand in a pool: each with its rows of the world's table
-- frames, and each of its pages leading where it is said to lead.
use Rattle.std.specs.Prelude.{ℕ, ◌≡◌, ◌≤◌, ◌^◌, ◌==◌, ◌&&◌, nat_le, nat_lt, Bool, true}
use Rattle.std.specs.Prelude.{Option, Some, None, List, []}
use Rattle.std.specs.Prelude.{◌∷◌, map, filter, find, slice_index, if◌then◌else◌}
use Rattle.std.specs.List.{count_by, list_all}
use Rattle.iofd_rows.proofs.Each.{IsIn}
use Rattle.iofd_rows.specs.Ids.{have_own_ids}
use Rattle.iofd_words.specs.Levels.{levels_of}
use Rattle.iofd_words.specs.Objects.{comes_before, is_object}
use Rattle.iofd_words.specs.Pages.{page_of}
use Rattle.iofd_words.specs.Sorted.{inserted}
use Rattle.iofd_words.specs.TablePlaces.{is_table_of}
use Rattle.iofd_words.specs.Width.{bits_of}
use Rattle.iofd_words.specs.declared.numbers.FileNo.{FileNo}
use Rattle.iofd_words.specs.declared.numbers.ObjId.{ObjId}
use Rattle.iofd_words.specs.declared.rows.Object.{Object}
use Rattle.iofd_words.specs.declared.rows.TableFrame.{TableFrame}
use Rattle.iofd_words.specs.declared.width.Width.{Width}
use Rattle.frame_memory.specs.Pool.{FramePool, bytes_of}
use Rattle.page_table.specs.declared.walk.Walk.{Walk}
use Rattle.page_table.specs.declared.walk.Walk.TheVariants as walk
use Rattle.page_table_words.specs.Rows.{MappedPage, TableRow, page_at}
use Rattle.page_table_words.specs.Stands.{TableRoot, TableStands}

-- a page table as an object of its file, and its width and root
pub record Hwpt : Type 0 where
  pub object : Object
  pub table : TableRoot

-- this object's, with its root in the frame of this number
abbrev pub hwpt_at : Object → Width → ℕ → Hwpt
hwpt_at object width frame = record { object = object; table = record { width = width; root = record { 0 = frame } } }

-- all of them, and for how many more there is room
pub record PageTables : Type 0 where
  pub tables : List Hwpt
  pub room : ℕ

abbrev pub objects_of : PageTables → List Object
objects_of page_tables = map (λ h. h.object) page_tables.tables

-- the file's page table of this id
abbrev pub hwpt_of : List Hwpt → FileNo → ObjId → Option Hwpt
hwpt_of tables file id = find (λ h. is_object file id h.object) tables

-- the first's object comes before the second's
abbrev pub stands_before : Hwpt → Hwpt → Bool
stands_before hwpt h = comes_before hwpt.object h.object

-- one more, by rising file and then by rising id
abbrev pub with_hwpt : Hwpt → List Hwpt → List Hwpt
with_hwpt = inserted stands_before

-- they stand by rising file
abbrev pub are_by_file : List Hwpt → Bool
are_by_file [] = true
are_by_file (h ∷ tables) = list_all (λ next. nat_le h.object.file.0 next.object.file.0) tables && are_by_file tables

-- ---- rows of the world

abbrev pub row_of : TableFrame → TableRow
row_of table = record { level = table.level; first = table.first.0; frame = table.frame }

-- the rows of one page table
abbrev pub rows_of : List TableFrame → Object → List TableRow
rows_of frames object = map row_of (filter (is_table_of object.file object.id) frames)

-- that of a root
abbrev pub root_frame : Hwpt → TableFrame
root_frame h =
    record {
      file = h.object.file;
      hwpt = h.object.id;
      level = levels_of h.table.width;
      first = record { 0 = 0 };
      frame = h.table.root;
    }

-- how many tables are in a frame
abbrev pub tables_in : List TableFrame → ℕ → ℕ
tables_in frames frame = count_by (λ table. table.frame.0 == frame) frames

-- ---- where they stand

-- the page table has its rows in the pool, and each page leads where it is said
pub record HwptStands (pool : FramePool) (frames : List TableFrame) (leads : ℕ → Option MappedPage)
    (h : Hwpt) : Type 0 where
  pub pages : List MappedPage
  pub found : (page : ℕ) → page_at pages page ≡ leads page
  pub stands : TableStands pool h.table (rows_of frames h.object) pages

-- each of them does and has an id of its own, and on each frame there is a hold for each table in it
pub record AllStand (pool : FramePool) (frames : List TableFrame) (leads : Object → ℕ → Option MappedPage)
    (tables : List Hwpt) : Type 0 where
  pub own : have_own_ids (map (λ h. h.object) tables) ≡ true
  pub each : (h : Hwpt) → IsIn tables h → HwptStands pool frames (leads h.object) h
  pub held : (frame : ℕ) → tables_in frames frame ≤ slice_index pool.holds frame

-- each frame that has none of these tables keeps its bytes
abbrev pub KeepsOthers : List TableFrame → FramePool → FramePool → Type 0
KeepsOthers frames old new =
    (frame : ℕ) → tables_in frames frame ≡ 0 → bytes_of new frame ≡ bytes_of old frame

-- ---- where an address leads

-- at or above the end of the width it is beyond; else it leads where its page does
abbrev pub walk_in : Width → (ℕ → Option MappedPage) → ℕ → Walk
walk_in width leads iova =
    if nat_lt iova (2 ^ bits_of width) then elim (leads (page_of iova)) [
      | Some to ↦ walk.Hit to.frame to.rights
      | None ↦ walk.None
    ] else walk.Beyond

-- where there is no such page table it leads nowhere
abbrev pub walk_through : (Object → ℕ → Option MappedPage) → ℕ → Option Hwpt → Walk
walk_through leads iova None = walk.None
walk_through leads iova (Some h) = walk_in h.table.width (leads h.object) iova

-- page tables stand, in some way
pub record Stand (pool : FramePool) (tables : List Hwpt) : Type 0 where
  pub frames : List TableFrame
  pub leads : Object → ℕ → Option MappedPage
  pub stand : AllStand pool frames leads tables

-- in whatever way they stand, this holds
abbrev pub IfAllStand : FramePool → List Hwpt →
    (List TableFrame → (Object → ℕ → Option MappedPage) → Type 0) → Type 0
IfAllStand pool tables P =
    (frames : List TableFrame) (leads : Object → ℕ → Option MappedPage) →
    AllStand pool frames leads tables → P frames leads
