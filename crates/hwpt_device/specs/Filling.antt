-- A page table that comes with what its address space maps: which tables it takes, and where its pages lead then.
use Rattle.std.specs.Prelude.{ℕ, ◌≡◌, ◌≤◌, ◌<◌, ◌+◌, ◌*◌, true, false, ◌==◌, ◌&&◌}
use Rattle.std.specs.Prelude.{Option, Some, None, is_some}
use Rattle.std.specs.Prelude.{List, [], ◌++◌, find, length, map, if◌then◌else◌}
use Rattle.area_map_rows.specs.Areas.{AreApart}
use Rattle.frame_memory.specs.Pool.{FramePool, free_count}
use Rattle.page_table_set.specs.OverSpans.{frames_for, with_missing}
use Rattle.page_table_set.specs.PageTables.{AllStand, Hwpt, KeepsOthers, hwpt_of, rows_of}
use Rattle.iofd_rows.proofs.Each.{IsIn}
use Rattle.iofd_runs.specs.Fits.{begins_at_page, is_of_pages}
use Rattle.iofd_words.specs.Objects.{is_object}
use Rattle.iofd_words.specs.Span.{meets, size_of}
use Rattle.iofd_words.specs.TablePlaces.{has_table, is_live, lacking, live_pages, places_of}
use Rattle.iofd_words.specs.Tables.{MissingTable}
use Rattle.iofd_words.specs.Usable.{beyond}
use Rattle.iofd_words.specs.declared.numbers.FileNo.{FileNo}
use Rattle.iofd_words.specs.declared.numbers.FrameNo.{FrameNo}
use Rattle.iofd_words.specs.declared.numbers.ObjId.{ObjId}
use Rattle.iofd_words.specs.declared.rows.Area.{Area}
use Rattle.iofd_words.specs.declared.rows.MemoryObject.{MemoryObject}
use Rattle.iofd_words.specs.declared.rows.Object.{Object}
use Rattle.iofd_words.specs.declared.rows.TableFrame.{TableFrame}
use Rattle.iofd_words.specs.declared.width.Width.{Width}
use Rattle.server_state.specs.Leads.{leads_in, live_area_at}
use Rattle.page_table_spans.specs.Spans.{held_once}
use Rattle.page_table_words.specs.Rows.{MappedPage}
use Rattle.user_memory.specs.Memory as memory
use Rattle.user_memory.specs.Memory.{Memory, pinned_frame, table_pins}

-- ---- its tables

-- those that a page table of this object and width lacks to map these pages: by rising address, and from the root down
abbrev pub tables_for : List TableFrame → Object → Width → List ℕ → List MissingTable
tables_for frames object width pages =
    map (λ place. record { file = object.file; hwpt = object.id; place = place })
    (lacking (has_table frames object.file object.id) (places_of width pages))

-- the rows, and then those of its tables for the live areas, in the least frames that are free by these holds
abbrev pub with_tables_for : List TableFrame → Object → Width → List Area → List ℕ → List TableFrame
with_tables_for frames object width areas holds =
    with_missing frames (tables_for frames object width (live_pages areas)) holds

-- ---- its pages

-- through the file's page table of this id the pages of live areas lead to the frames at which they are pinned; every
-- other page leads where it did
abbrev pub filled : FileNo → ObjId → Memory → List Area → (Object → ℕ → Option MappedPage)
    → Object → ℕ → Option MappedPage
filled file id m areas leads object page =
    if is_object file id object && is_some (live_area_at page areas) then leads_in (pinned_frame m) areas page
    else leads object page

-- ---- what is asked

-- pins stand on the area's memory object, which has the area's size
pub record IsPinnedWhole (m : Memory) (area : Area) : Type 0 where
  pub pins : 0 < table_pins m area.memory
  pub object : MemoryObject
  pub found : find (λ row. row.number == area.memory) (memory.rows_of m) ≡ Some object
  pub size : object.count * 4096 ≡ size_of area.span

-- the area can be mapped in a page table of this width
pub record IsMappable (m : Memory) (width : Width) (area : Area) : Type 0 where
  pub pages : is_of_pages area ≡ true
  pub starts : begins_at_page area ≡ true
  pub wide : meets (beyond width) area.span ≡ false
  pub pinned : IsPinnedWhole m area
  pub some_right : 0 < area.rights.0
  pub no_other : area.rights.0 < 4

-- each live area can
abbrev pub AreMappable : Memory → Width → List Area → Type 0
AreMappable m width areas =
    (area : Area) → IsIn areas area → is_live area.phase ≡ true → IsMappable m width area

-- they can in the file's page table of this id, for whose tables there are free frames, and room
pub record CanFill (pool : FramePool) (tables : List Hwpt) (m : Memory) (file : FileNo) (id : ObjId) (areas : List Area)
    (room : ℕ) : Type 0 where
  pub hwpt : Hwpt
  pub found : hwpt_of tables file id ≡ Some hwpt
  pub frames : List TableFrame
  pub leads : Object → ℕ → Option MappedPage
  pub stand : AllStand pool frames leads tables
  pub free : length (tables_for frames hwpt.object hwpt.table.width (live_pages areas)) ≤ free_count pool.holds
  pub enough : length (tables_for frames hwpt.object hwpt.table.width (live_pages areas)) ≤ room
  pub apart : AreApart areas
  pub mappable : AreMappable m hwpt.table.width areas

-- they can in a new page table of this object and width: no row is its
pub record CanAdd (pool : FramePool) (tables : List Hwpt) (m : Memory) (object : Object) (width : Width)
    (areas : List Area) (room : ℕ) : Type 0 where
  pub frames : List TableFrame
  pub leads : Object → ℕ → Option MappedPage
  pub stand : AllStand pool frames leads tables
  pub none : rows_of frames object ≡ []
  pub nowhere : (page : ℕ) → leads object page ≡ None
  pub other : hwpt_of tables object.file object.id ≡ None
  pub free : length (tables_for frames object width (live_pages areas)) ≤ free_count pool.holds
  pub enough : length (tables_for frames object width (live_pages areas)) ≤ room
  pub mappable : AreMappable m width areas

-- ---- what is done

-- its tables are in the least free frames, which are named after those before, and all page tables stand with them
pub record IsFilled (object : Object) (width : Width) (m : Memory) (areas : List Area) (tables : List Hwpt)
    (before after : FramePool) (old new : List FrameNo) (frames : List TableFrame)
    (leads : Object → ℕ → Option MappedPage) : Type 0 where
  pub stand : AllStand after (with_tables_for frames object width areas before.holds)
      (filled object.file object.id m areas leads) tables
  pub others : KeepsOthers (with_tables_for frames object width areas before.holds) before after
  pub holds : after.holds
      ≡ held_once before.holds (frames_for (tables_for frames object width (live_pages areas)) before.holds)
  pub free : free_count after.holds + length (tables_for frames object width (live_pages areas))
      ≡ free_count before.holds
  pub out : new ≡ old ++ frames_for (tables_for frames object width (live_pages areas)) before.holds

-- so it is in the file's page table of this id, in whatever way they stood before
abbrev pub Fills : FileNo → ObjId → Memory → List Area → List Hwpt → FramePool → FramePool
    → List FrameNo → List FrameNo → Type 0
Fills file id m areas tables before after old new =
    (h : Hwpt) → hwpt_of tables file id ≡ Some h →
    (frames : List TableFrame) (leads : Object → ℕ → Option MappedPage) →
    AllStand before frames leads tables →
    IsFilled h.object h.table.width m areas tables before after old new frames leads

-- and in a new one of this object and width, whose root is in the first of the frames, where no row was its
abbrev pub Adds : Object → Width → Memory → List Area → List Hwpt → List Hwpt → FramePool → FramePool
    → List FrameNo → List FrameNo → Type 0
Adds object width m areas tables more before after old new =
    (frames : List TableFrame) (leads : Object → ℕ → Option MappedPage) →
    AllStand before frames leads tables →
    rows_of frames object ≡ [] → ((page : ℕ) → leads object page ≡ None) →
    IsFilled object width m areas more before after old new frames leads
