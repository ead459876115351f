-- Pages of an area that is mapped in the page tables over its address space.
use Rattle.std.specs.Prelude.{ℕ, ◌≡◌, ◌<◌, ◌*◌, ◌==◌, ◌&&◌, ◌++◌, true, Option, Some}
use Rattle.std.specs.Prelude.{is_some, List, [], ◌∷◌, find}
use Rattle.std.specs.Prelude.{if◌then◌else◌}
use Rattle.frame_memory.specs.Pool.{FramePool}
use Rattle.page_table_set.specs.OverSpans.{CanMap, HaveSpan, frames_for, is_over, tables_missing, with_missing}
use Rattle.page_table_set.specs.PageTables.{AllStand, Hwpt, KeepsOthers}
use Rattle.iofd_words.specs.Span.{is_whole_pages, size_of}
use Rattle.iofd_words.specs.TablePlaces.{is_live}
use Rattle.iofd_words.specs.Tables.{MissingTable}
use Rattle.iofd_words.specs.declared.numbers.FrameNo.{FrameNo}
use Rattle.iofd_words.specs.declared.rows.Area.{Area}
use Rattle.iofd_words.specs.declared.rows.MemoryObject.{MemoryObject}
use Rattle.iofd_words.specs.declared.rows.Object.{Object}
use Rattle.iofd_words.specs.declared.rows.TableFrame.{TableFrame}
use Rattle.server_state.specs.Leads.{leads_in, live_area_at}
use Rattle.page_table_spans.specs.Spans.{held_once}
use Rattle.page_table_words.specs.Rows.{MappedPage}
use Rattle.user_memory.specs.Memory.{Memory, pinned_frame, rows_of, table_pins}

-- through the page tables over the area's address space its pages lead to the frames at which they are pinned; every
-- other page leads where it did
abbrev pub area_leads : Memory → Area → (Object → ℕ → Option MappedPage) → Object → ℕ →
    Option MappedPage
area_leads m area leads object page =
    if is_over area.file area.ioas object && is_some (live_area_at page (area ∷ []))
    then leads_in (pinned_frame m) (area ∷ []) page
    else leads object page

-- the tables that these page tables lack for it
abbrev pub missing_for : List TableFrame → Area → List Hwpt → List MissingTable
missing_for frames area tables = tables_missing frames area.file area.ioas area.span tables

-- it can be mapped: it is live, of whole pages that these page tables have and that are pinned, it gives some right and
-- none but to read and to write, and for the tables that are missing there are free frames, and room
pub record CanMapArea (pool : FramePool) (tables : List Hwpt) (m : Memory) (area : Area) (room : ℕ) : Type 0 where
  pub can : CanMap pool tables area.file area.ioas area.span room
  pub span : HaveSpan area.file area.ioas area.span tables
  pub whole : is_whole_pages area.span ≡ true
  pub live : is_live area.phase ≡ true
  pub pins : 0 < table_pins m area.memory
  pub object : MemoryObject
  pub found : find (λ row. row.number == area.memory) (rows_of m) ≡ Some object
  pub size : object.count * 4096 ≡ size_of area.span
  pub some_right : 0 < area.rights.0
  pub no_other : area.rights.0 < 4

-- it is: the missing tables are in the least free frames, which are named after those before, and all page tables stand
-- with them
pub record IsAreaMapped (m : Memory) (area : Area) (tables : List Hwpt) (before after : FramePool)
    (old new : List FrameNo) (frames : List TableFrame) (leads : Object → ℕ → Option MappedPage) : Type 0 where
  pub stand : AllStand after (with_missing frames (missing_for frames area tables) before.holds)
      (area_leads m area leads) tables
  pub others : KeepsOthers (with_missing frames (missing_for frames area tables) before.holds) before after
  pub holds : after.holds ≡ held_once before.holds (frames_for (missing_for frames area tables) before.holds)
  pub out : new ≡ old ++ frames_for (missing_for frames area tables) before.holds
