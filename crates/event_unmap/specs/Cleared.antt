-- Pages of areas that are cleared in the page tables of their address space.
use Rattle.std.specs.Prelude.{ℕ, ◌≡◌, Bool, true, false, ◌&&◌, Option, None}
use Rattle.std.specs.Prelude.{is_some, List, if◌then◌else◌}
use Rattle.std.specs.List.{list_all, list_any}
use Rattle.page_table_set.specs.OverSpans.{is_over}
use Rattle.page_table_set.specs.PageTables.{AllStand, Hwpt, IfAllStand, KeepsOthers, Stand}
use Rattle.frame_memory.specs.Pool.{FramePool}
use Rattle.iofd_rows.proofs.Each.{IsIn}
use Rattle.iofd_runs.specs.Fits.{begins_at_page}
use Rattle.iofd_words.specs.Span.{meets}
use Rattle.iofd_words.specs.Usable.{beyond}
use Rattle.iofd_words.specs.declared.numbers.FileNo.{FileNo}
use Rattle.iofd_words.specs.declared.numbers.ObjId.{ObjId}
use Rattle.iofd_words.specs.declared.rows.Area.{Area}
use Rattle.iofd_words.specs.declared.rows.Object.{Object}
use Rattle.server_state.specs.Leads.{live_area_at}
use Rattle.page_table_words.specs.Rows.{MappedPage}

-- through the page tables over the address space the pages of the live ones of these areas lead nowhere; every other
-- page leads where it did
abbrev pub cleared : FileNo → ObjId → List Area → (Object → ℕ → Option MappedPage) → Object → ℕ →
    Option MappedPage
cleared file ioas areas leads object page =
    if is_over file ioas object && is_some (live_area_at page areas) then None else leads object page

-- an area reaches addresses that the page table doesn't translate
abbrev pub is_beyond : Hwpt → Area → Bool
is_beyond h area = meets (beyond h.table.width) area.span

-- all page tables stand, and these areas begin at pages and lie below the end of each page table over the address space
pub record CanClear (pool : FramePool) (tables : List Hwpt) (file : FileNo) (ioas : ObjId)
    (areas : List Area) : Type 0 where
  pub stand : Stand pool tables
  pub starts : list_all begins_at_page areas ≡ true
  pub below : (h : Hwpt) → IsIn tables h → is_over file ioas h.object ≡ true →
      list_any (is_beyond h) areas ≡ false

-- the pages of the live ones of these areas are cleared in each page table over the address space: every other page
-- leads where it did, and each frame in which no table is has its bytes
pub record Clears (file : FileNo) (ioas : ObjId) (areas : List Area) (tables : List Hwpt)
    (before after : FramePool) : Type 0 where
  pub holds : after.holds ≡ before.holds
  pub stand : IfAllStand before tables (λ rows leads. AllStand after rows (cleared file ioas areas leads) tables)
  pub others : IfAllStand before tables (λ rows leads. KeepsOthers rows before after)
