-- Where the pages of an address space lead: to the frames of the pins of its live areas, with the rights of these.
use Rattle.std.specs.Prelude.{ℕ, ◌-◌, ◌*◌, ◌&&◌, Option, Some, None, List, find}
use Rattle.iofd_words.specs.Areas.{areas_of}
use Rattle.iofd_words.specs.Pages.{page_of}
use Rattle.iofd_words.specs.Pins.{ObjectPage, pinned_frame}
use Rattle.iofd_words.specs.Span.{holds}
use Rattle.iofd_words.specs.TablePlaces.{is_live}
use Rattle.iofd_words.specs.World.{World}
use Rattle.iofd_words.specs.declared.numbers.FileNo.{FileNo}
use Rattle.iofd_words.specs.declared.numbers.FrameNo.{FrameNo}
use Rattle.iofd_words.specs.declared.numbers.ObjId.{ObjId}
use Rattle.iofd_words.specs.declared.rows.Area.{Area}
use Rattle.iofd_words.specs.declared.rows.Object.{Object}
use Rattle.iofd_words.specs.declared.rows.ObjectKind.{ObjectKind}
use Rattle.iofd_words.specs.declared.rows.ObjectKind.TheVariants as kind
use Rattle.iofd_words.specs.declared.rows.Pin.{Pin}
use Rattle.page_table_words.specs.Rows.{MappedPage}

-- the live area that holds the page
abbrev pub live_area_at : ℕ → List Area → Option Area
live_area_at page areas = find (λ area. is_live area.phase && holds area.span (page * 4096)) areas

-- which page of the area's memory object it is
abbrev pub object_page : ℕ → Area → ObjectPage
object_page page area = record { memory = area.memory; index = page - page_of area.span.first }

-- a page of a live area leads to the frame at which it is pinned
abbrev pub lead_by : (ObjectPage → Option FrameNo) → ℕ → Option Area → Option MappedPage
lead_by frame_of page None = None
lead_by frame_of page (Some area) =
    elim (frame_of (object_page page area)) [
      | Some frame ↦ Some (record { page = page; frame = frame; rights = area.rights })
      | None ↦ None
    ]

-- a page of an address space with these areas
abbrev pub leads_in : (ObjectPage → Option FrameNo) → List Area → ℕ → Option MappedPage
leads_in frame_of areas page = lead_by frame_of page (live_area_at page areas)

-- a page of the file's address space of this id
abbrev pub space_leads : List Pin → List Area → FileNo → ObjId → ℕ → Option MappedPage
space_leads pins areas file ioas page = leads_in (pinned_frame pins) (areas_of areas file ioas) page

-- a page through an object: only a page table leads anywhere
abbrev pub leads_by_kind : List Pin → List Area → FileNo → ObjectKind → ℕ → Option MappedPage
leads_by_kind pins areas file kind.Ioas page = None
leads_by_kind pins areas file (kind.Hwpt ioas width automatic) page = space_leads pins areas file ioas page
leads_by_kind pins areas file (kind.Device device) page = None
leads_by_kind pins areas file (kind.Access attached) page = None

abbrev pub leads_of : World → Object → ℕ → Option MappedPage
leads_of w object page = leads_by_kind w.pins w.areas object.file object.kind page
