-- What an access object asks of its address space (iommufd.rst, "User Objects", on struct iommufd_access; `iommufd.h`
-- of the kernel, iommufd_access_pin_pages and iommufd_access_rw). It reaches pages that it has pinned, and no others.
use Rattle.std.specs.Prelude.{ℕ, ◌+◌, ◌*◌, ◌/◌, Bool, ◌==◌, ◌&&◌, ◌||◌, not, Option, Some, None, is_none, List}
use Rattle.std.specs.Prelude.{[], map, filter}
use Rattle.std.specs.List.{list_any, range_with_len}
use Rattle.iofd_words.specs.Areas.{area_at}
use Rattle.iofd_words.specs.Bounds.{Bounds}
use Rattle.iofd_words.specs.Objects.{access_ioas_of}
use Rattle.iofd_words.specs.Pins.{ObjectPage, span_of_page, unpinned_pages}
use Rattle.iofd_words.specs.Policy.{page_in}
use Rattle.iofd_words.specs.Rights.{has_right}
use Rattle.iofd_words.specs.Span.{lies_in, meets, size_of, span_from}
use Rattle.iofd_words.specs.TablePlaces.{is_live}
use Rattle.iofd_words.specs.View.{View}
use Rattle.iofd_words.specs.declared.event.PinRequest.{PinRequest}
use Rattle.iofd_words.specs.declared.fault.AccessKind.TheVariants.{Read, Write}
use Rattle.iofd_words.specs.declared.numbers.FileNo.{FileNo}
use Rattle.iofd_words.specs.declared.numbers.FrameNo.{FrameNo}
use Rattle.iofd_words.specs.declared.numbers.ObjId.{ObjId}
use Rattle.iofd_words.specs.declared.rows.AccessPin.{AccessPin}
use Rattle.iofd_words.specs.declared.rows.Area.{Area}

-- ---- a pin that is asked for

abbrev pub pinned_span : PinRequest → Bounds
pinned_span request = span_from request.iova.0 request.length

abbrev pub pin_of : FileNo → ObjId → PinRequest → AccessPin
pin_of file access request =
    record { file = file; access = access; span = pinned_span request; write = request.write }

-- the pages of a span, from the first on
abbrev pub page_spans : Bounds → List Bounds
page_spans span = map (λ i. span_from (span.first + 4096 * i) 4096) (range_with_len 0 (size_of span / 4096))

-- some page of the span lies in no area
abbrev pub has_gap : Bounds → List Area → Bool
has_gap span areas = list_any (λ page. not (list_any (λ area. lies_in page area.span) areas)) (page_spans span)

-- an area that has an address in common with the span is leaving
abbrev pub meets_leaving : Bounds → List Area → Bool
meets_leaving span areas = list_any (λ area. meets area.span span && not (is_live area.phase)) areas

-- one may not be read, or not be written where the pin is for writes too
abbrev pub lacks_right : Bool → Area → Bool
lacks_right write area = not (has_right area.rights Read) || (write && not (has_right area.rights Write))

abbrev pub meets_without_right : Bounds → Bool → List Area → Bool
meets_without_right span write areas = list_any (λ area. meets area.span span && lacks_right write area) areas

-- the page lies in the span, in some of these areas
abbrev pub is_spanned : Bounds → List Area → ObjectPage → Bool
is_spanned span areas page =
    list_any (λ area. area.memory == page.memory && lies_in (span_of_page area page.index) span) areas

-- the pages that a pin of the span pins: those that lie in it and aren't pinned yet, each once
abbrev pub newly_accessed : View → FileNo → ObjId → Bounds → List ObjectPage
newly_accessed v file ioas span =
    filter (is_spanned span (v.areas_of file ioas)) (unpinned_pages v.pinned_frame v.memory)

-- they are needed
abbrev pub lacks_accessed_page : View → FileNo → ObjId → Bounds → Bool
lacks_accessed_page v file ioas span = list_any (λ page. is_none (v.frame_now page)) (newly_accessed v file ioas span)

-- ---- what it reaches

-- the frame at which the page at the address is pinned, in the address space to which the access object is attached
abbrev pub frame_in : View → Option Area → ℕ → Option FrameNo
frame_in v None address = None
frame_in v (Some area) address = v.pinned_frame (page_in area address)

abbrev pub accessed_frame : View → FileNo → ObjId → ℕ → Option FrameNo
accessed_frame v file access address =
    elim (access_ioas_of v.objects file access)
    [ Some ioas ↦ frame_in v (area_at address (v.areas_of file ioas)) address | None ↦ None ]

-- the spans of the areas in which it holds a pin and that are leaving, by rising start: its driver is asked to let go
abbrev pub notices : View → FileNo → ObjId → List Bounds
notices v file access =
    elim (access_ioas_of v.objects file access) [
      | Some ioas ↦ map (λ area. area.span)
          (filter (λ area. not (is_live area.phase) && v.meets_pin file access area.span) (v.areas_of file ioas))
      | None ↦ []
    ]
