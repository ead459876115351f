-- What a walk of a device's page table finds (VT-d, "Second-Stage Translation"): the page is mapped by a live area of
-- the address space by which the device translates, at the frame of the page's pin and with the area's rights.
use Rattle.std.specs.Prelude.{ℕ, Option, Some, None}
use Rattle.std.specs.Option.{option_map}
use Rattle.iofd_words.specs.Areas.{area_at}
use Rattle.iofd_words.specs.Attachments.{attachment_of, ioas_of_attachment}
use Rattle.iofd_words.specs.Pins.{ObjectPage}
use Rattle.iofd_words.specs.Policy.{page_in}
use Rattle.iofd_words.specs.View.{View}
use Rattle.iofd_words.specs.declared.numbers.DeviceNo.{DeviceNo}
use Rattle.iofd_words.specs.declared.numbers.FrameNo.{FrameNo}
use Rattle.iofd_words.specs.declared.query.Translation.{Translation}
use Rattle.iofd_words.specs.declared.rows.Area.{Area}
use Rattle.iofd_words.specs.declared.rows.Attachment.{Attachment}
use Rattle.iofd_words.specs.declared.rows.Phase.{Phase}
use Rattle.iofd_words.specs.declared.rows.Phase.TheVariants.{Live, Leaving}

-- at a pinned page, with these rights
abbrev pub at_pin : Area → Option FrameNo → Option Translation
at_pin area pinned = option_map (λ frame. record { frame = frame; rights = area.rights }) pinned

-- a live area maps its pages, a leaving one none
abbrev pub by_area : (ObjectPage → Option FrameNo) → ℕ → Area → Phase → Option Translation
by_area pinned_frame address area Live = at_pin area (pinned_frame (page_in area address))
by_area pinned_frame address area (Leaving owed tries) = None

-- at the area that holds the address
abbrev pub mapped_by : (ObjectPage → Option FrameNo) → ℕ → Option Area → Option Translation
mapped_by pinned_frame address None = None
mapped_by pinned_frame address (Some area) = by_area pinned_frame address area area.phase

-- by the page table to which the device is attached
abbrev pub through : View → ℕ → Attachment → Option Translation
through v address a =
    elim (ioas_of_attachment v.objects a) [
      | Some ioas ↦ mapped_by v.pinned_frame address (area_at address (v.areas_of a.file ioas))
      | None ↦ None
    ]

-- what the page at the address is translated to for the device
unfoldable pub translation : View → DeviceNo → ℕ → Option Translation
translation v device address =
    elim (attachment_of v.attachments device) [ Some a ↦ through v address a | None ↦ None ]
