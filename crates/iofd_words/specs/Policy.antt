-- What may come of a device's access (VT-d, "Address Translation" and "Fault Reasons", legacy mode). The first of
-- these that applies:
--   1. the device has no attachment: it is denied, no context;
--   2. the address is at or above the width of its tables: it is denied, beyond the width;
--   3. a live area of its address space holds the address and has the right: it passes, at the frame of the page's pin;
--   4. a leaving area does, and the device still owes it a flush: it passes so, or is denied as in 5;
--   5. else it is denied for want of the right, a write or a read.
-- `access_outcomes` is the whole, by what is read of a world, and `outcomes` the same of a world; the words before are
-- its parts.
use Rattle.std.specs.Prelude.{ℕ, ◌-◌, ◌/◌, ◌^◌, nat_le, ◌==◌, Bool, false, Option, Some, None, List, [], ◌∷◌}
use Rattle.std.specs.Prelude.{◌++◌, if◌then◌else◌}
use Rattle.iofd_words.specs.Areas.{area_at}
use Rattle.iofd_words.specs.Attachments.{attachment_of, ioas_of_attachment}
use Rattle.iofd_words.specs.DeviceSet.{has_device}
use Rattle.iofd_words.specs.Fault.{denied_by}
use Rattle.iofd_words.specs.Files.{device_of}
use Rattle.iofd_words.specs.Pages.{page_of}
use Rattle.iofd_words.specs.Pins.{ObjectPage}
use Rattle.iofd_words.specs.Rights.{has_right}
use Rattle.iofd_words.specs.Settings.{DeviceSettings, Settings}
use Rattle.iofd_words.specs.Width.{bits_of}
use Rattle.iofd_words.specs.View.{View, view}
use Rattle.iofd_words.specs.World.{World}
use Rattle.iofd_words.specs.declared.fault.AccessKind.{AccessKind}
use Rattle.iofd_words.specs.declared.fault.Fault.{Fault}
use Rattle.iofd_words.specs.declared.fault.FaultReason.{FaultReason}
use Rattle.iofd_words.specs.declared.fault.FaultReason.TheVariants.{NoContext, BeyondWidth}
use Rattle.iofd_words.specs.declared.numbers.DeviceNo.{DeviceNo}
use Rattle.iofd_words.specs.declared.numbers.FrameNo.{FrameNo}
use Rattle.iofd_words.specs.declared.rows.Area.{Area}
use Rattle.iofd_words.specs.declared.rows.Attachment.{Attachment}
use Rattle.iofd_words.specs.declared.rows.Phase.{Phase}
use Rattle.iofd_words.specs.declared.rows.Phase.TheVariants.{Live, Leaving}

-- it passes at a frame, or is denied for a reason
pub data Outcome : Type 0 where
  Passes : FrameNo → Outcome
  Denied : FaultReason → Outcome

-- it passes at this frame
abbrev pub is_pass_at : FrameNo → Outcome → Bool
is_pass_at frame (Passes at) = at.0 == frame.0
is_pass_at frame (Denied reason) = false

-- the page of its memory object that an area has at the address
abbrev pub page_in : Area → ℕ → ObjectPage
page_in area address = record { memory = area.memory; index = (address - area.span.first) / 4096 }

-- passing at the frame of the page's pin, which each page of an area has that an attached device may reach
abbrev pub passing : Option FrameNo → List Outcome
passing (Some frame) = Passes frame ∷ []
passing None = []

-- a live area lets it pass; a leaving one may, as long as the device owes a flush, or may deny it
abbrev pub by_phase : DeviceNo → Phase → List Outcome → List Outcome → List Outcome
by_phase device Live pass deny = pass
by_phase device (Leaving owed tries) pass deny = if has_device owed device.0 then pass ++ deny else deny

-- what may come of it at the area that holds the address
abbrev pub at_area : (ObjectPage → Option FrameNo) → DeviceNo → ℕ → AccessKind →
    Option Area → List Outcome
at_area pinned_frame device address kind None = Denied (denied_by kind) ∷ []
at_area pinned_frame device address kind (Some area) =
    if has_right area.rights kind
    then by_phase device area.phase (passing (pinned_frame (page_in area address))) (Denied (denied_by kind) ∷ [])
    else Denied (denied_by kind) ∷ []

-- where the device is attached
abbrev pub translated : View → DeviceNo → ℕ → AccessKind → Attachment → List Outcome
translated v device address kind a =
    elim (ioas_of_attachment v.objects a) [
      | Some ioas ↦ at_area v.pinned_frame device address kind (area_at address (v.areas_of a.file ioas))
      | None ↦ Denied (denied_by kind) ∷ []
    ]

-- one or the other: the address is at or above the width of the device's tables, or below it
abbrev pub by_width : Option DeviceSettings → ℕ → List Outcome → List Outcome → List Outcome
by_width None address beyond within = within
by_width (Some device) address beyond within = if nat_le (2 ^ bits_of device.width) address then beyond else within

-- all that may come of it: no attachment, then the width, then the area
unfoldable pub access_outcomes : View → DeviceNo → ℕ → AccessKind → List Outcome
access_outcomes v device address kind =
    elim (attachment_of v.attachments device) [
      | None ↦ Denied NoContext ∷ []
      | Some a ↦ by_width (device_of v.settings device) address (Denied BeyondWidth ∷ [])
          (translated v device address kind a)
    ]

-- all that may come of it in this world
unfoldable pub outcomes : World → DeviceNo → ℕ → AccessKind → List Outcome
outcomes w device address kind = access_outcomes (view w) device address kind

-- how a denial is told: the device's source id, the address's page, the kind of access and the reason
abbrev pub fault_of : Settings → DeviceNo → ℕ → AccessKind → FaultReason → Fault
fault_of settings device address kind reason =
    record {
      source = elim (device_of settings device) [ Some d ↦ d.source | None ↦ record { 0 = 0 } ];
      page = page_of address;
      kind = kind;
      reason = reason;
    }
