-- What a device has cached, and what an entry needs to be good: an attachment, an area and a pin that stand.
use Rattle.std.specs.Prelude.{◌≡◌, ℕ, ◌*◌, Bool, true, Some, List, Contains, IsTrue}
use Rattle.iofd_words.specs.Areas.{is_of}
use Rattle.iofd_words.specs.Attachments.{attachment_of, ioas_of_attachment}
use Rattle.iofd_words.specs.DeviceSet.{has_device}
use Rattle.iofd_words.specs.Pins.{pinned_frame}
use Rattle.iofd_words.specs.Policy.{page_in}
use Rattle.iofd_words.specs.Span.{holds}
use Rattle.iofd_words.specs.World.{World}
use Rattle.iofd_words.specs.declared.flags.Rights.{Rights}
use Rattle.iofd_words.specs.declared.numbers.DeviceNo.{DeviceNo}
use Rattle.iofd_words.specs.declared.numbers.FrameNo.{FrameNo}
use Rattle.iofd_words.specs.declared.numbers.ObjId.{ObjId}
use Rattle.iofd_words.specs.declared.rows.Area.{Area}
use Rattle.iofd_words.specs.declared.rows.Attachment.{Attachment}
use Rattle.iofd_words.specs.declared.rows.Phase.{Phase}
use Rattle.iofd_words.specs.declared.rows.Phase.TheVariants.{Live, Leaving}

-- ---- entries

-- what a device keeps of a page that it was let through to: the page (an address divided by 4096), the frame and the
-- rights
pub record Entry : Type 0 where
  pub page : ℕ
  pub frame : FrameNo
  pub rights : Rights

-- the first address of the entry's page
abbrev pub address_of : Entry → ℕ
address_of entry = 4096 * entry.page

-- a cache for each device
abbrev pub Caches : Type 0
Caches = DeviceNo → List Entry

-- ---- sound entries

-- the device may still use an area: a live one, or a leaving one for which it owes a flush
abbrev pub may_use : DeviceNo → Phase → Bool
may_use device Live = true
may_use device (Leaving owed tries) = has_device owed device.0

-- what stands behind an entry: the device is attached to an address space, an area there covers the page with just
-- these rights and the device may still use it, and the pin of that page names the frame
pub record IsBacked (w : World) (device : DeviceNo) (entry : Entry) : Type 0 where
  pub attachment : Attachment
  pub attached : attachment_of w.attachments device ≡ Some attachment
  pub ioas : ObjId
  pub space : ioas_of_attachment w.objects attachment ≡ Some ioas
  pub area : Area
  pub there : Contains w.areas area
  pub own : IsTrue (is_of attachment.file ioas area)
  pub covers : IsTrue (holds area.span (address_of entry))
  pub rights : area.rights ≡ entry.rights
  pub phase : IsTrue (may_use device area.phase)
  pub pinned : pinned_frame w.pins (page_in area (address_of entry)) ≡ Some entry.frame

-- each entry is backed, so that without an attachment there is none
abbrev pub Sound : World → DeviceNo → List Entry → Type 0
Sound w device entries = (entry : Entry) → Contains entries entry → IsBacked w device entry
