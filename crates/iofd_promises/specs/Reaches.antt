-- How a device reaches a frame: by its attachment to a page table of its file, an area over the address, and the pin
-- of the page there.
use Rattle.std.specs.Prelude.{◌≡◌, ◌≢◌, ◌<◌, ◌≤◌, ℕ, ◌+◌, ◌-◌, ◌/◌, ◌==◌}
use Rattle.std.specs.Prelude.{◌||◌, Bool, true, Some, Contains, slice_get}
use Rattle.iofd_words.specs.Settings.{DeviceSettings}
use Rattle.iofd_words.specs.World.{World}
use Rattle.iofd_words.specs.declared.fault.AccessKind.{AccessKind}
use Rattle.iofd_words.specs.declared.fault.AccessKind.TheVariants.{Read, Write}
use Rattle.iofd_words.specs.declared.fault.Fault.{Fault}
use Rattle.iofd_words.specs.declared.fault.FaultReason.{FaultReason}
use Rattle.iofd_words.specs.declared.fault.FaultReason.TheVariants.{NoContext, BeyondWidth, WriteDenied, ReadDenied}
use Rattle.iofd_words.specs.declared.numbers.DeviceNo.{DeviceNo}
use Rattle.iofd_words.specs.declared.numbers.FileNo.{FileNo}
use Rattle.iofd_words.specs.declared.numbers.FrameNo.{FrameNo}
use Rattle.iofd_words.specs.declared.numbers.ObjId.{ObjId}
use Rattle.iofd_words.specs.declared.rows.Area.{Area}
use Rattle.iofd_words.specs.declared.rows.Attachment.{Attachment}
use Rattle.iofd_words.specs.declared.rows.Object.{Object}
use Rattle.iofd_words.specs.declared.rows.ObjectKind.TheVariants as kind
use Rattle.iofd_words.specs.declared.rows.Phase.{Phase}
use Rattle.iofd_words.specs.declared.rows.Phase.TheVariants.{Live, Leaving}
use Rattle.iofd_words.specs.declared.rows.Pin.{Pin}
use Rattle.iofd_words.specs.declared.width.Width.{Width}
use Rattle.iofd_promises.specs.Reserved.{end_of}

-- rights let a device read (1), write (2), or both (3)
abbrev pub lets : AccessKind → ℕ → Bool
lets Read rights = rights == 1 || rights == 3
lets Write rights = rights == 2 || rights == 3

-- the device translates by a page table of this file over this address space
pub record TranslatesBy (w : World) (device : DeviceNo) (file : FileNo) (ioas : ObjId) : Type 0 where
  pub attachment : Attachment
  pub attached : Contains w.attachments attachment
  pub of_device : attachment.device ≡ device
  pub of_file : attachment.file ≡ file
  pub table : Object
  pub there : Contains w.objects table
  pub table_file : table.file ≡ file
  pub table_id : table.id ≡ attachment.hwpt
  pub width : Width
  pub automatic : Bool
  pub over : table.kind ≡ kind.Hwpt ioas width automatic

-- the area is of the address space by which the device translates, holds the address and gives the right
pub record IsOver (w : World) (device : DeviceNo) (address : ℕ) (access : AccessKind) (area : Area) : Type 0 where
  pub there : Contains w.areas area
  pub translates : TranslatesBy w device area.file area.ioas
  pub first : area.span.first ≤ address
  pub last : address ≤ area.span.last
  pub right : lets access area.rights.0 ≡ true

-- mapped still, or leaving while the device owes it a flush
abbrev pub MayUse : DeviceNo → Phase → Type 0
MayUse device Live = Unit {0}
MayUse device (Leaving owed tries) = Contains owed device.0

-- such an area is over the address, and the frame is that of the pin of page (address - first) / 4096 of its memory
-- object
pub record Reaches (w : World) (device : DeviceNo) (address : ℕ) (access : AccessKind) (frame : FrameNo) : Type 0 where
  pub area : Area
  pub over : IsOver w device address access area
  pub phase : MayUse device area.phase
  pub pin : Pin
  pub pinned : Contains w.pins pin
  pub object : pin.memory ≡ area.memory
  pub page : pin.index ≡ (address - area.span.first) / 4096
  pub frame_is : pin.frame ≡ frame

-- ---- why an access is denied

-- what is set for a device: devices are numbered from 1
abbrev pub IsSetFor : World → DeviceNo → DeviceSettings → Type 0
IsSetFor w device d = (n : ℕ) × (device.0 ≡ n + 1) × (slice_get w.settings.devices n ≡ Some d)

-- the device is attached, and its tables translate the address
pub record IsWithin (w : World) (device : DeviceNo) (address : ℕ) : Type 0 where
  pub attachment : Attachment
  pub attached : Contains w.attachments attachment
  pub of_device : attachment.device ≡ device
  pub below : (d : DeviceSettings) → IsSetFor w device d → address < end_of d.width

-- the device is attached, and its tables end at or below the address
pub record IsBeyond (w : World) (device : DeviceNo) (address : ℕ) : Type 0 where
  pub attachment : Attachment
  pub attached : Contains w.attachments attachment
  pub of_device : attachment.device ≡ device
  pub settings : DeviceSettings
  pub set : IsSetFor w device settings
  pub above : end_of settings.width ≤ address

-- the reason says why: no attachment, an address beyond the width, or else an address that isn't mapped for this access
abbrev pub IsWhy : World → DeviceNo → ℕ → AccessKind → FaultReason → Type 0
IsWhy w device address access NoContext = (a : Attachment) → Contains w.attachments a → a.device.0 ≢ device.0
IsWhy w device address access BeyondWidth = IsBeyond w device address
IsWhy w device address access WriteDenied = (access ≡ Write) × IsWithin w device address
IsWhy w device address access ReadDenied = (access ≡ Read) × IsWithin w device address

-- the fault names the page, the access, the device's source id, and why
pub record TellsWhy (w : World) (device : DeviceNo) (address : ℕ) (access : AccessKind) (fault : Fault) : Type 0 where
  pub page : fault.page ≡ address / 4096
  pub kind_is : fault.kind ≡ access
  pub source : (d : DeviceSettings) → IsSetFor w device d → fault.source ≡ d.source
  pub why : IsWhy w device address access fault.reason
