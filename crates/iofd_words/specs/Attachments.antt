-- Devices that translate by a hardware page table.
use Rattle.std.specs.Prelude.{ℕ, Bool, false, ◌==◌, ◌&&◌, not, nat_lt, Option, Some, None, List, map, filter, find}
use Rattle.std.specs.List.{list_any}
use Rattle.iofd_words.specs.declared.numbers.FileNo.{FileNo}
use Rattle.iofd_words.specs.declared.numbers.ObjId.{ObjId}
use Rattle.iofd_words.specs.declared.numbers.DeviceNo.{DeviceNo}
use Rattle.iofd_words.specs.declared.rows.Object.{Object}
use Rattle.iofd_words.specs.declared.rows.ObjectKind.{ObjectKind}
use Rattle.iofd_words.specs.declared.rows.ObjectKind.TheVariants as kind
use Rattle.iofd_words.specs.declared.rows.Attachment.{Attachment}
use Rattle.iofd_words.specs.Objects.{kind_of, is_hwpt_over}
use Rattle.iofd_words.specs.Sorted.{inserted}

abbrev pub attachment_of : List Attachment → DeviceNo → Option Attachment
attachment_of attachments device = find (λ a. a.device.0 == device.0) attachments

-- some device translates by this page table
abbrev pub has_device_on : List Attachment → FileNo → ObjId → Bool
has_device_on attachments file hwpt = list_any (λ a. a.file.0 == file.0 && a.hwpt.0 == hwpt.0) attachments

-- the address space of a page table
abbrev pub ioas_of : ObjectKind → Option ObjId
ioas_of kind.Ioas = None
ioas_of (kind.Hwpt ioas width automatic) = Some ioas
ioas_of (kind.Device device) = None
ioas_of (kind.Access attached) = None

abbrev pub ioas_of_attachment : List Object → Attachment → Option ObjId
ioas_of_attachment objects a = elim (kind_of objects a.file a.hwpt) [ Some kind ↦ ioas_of kind | None ↦ None ]

-- attached to this address space
abbrev pub is_attached_to : List Object → FileNo → ObjId → Attachment → Bool
is_attached_to objects file ioas a =
    a.file.0 == file.0 && elim (kind_of objects a.file a.hwpt) [ Some kind ↦ is_hwpt_over ioas kind | None ↦ false ]

-- the devices attached to it, by rising number
abbrev pub devices_of : List Object → List Attachment → FileNo → ObjId → List ℕ
devices_of objects attachments file ioas =
    map (λ a. a.device.0) (filter (is_attached_to objects file ioas) attachments)

-- the first is of a lower device
abbrev pub has_lower_device : Attachment → Attachment → Bool
has_lower_device a b = nat_lt a.device.0 b.device.0

-- one more attachment, by rising device
abbrev pub with_attachment : Attachment → List Attachment → List Attachment
with_attachment = inserted has_lower_device

abbrev pub without_attachment : DeviceNo → List Attachment → List Attachment
without_attachment device attachments = filter (λ a. not (a.device.0 == device.0)) attachments
