-- Which addresses of an address space may be used (uapi header, IOMMU_IOAS_IOVA_RANGES): those that each of its page
-- tables translates and no device attached to it keeps for itself.
use Rattle.std.specs.Prelude.{◌^◌, ◌==◌, ◌&&◌, Option, Some, None, List, [], ◌∷◌, ◌++◌, filter}
use Rattle.std.specs.Prelude.{map, if◌then◌else◌}
use Rattle.std.specs.List.{flat_map}
use Rattle.iofd_words.specs.Attachments.{is_attached_to}
use Rattle.iofd_words.specs.Bounds.{Bounds}
use Rattle.iofd_words.specs.Files.{device_of}
use Rattle.iofd_words.specs.Objects.{is_hwpt_over}
use Rattle.iofd_words.specs.Settings.{DeviceSettings, Settings}
use Rattle.iofd_words.specs.Width.{bits_of}
use Rattle.iofd_words.specs.declared.numbers.FileNo.{FileNo}
use Rattle.iofd_words.specs.declared.numbers.ObjId.{ObjId}
use Rattle.iofd_words.specs.declared.rows.Area.{Area}
use Rattle.iofd_words.specs.declared.rows.Attachment.{Attachment}
use Rattle.iofd_words.specs.declared.rows.Object.{Object}
use Rattle.iofd_words.specs.declared.rows.ObjectKind.{ObjectKind}
use Rattle.iofd_words.specs.declared.rows.ObjectKind.TheVariants as kind
use Rattle.iofd_words.specs.declared.width.Width.{Width}

-- all addresses
abbrev pub everything : Bounds
everything = record { first = 0; last = 0xffff_ffff_ffff_ffff }

-- the addresses at which an x86 device's writes are interrupts (VT-d, "Interrupt Requests")
abbrev pub interrupt_range : Bounds
interrupt_range = record { first = 0xfee0_0000; last = 0xfeef_ffff }

-- the spans that a device keeps for itself
abbrev pub reserved_by : DeviceSettings → List Bounds
reserved_by device = if device.x86 then interrupt_range ∷ device.reserved else device.reserved

-- the addresses that tables of this width don't translate
abbrev pub beyond : Width → Bounds
beyond width = record { first = 2 ^ bits_of width; last = 0xffff_ffff_ffff_ffff }

abbrev pub beyond_table : ObjectKind → List Bounds
beyond_table kind.Ioas = []
beyond_table (kind.Hwpt ioas width automatic) = beyond width ∷ []
beyond_table (kind.Device device) = []
beyond_table (kind.Access attached) = []

-- of the page tables of an address space
abbrev pub beyond_tables : List Object → FileNo → ObjId → List Bounds
beyond_tables objects file ioas =
    flat_map (λ object. beyond_table object.kind)
    (filter (λ object. object.file.0 == file.0 && is_hwpt_over ioas object.kind) objects)

abbrev pub reserved_of : Option DeviceSettings → List Bounds
reserved_of None = []
reserved_of (Some device) = reserved_by device

-- the spans that the devices attached to an address space keep
abbrev pub reserved_in : Settings → List Object → List Attachment → FileNo → ObjId → List Bounds
reserved_in settings objects attachments file ioas =
    flat_map (λ a. reserved_of (device_of settings a.device)) (filter (is_attached_to objects file ioas) attachments)

-- the spans of an address space that can't be used; all other addresses can
abbrev pub unusable : Settings → List Object → List Attachment → FileNo → ObjId → List Bounds
unusable settings objects attachments file ioas =
    beyond_tables objects file ioas ++ reserved_in settings objects attachments file ioas

-- the spans to which chosen addresses are bounded: all, where no list is given
abbrev pub allowed_spans : List Bounds → List Bounds
allowed_spans [] = everything ∷ []
allowed_spans (range ∷ ranges) = range ∷ ranges

-- the spans at which nothing can be mapped now: those that can't be used, and those of the areas
abbrev pub occupied : List Bounds → List Area → List Bounds
occupied unusable areas = unusable ++ map (λ area. area.span) areas
