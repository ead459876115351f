-- What an address space can't use, by the widths of its page tables and by the devices that keep addresses.
use Rattle.std.specs.Prelude.{Bool, true, false, ◌==◌, ◌&&◌, ◌||◌, List, [], ◌∷◌, ◌++◌}
use Rattle.std.specs.List.{list_any}
use Rattle.iofd_words.specs.Bounds.{Bounds}
use Rattle.iofd_words.specs.Files.{device_of}
use Rattle.iofd_words.specs.Objects.{is_hwpt_over}
use Rattle.iofd_words.specs.Ranges.{meets_some}
use Rattle.iofd_words.specs.Settings.{Settings}
use Rattle.iofd_words.specs.Span.{meets}
use Rattle.iofd_words.specs.Usable.{beyond, reserved_of}
use Rattle.iofd_words.specs.Width.{bits_of}
use Rattle.iofd_words.specs.declared.numbers.DeviceNo.{DeviceNo}
use Rattle.iofd_words.specs.declared.numbers.FileNo.{FileNo}
use Rattle.iofd_words.specs.declared.numbers.ObjId.{ObjId}
use Rattle.iofd_words.specs.declared.rows.Object.{Object}
use Rattle.iofd_words.specs.declared.rows.ObjectKind.{ObjectKind}
use Rattle.iofd_words.specs.declared.rows.ObjectKind.TheVariants as kind
use Rattle.iofd_words.specs.declared.width.Width.{Width}
use Rattle.iofd_words.specs.declared.width.Width.TheVariants.{Bits39, Bits48, Bits57}

-- whether a page table of 39 bits, one of 48 bits and one of 57 bits is there, and the devices that are attached
pub record Unusable : Type 0 where
  pub narrow : Bool
  pub wide : Bool
  pub widest : Bool
  pub devices : List DeviceNo

-- the range has an address that a page table doesn't translate, or that a device keeps for itself
abbrev pub meets_unusable : Settings → Unusable → Bounds → Bool
meets_unusable settings told range =
    (told.narrow && meets (beyond Bits39) range)
    || ((told.wide && meets (beyond Bits48) range)
    || ((told.widest && meets (beyond Bits57) range)
    || list_any (λ device. meets_some (reserved_of (device_of settings device)) range) told.devices))

-- with a page table of this width more
abbrev pub with_width : Width → Unusable → Unusable
with_width Bits39 told = record told { narrow = true }
with_width Bits48 told = record told { wide = true }
with_width Bits57 told = record told { widest = true }

abbrev pub with_attached : DeviceNo → Unusable → Unusable
with_attached device told = record told { devices = told.devices ++ device ∷ [] }

-- the object is a page table of this width over the address space
abbrev pub is_of_width : Width → ObjectKind → Bool
is_of_width width kind.Ioas = false
is_of_width width (kind.Hwpt ioas of automatic) = bits_of of == bits_of width
is_of_width width (kind.Device device) = false
is_of_width width (kind.Access attached) = false

abbrev pub is_table : FileNo → ObjId → Width → Object → Bool
is_table file ioas width object =
    (object.file.0 == file.0 && is_hwpt_over ioas object.kind) && is_of_width width object.kind
