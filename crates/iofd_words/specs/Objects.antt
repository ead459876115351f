-- The objects of a file (iommufd.rst, "User Objects").
use Rattle.std.specs.Prelude.{◌-◌, ◌^◌, Bool, true, false, ◌==◌, ◌&&◌, ◌||◌, not, nat_le, nat_lt}
use Rattle.std.specs.Prelude.{Option, Some, None}
use Rattle.std.specs.Prelude.{is_some, List, length, map, filter, find, if◌then◌else◌}
use Rattle.std.specs.List.{list_any}
use Rattle.iofd_words.specs.Files.{device_of}
use Rattle.iofd_words.specs.Settings.{Settings, DeviceSettings, is_between}
use Rattle.iofd_words.specs.Sorted.{inserted}
use Rattle.iofd_words.specs.declared.numbers.FileNo.{FileNo}
use Rattle.iofd_words.specs.declared.numbers.ObjId.{ObjId}
use Rattle.iofd_words.specs.declared.numbers.DeviceNo.{DeviceNo}
use Rattle.iofd_words.specs.declared.width.Width.{Width}
use Rattle.iofd_words.specs.declared.rows.Object.{Object}
use Rattle.iofd_words.specs.declared.rows.ObjectKind.{ObjectKind}
use Rattle.iofd_words.specs.declared.rows.ObjectKind.TheVariants as kind
use Rattle.iofd_words.specs.Width.{bits_of}

-- ---- one object

abbrev pub is_object : FileNo → ObjId → Object → Bool
is_object file id object = object.file.0 == file.0 && object.id.0 == id.0

abbrev pub is_ioas : ObjectKind → Bool
is_ioas kind.Ioas = true
is_ioas (kind.Hwpt ioas width automatic) = false
is_ioas (kind.Device device) = false
is_ioas (kind.Access attached) = false

abbrev pub is_hwpt : ObjectKind → Bool
is_hwpt kind.Ioas = false
is_hwpt (kind.Hwpt ioas width automatic) = true
is_hwpt (kind.Device device) = false
is_hwpt (kind.Access attached) = false

-- a hardware page table over the address space
abbrev pub is_hwpt_over : ObjId → ObjectKind → Bool
is_hwpt_over ioas kind.Ioas = false
is_hwpt_over ioas (kind.Hwpt over width automatic) = over.0 == ioas.0
is_hwpt_over ioas (kind.Device device) = false
is_hwpt_over ioas (kind.Access attached) = false

-- an automatic one of the width
abbrev pub is_automatic_over : ObjId → Width → ObjectKind → Bool
is_automatic_over ioas width kind.Ioas = false
is_automatic_over ioas width (kind.Hwpt over of automatic) =
    over.0 == ioas.0 && automatic && (bits_of of == bits_of width)
is_automatic_over ioas width (kind.Device device) = false
is_automatic_over ioas width (kind.Access attached) = false

abbrev pub is_automatic : ObjectKind → Bool
is_automatic kind.Ioas = false
is_automatic (kind.Hwpt ioas width automatic) = automatic
is_automatic (kind.Device device) = false
is_automatic (kind.Access attached) = false

abbrev pub is_bound_device : ObjectKind → Bool
is_bound_device kind.Ioas = false
is_bound_device (kind.Hwpt ioas width automatic) = false
is_bound_device (kind.Device device) = true
is_bound_device (kind.Access attached) = false

-- this device
abbrev pub is_bound_as : DeviceNo → ObjectKind → Bool
is_bound_as device kind.Ioas = false
is_bound_as device (kind.Hwpt ioas width automatic) = false
is_bound_as device (kind.Device bound) = bound.0 == device.0
is_bound_as device (kind.Access attached) = false

-- the device that is bound by it
abbrev pub device_in : ObjectKind → Option DeviceNo
device_in kind.Ioas = None
device_in (kind.Hwpt ioas width automatic) = None
device_in (kind.Device device) = Some device
device_in (kind.Access attached) = None

abbrev pub is_access : ObjectKind → Bool
is_access kind.Ioas = false
is_access (kind.Hwpt ioas width automatic) = false
is_access (kind.Device device) = false
is_access (kind.Access attached) = true

-- the address space that an access object is attached to
abbrev pub access_ioas : ObjectKind → Option ObjId
access_ioas kind.Ioas = None
access_ioas (kind.Hwpt ioas width automatic) = None
access_ioas (kind.Device device) = None
access_ioas (kind.Access attached) = attached

-- an access object that is attached to the address space
abbrev pub is_access_to : ObjId → ObjectKind → Bool
is_access_to ioas kind = elim (access_ioas kind) [ Some attached ↦ attached.0 == ioas.0 | None ↦ false ]

-- ---- all objects

-- the kind of a file's object, if it has one of this id
abbrev pub kind_of : List Object → FileNo → ObjId → Option ObjectKind
kind_of objects file id = elim (find (is_object file id) objects) [ Some object ↦ Some object.kind | None ↦ None ]

abbrev pub objects_of : List Object → FileNo → List Object
objects_of objects file = filter (λ object. object.file.0 == file.0) objects

-- the file has an object of this id, and it is an address space
abbrev pub has_ioas : List Object → FileNo → ObjId → Bool
has_ioas objects file id = elim (kind_of objects file id) [ Some kind ↦ is_ioas kind | None ↦ false ]

-- the file has an object of this id, and it is a hardware page table
abbrev pub is_hwpt_under : List Object → FileNo → ObjId → Bool
is_hwpt_under objects file id = elim (kind_of objects file id) [ Some kind ↦ is_hwpt kind | None ↦ false ]

-- the address space has a hardware page table
abbrev pub has_hwpt : List Object → FileNo → ObjId → Bool
has_hwpt objects file ioas = list_any (λ object. object.file.0 == file.0 && is_hwpt_over ioas object.kind) objects

-- an access object is attached to the address space
abbrev pub has_access_to : List Object → FileNo → ObjId → Bool
has_access_to objects file ioas = list_any (λ object. object.file.0 == file.0 && is_access_to ioas object.kind) objects

-- the file has an access object of this id
abbrev pub has_access : List Object → FileNo → ObjId → Bool
has_access objects file id = elim (kind_of objects file id) [ Some kind ↦ is_access kind | None ↦ false ]

-- the address space that it is attached to
abbrev pub access_ioas_of : List Object → FileNo → ObjId → Option ObjId
access_ioas_of objects file id = elim (kind_of objects file id) [ Some kind ↦ access_ioas kind | None ↦ None ]

-- the automatic page table of this width
abbrev pub automatic_hwpt : List Object → FileNo → ObjId → Width → Option Object
automatic_hwpt objects file ioas width =
    find (λ object. object.file.0 == file.0 && is_automatic_over ioas width object.kind) objects

-- the device that the file has under this id
abbrev pub device_under : List Object → FileNo → ObjId → Option DeviceNo
device_under objects file id = elim (kind_of objects file id) [ Some kind ↦ device_in kind | None ↦ None ]

-- and what is set for it
abbrev pub settings_under : Settings → List Object → FileNo → ObjId → Option DeviceSettings
settings_under settings objects file id =
    elim (device_under objects file id) [ Some device ↦ device_of settings device | None ↦ None ]

-- the object by which a device is bound to a file
abbrev pub binding_of : List Object → DeviceNo → Option Object
binding_of objects device = find (λ object. is_bound_as device object.kind) objects

-- a file has at most 65,535 objects
abbrev pub is_full : List Object → FileNo → Bool
is_full objects file = nat_le 65535 (length (objects_of objects file))

-- an id that may be given out
abbrev pub is_fresh : List Object → FileNo → ObjId → Bool
is_fresh objects file id = is_between 1 (2 ^ 31 - 1) id.0 && not (is_some (kind_of objects file id))

-- one more object, by rising file and then by rising id
abbrev pub comes_before : Object → Object → Bool
comes_before a b = nat_lt a.file.0 b.file.0 || (a.file.0 == b.file.0 && nat_lt a.id.0 b.id.0)

abbrev pub with_object : Object → List Object → List Object
with_object = inserted comes_before

-- the file's device of this id goes
abbrev pub without_device_object : FileNo → ObjId → List Object → List Object
without_device_object file id objects =
    filter (λ object. not (is_object file id object && is_bound_device object.kind)) objects

-- the file's access object of this id is attached to this address space from now on, or to none
abbrev pub with_access : FileNo → ObjId → Option ObjId → List Object → List Object
with_access file id attached objects =
    map (λ object. if is_object file id object && is_access object.kind
    then record object { kind = kind.Access attached }
    else object) objects

abbrev pub without_object : FileNo → ObjId → List Object → List Object
without_object file id objects = filter (λ object. not (is_object file id object)) objects
