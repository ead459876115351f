-- What keeps a page pinned, where access pins lie, and what a pin and an unpin change.
use Rattle.std.specs.Prelude.{◌≡◌, ◌≤◌, ◌<◌, ℕ, ◌+◌, ◌-◌, ◌*◌, ◌/◌, ◌%◌, ◌^◌, ◌==◌, Bool, true, Some, List, []}
use Rattle.std.specs.Prelude.{◌∷◌, ◌++◌, Contains, filter}
use Rattle.iofd_words.specs.World.{World}
use Rattle.iofd_words.specs.declared.event.PinRequest.{PinRequest}
use Rattle.iofd_words.specs.declared.fault.AccessKind.{AccessKind}
use Rattle.iofd_words.specs.declared.fault.AccessKind.TheVariants.{Write}
use Rattle.iofd_words.specs.declared.numbers.FileNo.{FileNo}
use Rattle.iofd_words.specs.declared.numbers.FrameNo.{FrameNo}
use Rattle.iofd_words.specs.declared.numbers.ObjId.{ObjId}
use Rattle.iofd_words.specs.declared.rows.AccessPin.{AccessPin}
use Rattle.iofd_words.specs.declared.rows.Area.{Area}
use Rattle.iofd_words.specs.declared.rows.Object.{Object}
use Rattle.iofd_words.specs.declared.rows.ObjectKind.TheVariants as kind
use Rattle.iofd_words.specs.declared.rows.Pin.{Pin}
use Rattle.iofd_words.specs.declared.width.Width.{Width}

-- ---- what keeps a page pinned

-- an access object that is attached to this address space of its file holds the pin
pub record IsHeldIn (w : World) (pin : AccessPin) (ioas : ObjId) : Type 0 where
  pub there : Contains w.access_pins pin
  pub access : Object
  pub holds : Contains w.objects access
  pub access_file : access.file ≡ pin.file
  pub access_id : access.id ≡ pin.access
  pub attached : access.kind ≡ kind.Access (Some ioas)

-- the area is over the memory object of this number, and has its page of this index
pub record IsPageOf (w : World) (area : Area) (memory index : ℕ) : Type 0 where
  pub there : Contains w.areas area
  pub over : area.memory ≡ memory
  pub within : area.span.first + 4096 * index ≤ area.span.last

-- the page lies in the pin from its first address to its last, and the pin is one of the area's address space
pub record Covers (w : World) (pin : AccessPin) (area : Area) (index : ℕ) : Type 0 where
  pub of_file : pin.file ≡ area.file
  pub held : IsHeldIn w pin area.ioas
  pub first : pin.span.first ≤ area.span.first + 4096 * index
  pub last : area.span.first + 4096 * index + 4095 ≤ pin.span.last

-- an access pin that covers the page in some area, or a page table over the address space of some area that has it
pub data KeepsPinned (w : World) (memory index : ℕ) : Type 0 where
  AnAccessPin : (pin : AccessPin) (area : Area) → IsPageOf w area memory index → Covers w pin area index
      → KeepsPinned w memory index
  APageTable : (table : Object) (area : Area) (width : Width) (automatic : Bool) → IsPageOf w area memory index
      → Contains w.objects table → table.file ≡ area.file → table.kind ≡ kind.Hwpt area.ioas width automatic
      → KeepsPinned w memory index

-- ---- where access pins lie

-- an area of the pin's address space holds the address
pub record IsUnder (w : World) (pin : AccessPin) (address : ℕ) : Type 0 where
  pub area : Area
  pub there : Contains w.areas area
  pub of_file : area.file ≡ pin.file
  pub held : IsHeldIn w pin area.ioas
  pub first : area.span.first ≤ address
  pub last : address ≤ area.span.last

-- the pin is of whole pages, at least one, and ends below 2^64
pub record IsWholePages (pin : AccessPin) : Type 0 where
  pub first : pin.span.first % 4096 ≡ 0
  pub last : pin.span.last % 4096 ≡ 4095
  pub some : pin.span.first ≤ pin.span.last
  pub below : pin.span.last < 2 ^ 64

-- ---- what is pinned and let go

-- the pin is of this access object, of the pages that are asked for, and for the accesses that are
pub record IsAskedPin (file : FileNo) (access : ObjId) (request : PinRequest) (pin : AccessPin) : Type 0 where
  pub of_file : pin.file.0 ≡ file.0
  pub of_access : pin.access.0 ≡ access.0
  pub first : pin.span.first ≡ request.iova.0
  pub last : pin.span.last + 1 ≡ request.iova.0 + request.length
  pub write : pin.write ≡ request.write

-- the rows beside pins and tables are the same
pub record SameBesidePins (old new : World) : Type 0 where
  pub objects : new.objects ≡ old.objects
  pub areas : new.areas ≡ old.areas
  pub memory : new.memory ≡ old.memory
  pub attachments : new.attachments ≡ old.attachments
  pub allowed : new.allowed ≡ old.allowed
  pub user_pages : new.user_pages ≡ old.user_pages
  pub writes : new.writes ≡ old.writes
  pub closed : new.closed ≡ old.closed

-- one access pin more, as it is asked for
pub record HasPinMore (old new : World) (file : FileNo) (access : ObjId) (request : PinRequest) : Type 0 where
  pub pin : AccessPin
  pub asked : IsAskedPin file access request pin
  pub added : new.access_pins ≡ old.access_pins ++ pin ∷ []
  pub others : SameBesidePins old new

-- one less: one of those that equal what is asked for
pub record HasPinLess (old new : World) (file : FileNo) (access : ObjId) (request : PinRequest) : Type 0 where
  pub pin : AccessPin
  pub asked : IsAskedPin file access request pin
  pub before : List AccessPin
  pub later : List AccessPin
  pub was : old.access_pins ≡ before ++ pin ∷ later
  pub left : new.access_pins ≡ before ++ later
  pub others : SameBesidePins old new

-- the access pins of a file
abbrev pub pins_of : FileNo → List AccessPin → List AccessPin
pins_of file pins = filter (λ pin. pin.file.0 == file.0) pins

-- ---- what is reached through a pin

-- the access object holds a pin over the address, for writes too where it writes; an area of its address space holds
-- the address, and the frame is that of the pin of page (address - first) / 4096 of the area's memory object
pub record ReachesByPin (w : World) (file : FileNo) (access : ObjId) (address : ℕ) (kind : AccessKind)
    (frame : FrameNo) : Type 0 where
  pub held : AccessPin
  pub of_file : held.file ≡ file
  pub of_access : held.access ≡ access
  pub from : held.span.first ≤ address
  pub to : address ≤ held.span.last
  pub right : kind ≡ Write → held.write ≡ true
  pub under : IsUnder w held address
  pub pin : Pin
  pub pinned : Contains w.pins pin
  pub object : pin.memory ≡ under.area.memory
  pub page : pin.index ≡ (address - under.area.span.first) / 4096
  pub frame_is : pin.frame ≡ frame
