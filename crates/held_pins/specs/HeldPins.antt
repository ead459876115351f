-- The pins that access objects hold (iommufd.rst, "User Objects", on struct iommufd_access).
use Rattle.std.specs.Prelude.{ℕ, ◌≡◌, ◌+◌, Bool, true, ◌==◌, ◌&&◌, not, nat_le, List, if◌then◌else◌}
use Rattle.std.specs.List.{count_by, list_any}
use Rattle.iofd_words.specs.Bounds.{Bounds}
use Rattle.iofd_words.specs.Span.{holds, is_whole_pages, meets}
use Rattle.iofd_words.specs.declared.fault.AccessKind.{AccessKind}
use Rattle.iofd_words.specs.declared.fault.AccessKind.TheVariants.{Read, Write}
use Rattle.iofd_words.specs.declared.numbers.FileNo.{FileNo}
use Rattle.iofd_words.specs.declared.numbers.ObjId.{ObjId}
use Rattle.held_pins.specs.declared.pin.HeldPin.{HeldPin}

-- ---- a pin

-- the pin is of this access object of the file
abbrev pub is_of : FileNo → ObjId → HeldPin → Bool
is_of file access pin = pin.file.0 == file.0 && pin.access.0 == access.0

-- the pin is in this address space of the file
abbrev pub is_in : FileNo → ObjId → HeldPin → Bool
is_in file ioas pin = pin.file.0 == file.0 && pin.ioas.0 == ioas.0

-- it is of whole pages, and of one at least
abbrev pub is_whole : HeldPin → Bool
is_whole pin = is_whole_pages pin.span && nat_le pin.span.first pin.span.last

-- what is pinned can be accessed so
abbrev pub allows : Bool → AccessKind → Bool
allows write Read = true
allows write Write = write

-- the two are of the same access object, address space and pages, and for the same
abbrev pub is_pin : HeldPin → HeldPin → Bool
is_pin a b =
    a.file.0 == b.file.0 && a.access.0 == b.access.0 && a.ioas.0 == b.ioas.0 && a.span.first == b.span.first
    && a.span.last == b.span.last && (if a.write then b.write else not b.write)

-- ---- the pins

-- an equal pin is held
abbrev pub is_held : List HeldPin → HeldPin → Bool
is_held pins pin = list_any (is_pin pin) pins

-- the access object holds a pin
abbrev pub holds_some : List HeldPin → FileNo → ObjId → Bool
holds_some pins file access = list_any (is_of file access) pins

-- how many pins the access object holds
abbrev pub count_of : List HeldPin → FileNo → ObjId → ℕ
count_of pins file access = count_by (is_of file access) pins

-- a pin of the access object covers the page at the address, and is for such an access
abbrev pub is_covered : List HeldPin → FileNo → ObjId → ℕ → AccessKind → Bool
is_covered pins file access address kind =
    list_any (λ pin. is_of file access pin && holds pin.span address && allows pin.write kind) pins

-- the same of its pins in this address space
abbrev pub is_covered_in : List HeldPin → FileNo → ObjId → ObjId → ℕ → AccessKind → Bool
is_covered_in pins file access ioas address kind =
    list_any (λ pin. is_of file access pin && is_in file ioas pin && holds pin.span address && allows pin.write kind)
    pins

-- a pin in the address space and the span have an address in common
abbrev pub are_met : List HeldPin → FileNo → ObjId → Bounds → Bool
are_met pins file ioas span = list_any (λ pin. is_in file ioas pin && meets pin.span span) pins

-- a pin of the access object and the span have an address in common
abbrev pub are_own_met : List HeldPin → FileNo → ObjId → Bounds → Bool
are_own_met pins file access span = list_any (λ pin. is_of file access pin && meets pin.span span) pins

-- of two lists the second has this pin more: each count of them is so much greater, in whatever order they stand
abbrev pub HasOneMore : List HeldPin → List HeldPin → HeldPin → Type 0
HasOneMore less more pin =
    (test : HeldPin → Bool) → count_by test more ≡ count_by test less + (if test pin then 1 else 0)
