-- What an UNMAP waits for, by areas and by access pins.
use Rattle.std.specs.Prelude.{Bool, false, ◌==◌, ◌&&◌, not, length, List, Some, None}
use Rattle.iofd_words.specs.Bounds.{Bounds}
use Rattle.iofd_words.specs.Objects.{access_ioas_of}
use Rattle.iofd_words.specs.Span.{meets}
use Rattle.iofd_words.specs.declared.numbers.FileNo.{FileNo}
use Rattle.iofd_words.specs.declared.numbers.ObjId.{ObjId}
use Rattle.iofd_words.specs.declared.rows.AccessPin.{AccessPin}
use Rattle.iofd_words.specs.declared.rows.Object.{Object}
use Rattle.iofd_words.specs.declared.rows.Phase.{Phase}
use Rattle.iofd_words.specs.declared.rows.Phase.TheVariants.{Live, Leaving}

-- some device still has to flush, where it is told whether one is attached
abbrev pub are_owed : Bool → Phase → Bool
are_owed attached Live = attached
are_owed attached (Leaving owed tries) = not (length owed == 0)

-- the pin is of an access object that is attached to the address space, and meets the span
abbrev pub is_pin_at : List Object → FileNo → ObjId → Bounds → AccessPin → Bool
is_pin_at objects file ioas span pin =
    pin.file.0 == file.0 && meets pin.span span
    && elim (access_ioas_of objects pin.file pin.access) [ Some attached ↦ attached.0 == ioas.0 | None ↦ false ]
