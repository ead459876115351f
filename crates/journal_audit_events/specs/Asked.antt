-- Which memory objects are asked for where an object goes, or a device's attachment.
use Rattle.std.specs.Prelude.{ℕ, Bool, false, ◌&&◌, not, Option, Some, None, List, if◌then◌else◌}
use Rattle.iofd_words.specs.Areas.{is_of}
use Rattle.iofd_words.specs.Attachments.{ioas_of}
use Rattle.iofd_words.specs.declared.numbers.FileNo.{FileNo}
use Rattle.iofd_words.specs.declared.numbers.ObjId.{ObjId}
use Rattle.iofd_words.specs.declared.rows.Area.{Area}
use Rattle.iofd_words.specs.declared.rows.ObjectKind.{ObjectKind}
use Rattle.iofd_words.specs.Objects.{is_automatic}
use Rattle.journal_audit_world.specs.Over.{is_over}

-- an area of the address space, if there is one, is over the memory object of this number
abbrev pub over_space : FileNo → Option ObjId → List Area → ℕ → Bool
over_space file None areas n = false
over_space file (Some ioas) areas n = is_over (is_of file ioas) areas n

-- the address space of a page table
abbrev pub space_under : Option ObjectKind → Option ObjId
space_under None = None
space_under (Some kind) = ioas_of kind

-- that of one that goes with its last device, told whether another device uses it
abbrev pub space_left : Bool → Option ObjectKind → Option ObjId
space_left used None = None
space_left used (Some kind) = if is_automatic kind && not used then ioas_of kind else None
