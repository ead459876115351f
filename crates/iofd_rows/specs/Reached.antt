-- Which page tables and which devices reach a span, so that it can't be used.
use Rattle.std.specs.Prelude.{Bool, ◌==◌, ◌&&◌, List}
use Rattle.iofd_words.specs.Attachments.{is_attached_to}
use Rattle.iofd_words.specs.Bounds.{Bounds}
use Rattle.iofd_words.specs.Files.{device_of}
use Rattle.iofd_words.specs.Objects.{is_hwpt_over}
use Rattle.iofd_words.specs.Ranges.{meets_some}
use Rattle.iofd_words.specs.Settings.{Settings}
use Rattle.iofd_words.specs.Usable.{beyond_table, reserved_of}
use Rattle.iofd_words.specs.declared.numbers.FileNo.{FileNo}
use Rattle.iofd_words.specs.declared.numbers.ObjId.{ObjId}
use Rattle.iofd_words.specs.declared.rows.Attachment.{Attachment}
use Rattle.iofd_words.specs.declared.rows.Object.{Object}
use Rattle.iofd_words.specs.declared.rows.ObjectKind.{ObjectKind}

-- what is a page table over the address space, and doesn't translate all of the span
abbrev pub ends_in_kind : ObjId → Bounds → ObjectKind → Bool
ends_in_kind ioas span kind = is_hwpt_over ioas kind && meets_some (beyond_table kind) span

-- the object is such a page table of the file
abbrev pub ends_in : FileNo → ObjId → Bounds → Object → Bool
ends_in file ioas span object =
    (object.file.0 == file.0 && is_hwpt_over ioas object.kind) && meets_some (beyond_table object.kind) span

-- the device is attached to the address space, and keeps some of the span
abbrev pub keeps_of : Settings → List Object → FileNo → ObjId → Bounds → Attachment → Bool
keeps_of settings objects file ioas span a =
    is_attached_to objects file ioas a && meets_some (reserved_of (device_of settings a.device)) span
