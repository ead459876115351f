-- What goes with a device's attachment.
use Rattle.std.specs.Prelude.{Bool, true, false, ◌==◌, ◌&&◌, not, Some, None, List}
use Rattle.iofd_words.specs.Attachments.{attachment_of, has_device_on, without_attachment}
use Rattle.iofd_words.specs.Objects.{is_automatic, kind_of}
use Rattle.iofd_words.specs.declared.numbers.DeviceNo.{DeviceNo}
use Rattle.iofd_words.specs.declared.numbers.FileNo.{FileNo}
use Rattle.iofd_words.specs.declared.numbers.ObjId.{ObjId}
use Rattle.iofd_words.specs.declared.rows.Attachment.{Attachment}
use Rattle.iofd_words.specs.declared.rows.Object.{Object}
use Rattle.server_state.specs.Held.{own}
use Rattle.server_state.specs.declared.held.Held.{Held}
use Rattle.object_table.specs.Table.{Table}
use Rattle.object_table.specs.declared.kind.Kind.TheVariants.{Hwpt}

-- the object is an automatic page table
abbrev pub is_automatic_at : List Object → FileNo → ObjId → Bool
is_automatic_at objects file id = elim (kind_of objects file id) [ Some kind ↦ is_automatic kind | None ↦ false ]

-- the page table is an automatic one, and no device translates by it
abbrev pub is_idle : List Object → List Attachment → FileNo → ObjId → Bool
is_idle objects attachments file hwpt =
    is_automatic_at objects file hwpt && not (has_device_on attachments file hwpt)

-- no user is counted with the page table
abbrev pub has_no_user : {A : Type 0} → Table (Held A) → FileNo → ObjId → Bool
has_no_user table file hwpt = elim (own table file Hwpt hwpt) [ Some row ↦ row.users == 0 | None ↦ true ]

-- one user is counted with the page table
abbrev pub has_one_user : {A : Type 0} → Table (Held A) → FileNo → ObjId → Bool
has_one_user table file hwpt = elim (own table file Hwpt hwpt) [ Some row ↦ row.users == 1 | None ↦ false ]

-- the device is the last one on an automatic page table, which goes with it
abbrev pub takes_its_table : List Object → List Attachment → DeviceNo → Bool
takes_its_table objects attachments device =
    elim (attachment_of attachments device) [
      | Some a ↦ is_idle objects (without_attachment device attachments) a.file a.hwpt
      | None ↦ false
    ]
