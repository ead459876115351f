-- Which rows of tables go with an event.
use Rattle.std.specs.Prelude.{Bool, false, ◌==◌, ◌&&◌, not, Option, Some, None, if◌then◌else◌}
use Rattle.iofd_words.specs.Attachments.{attachment_of, has_device_on, without_attachment}
use Rattle.iofd_words.specs.Objects.{is_automatic, kind_of}
use Rattle.iofd_words.specs.TablePlaces.{is_table_of}
use Rattle.iofd_words.specs.World.{World}
use Rattle.iofd_words.specs.declared.event.Event.{Event}
use Rattle.iofd_words.specs.declared.event.Event.TheVariants as event
use Rattle.iofd_words.specs.declared.numbers.DeviceNo.{DeviceNo}
use Rattle.iofd_words.specs.declared.rows.Attachment.{Attachment}
use Rattle.iofd_words.specs.declared.rows.ObjectKind.{ObjectKind}
use Rattle.iofd_words.specs.declared.rows.TableFrame.{TableFrame}
use Rattle.journal_audit_events.specs.declared.gone.Gone.{Gone}
use Rattle.journal_audit_events.specs.declared.gone.Gone.TheVariants as gone

-- the row is one that goes
abbrev pub is_gone : Gone → TableFrame → Bool
is_gone gone.Nothing table = false
is_gone (gone.PageTable file hwpt) table = is_table_of file hwpt table
is_gone (gone.File file) table = table.file.0 == file.0

-- with a device's attachment its page table, if it is an automatic one that no other device uses
abbrev pub is_automatic_kind : Option ObjectKind → Bool
is_automatic_kind (Some kind) = is_automatic kind
is_automatic_kind None = false

abbrev pub gone_with_attachment : World → DeviceNo → Option Attachment → Gone
gone_with_attachment w device None = gone.Nothing
gone_with_attachment w device (Some a) =
    if is_automatic_kind (kind_of w.objects a.file a.hwpt)
    && not (has_device_on (without_attachment device w.attachments) a.file a.hwpt) then gone.PageTable a.file a.hwpt
    else gone.Nothing

-- with an object what is under its id, with a file all that is its
abbrev pub gone_with : {A : Type 0} → World → Event A → Gone
gone_with w (event.Detach device) = gone_with_attachment w device (attachment_of w.attachments device)
gone_with w (event.Destroy file id) = gone.PageTable file id
gone_with w (event.Close file) = gone.File file
gone_with w e = gone.Nothing
