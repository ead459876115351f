-- What comes with an event for which page tables need tables, and the tables that are missing then.
use Rattle.std.specs.Prelude.{◌≤◌, ◌+◌, ◌/◌, ◌^◌, ℕ, ◌&&◌, Option, Some, None, is_none, List, []}
use Rattle.std.specs.Prelude.{if◌then◌else◌}
use Rattle.std.specs.List.{range_with_len}
use Rattle.iofd_words.specs.Areas.{areas_of}
use Rattle.iofd_words.specs.Files.{device_of}
use Rattle.iofd_words.specs.Objects.{automatic_hwpt, binding_of, has_ioas, settings_under}
use Rattle.iofd_words.specs.Pages.{page_of}
use Rattle.iofd_words.specs.Settings.{DeviceSettings}
use Rattle.iofd_words.specs.TablePlaces.{live_pages}
use Rattle.iofd_words.specs.Tables.{MissingTable}
use Rattle.iofd_words.specs.World.{World}
use Rattle.iofd_words.specs.declared.event.Event.{Event}
use Rattle.iofd_words.specs.declared.event.Event.TheVariants as event
use Rattle.iofd_words.specs.declared.event.HwptRequest.{HwptRequest}
use Rattle.iofd_words.specs.declared.numbers.DeviceNo.{DeviceNo}
use Rattle.iofd_words.specs.declared.numbers.FileNo.{FileNo}
use Rattle.iofd_words.specs.declared.numbers.ObjId.{ObjId}
use Rattle.iofd_words.specs.declared.reply.Reply.{Reply}
use Rattle.iofd_words.specs.declared.reply.Reply.TheVariants as reply
use Rattle.iofd_words.specs.declared.rows.Area.{Area}
use Rattle.iofd_words.specs.declared.rows.Object.{Object}
use Rattle.iofd_words.specs.declared.rows.TableFrame.{TableFrame}
use Rattle.iofd_words.specs.declared.width.Width.{Width}
use Rattle.journal_audit_tables.specs.Missing.{missing_in, missing_over}
use Rattle.journal_audit_tables.specs.declared.coming.Coming.{Coming}
use Rattle.journal_audit_tables.specs.declared.coming.Coming.TheVariants as coming

-- ---- what comes

abbrev pub mapped : FileNo → ObjId → ℕ → Reply → Coming
mapped file ioas length (reply.Iova iova) = coming.Area file ioas iova length
mapped file ioas length answer = coming.Nothing

abbrev pub made_for : FileNo → ObjId → ObjId → Option DeviceSettings → Coming
made_for file id ioas None = coming.Nothing
made_for file id ioas (Some settings) = coming.PageTable file id ioas settings.width

abbrev pub allocated : World → FileNo → HwptRequest → Reply → Coming
allocated w file request (reply.Id id) =
    made_for file id request.ioas (settings_under w.settings w.objects file request.device)
allocated w file request answer = coming.Nothing

-- an attachment to an address space that has no automatic page table of the width makes one
abbrev pub attached_to : List Object → FileNo → ObjId → ObjId → Width → Coming
attached_to objects file pt_id id width =
    if has_ioas objects file pt_id && is_none (automatic_hwpt objects file pt_id width)
    then coming.PageTable file id pt_id width else coming.Nothing

abbrev pub attached_as : List Object → ObjId → ObjId → Option Object → Option DeviceSettings → Coming
attached_as objects pt_id id None settings = coming.Nothing
attached_as objects pt_id id (Some bound) None = coming.Nothing
attached_as objects pt_id id (Some bound) (Some settings) = attached_to objects bound.file pt_id id settings.width

abbrev pub attached : World → DeviceNo → ObjId → Reply → Coming
attached w device pt_id (reply.Id id) =
    attached_as w.objects pt_id id (binding_of w.objects device) (device_of w.settings device)
attached w device pt_id answer = coming.Nothing

abbrev pub coming_with : {A : Type 0} → World → Event A → Reply → Coming
coming_with w (event.Map file request) answer = mapped file request.ioas request.length answer
coming_with w (event.Copy file request) answer = mapped file request.dst_ioas request.length answer
coming_with w (event.HwptAlloc file request) answer = allocated w file request answer
coming_with w (event.Attach device pt_id) answer = attached w device pt_id answer
coming_with w e answer = coming.Nothing

-- its addresses end by 2^64
abbrev pub ComingFits : Coming → Type 0
ComingFits (coming.Area file ioas iova length) = iova.0 + length ≤ 2 ^ 64
ComingFits other = Unit {0}

-- ---- what is missing then

abbrev pub missing_with : Coming → List Object → List Area → List TableFrame → List MissingTable
missing_with coming.Nothing objects areas tables = []
missing_with (coming.Area file ioas iova length) objects areas tables =
    missing_over tables file ioas (range_with_len (page_of iova.0) (length / 4096)) objects
missing_with (coming.PageTable file hwpt ioas width) objects areas tables =
    missing_in tables file hwpt width (live_pages (areas_of areas file ioas))
