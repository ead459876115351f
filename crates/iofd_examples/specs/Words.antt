-- Shorthands for scripts and tables: events, records, rows and answers by their plain numbers, and what a table of
-- records says.
use Rattle.std.specs.Prelude.{◌≡◌, ℕ, Bool, Option, Some, None, List, [], ◌∷◌, filter, map}
use Rattle.std.specs.declared.alloc.Global.{Global}
use Rattle.iofd_words.specs.Accesses.{notices}
use Rattle.iofd_steps.specs.Answers.{write_reply}
use Rattle.iofd_words.specs.Bounds.{Bounds}
use Rattle.iofd_refusals.specs.Checks.{checks, refusal}
use Rattle.iofd_steps.specs.Look.{answers_in, notices_checks, query_checks, ranges_checks}
use Rattle.iofd_words.specs.Policy.{outcomes}
use Rattle.iofd_steps.specs.Run.{Lawful}
use Rattle.iofd_words.specs.Record.{Record}
use Rattle.iofd_words.specs.View.{view}
use Rattle.iofd_words.specs.World.{World}
use Rattle.iofd_words.specs.declared.event.Event.{Event}
use Rattle.iofd_words.specs.declared.event.Event.TheVariants as event
use Rattle.iofd_words.specs.declared.event.PinRequest.{PinRequest}
use Rattle.iofd_words.specs.declared.fault.AccessKind.{AccessKind}
use Rattle.iofd_words.specs.declared.fault.AccessKind.TheVariants.{Write}
use Rattle.iofd_words.specs.declared.fault.Fault.{Fault}
use Rattle.iofd_words.specs.declared.fault.FaultReason.{FaultReason}
use Rattle.iofd_words.specs.declared.numbers.DeviceNo.{DeviceNo}
use Rattle.iofd_words.specs.declared.numbers.FileNo.{FileNo}
use Rattle.iofd_words.specs.declared.numbers.FrameNo.{FrameNo}
use Rattle.iofd_words.specs.declared.numbers.Iova.{Iova}
use Rattle.iofd_words.specs.declared.numbers.ObjId.{ObjId}
use Rattle.iofd_words.specs.declared.numbers.UserNo.{UserNo}
use Rattle.iofd_words.specs.declared.query.Answer.{Answer}
use Rattle.iofd_words.specs.declared.query.Answer.TheVariants as answer
use Rattle.iofd_words.specs.declared.query.Query.{Query}
use Rattle.iofd_words.specs.declared.query.Query.TheVariants.{AccessRead, DeviceRead, Held, UserRead}
use Rattle.iofd_words.specs.declared.refusal.Cause.{Cause}
use Rattle.iofd_words.specs.declared.reply.Reply.{Reply}
use Rattle.iofd_words.specs.declared.reply.Reply.TheVariants as reply
use Rattle.iofd_words.specs.declared.rows.AccessPin.{AccessPin}
use Rattle.iofd_words.specs.declared.rows.Area.{Area}
use Rattle.iofd_words.specs.declared.rows.Attachment.{Attachment}
use Rattle.iofd_words.specs.declared.rows.MemoryObject.{MemoryObject}
use Rattle.iofd_words.specs.declared.rows.Object.{Object}
use Rattle.iofd_words.specs.declared.rows.ObjectKind.TheVariants as kind
use Rattle.iofd_words.specs.declared.rows.Phase.{Phase}
use Rattle.iofd_words.specs.declared.rows.Pin.{Pin}
use Rattle.iofd_words.specs.declared.rows.TableFrame.{TableFrame}
use Rattle.iofd_words.specs.declared.rows.UserPage.{UserPage}
use Rattle.iofd_words.specs.declared.width.Width.{Width}

-- ---- numbers

abbrev pub file : ℕ → FileNo
file n = record { 0 = n }

abbrev pub id : ℕ → ObjId
id n = record { 0 = n }

abbrev pub device : ℕ → DeviceNo
device n = record { 0 = n }

abbrev pub user : ℕ → UserNo
user n = record { 0 = n }

abbrev pub frame : ℕ → FrameNo
frame n = record { 0 = n }

abbrev pub iova : ℕ → Iova
iova n = record { 0 = n }

abbrev pub from_to : ℕ → ℕ → Bounds
from_to first last = record { first = first; last = last }

-- ---- events

abbrev pub ioas_alloc : ℕ → Event Global
ioas_alloc f = event.IoasAlloc (file f)

abbrev pub allow_iovas : ℕ → ℕ → List Bounds → Event Global
allow_iovas f ioas ranges = event.AllowIovas (file f) (id ioas) ranges

-- flags: 1 a fixed address, 2 writeable, 4 readable
abbrev pub map_in : ℕ → ℕ → ℕ → ℕ → ℕ → ℕ → Event Global
map_in f flags ioas va size at =
    event.Map (file f) (record {
      flags = record { 0 = flags };
      ioas = id ioas;
      user_va = va;
      length = size;
      iova = iova at;
    })

-- into the first address space out of the second; the address there, and then the one in the source
abbrev pub copy_in : ℕ → ℕ → ℕ → ℕ → ℕ → ℕ → ℕ → Event Global
copy_in f flags target source size at from =
    event.Copy (file f) (record {
      flags = record { 0 = flags };
      dst_ioas = id target;
      src_ioas = id source;
      length = size;
      dst_iova = iova at;
      src_iova = iova from;
    })

abbrev pub unmap_in : ℕ → ℕ → ℕ → ℕ → Event Global
unmap_in f ioas at size = event.Unmap (file f) (record { ioas = id ioas; iova = iova at; length = size })

-- the device's id in the file, and the address space's
abbrev pub hwpt_alloc : ℕ → ℕ → ℕ → Event Global
hwpt_alloc f of ioas = event.HwptAlloc (file f) (record { device = id of; ioas = id ioas })

abbrev pub destroy : ℕ → ℕ → Event Global
destroy f n = event.Destroy (file f) (id n)

abbrev pub close : ℕ → Event Global
close f = event.Close (file f)

abbrev pub user_map : ℕ → ℕ → Event Global
user_map u va = event.UserMap (user u) va

abbrev pub user_unmap : ℕ → ℕ → Event Global
user_unmap u va = event.UserUnmap (user u) va

abbrev pub user_write : ℕ → ℕ → List ℕ → Event Global
user_write u va bytes = event.UserWrite (user u) va bytes

abbrev pub bind : ℕ → ℕ → Event Global
bind f d = event.Bind (file f) (device d)

abbrev pub unbind : ℕ → ℕ → Event Global
unbind f n = event.Unbind (file f) (id n)

abbrev pub attach : ℕ → ℕ → Event Global
attach d pt_id = event.Attach (device d) (id pt_id)

abbrev pub detach : ℕ → Event Global
detach d = event.Detach (device d)

abbrev pub flush : ℕ → Event Global
flush d = event.Flush (device d)

abbrev pub device_write : ℕ → ℕ → List ℕ → Event Global
device_write d at bytes = event.DeviceWrite (device d) (iova at) bytes

-- the access object's id, and the address space's
abbrev pub access_create : ℕ → Event Global
access_create f = event.AccessCreate (file f)

abbrev pub access_attach : ℕ → ℕ → ℕ → Event Global
access_attach f n ioas = event.AccessAttach (file f) (id n) (id ioas)

abbrev pub access_detach : ℕ → ℕ → Event Global
access_detach f n = event.AccessDetach (file f) (id n)

-- where and how long, and whether for writes too
abbrev pub pin_request : ℕ → ℕ → Bool → PinRequest
pin_request at size write = record { iova = iova at; length = size; write = write }

abbrev pub access_pin : ℕ → ℕ → ℕ → ℕ → Bool → Event Global
access_pin f n at size write = event.AccessPin (file f) (id n) (pin_request at size write)

abbrev pub access_unpin : ℕ → ℕ → ℕ → ℕ → Bool → Event Global
access_unpin f n at size write = event.AccessUnpin (file f) (id n) (pin_request at size write)

abbrev pub access_write : ℕ → ℕ → ℕ → List ℕ → Event Global
access_write f n at bytes = event.AccessWrite (file f) (id n) (iova at) bytes

-- ---- records

-- one that takes frames for tables and gives frames of tables back
abbrev pub moving : Event Global → Reply → List ℕ → List ℕ → Record Global
moving e r taken given =
    record { pass = record { 0 = 0 }; event = e; reply = r; taken = map frame taken; given = map frame given }

abbrev pub step : Event Global → Reply → Record Global
step e r = moving e r [] []

abbrev pub refused : Cause → Reply
refused cause = reply.Refused (record { cause = cause })

abbrev pub answers_id : ℕ → Reply
answers_id n = reply.Id (id n)

abbrev pub answers_iova : ℕ → Reply
answers_iova n = reply.Iova (iova n)

abbrev pub answers_frame : ℕ → Reply
answers_frame n = reply.Frame (frame n)

abbrev pub passed : ℕ → Reply
passed n = reply.Passed (frame n)

-- source id, page, kind and reason
abbrev pub fault : ℕ → ℕ → AccessKind → FaultReason → Fault
fault source page kind reason = record { source = record { 0 = source }; page = page; kind = kind; reason = reason }

-- ---- rows

abbrev pub ioas_row : ℕ → ℕ → Object
ioas_row f n = record { file = file f; id = id n; kind = kind.Ioas }

abbrev pub hwpt_row : ℕ → ℕ → ℕ → Width → Bool → Object
hwpt_row f n ioas width automatic = record { file = file f; id = id n; kind = kind.Hwpt (id ioas) width automatic }

abbrev pub device_row : ℕ → ℕ → ℕ → Object
device_row f n d = record { file = file f; id = id n; kind = kind.Device (device d) }

-- attached to this address space, or to none
abbrev pub access_row : ℕ → ℕ → Option ObjId → Object
access_row f n attached = record { file = file f; id = id n; kind = kind.Access attached }

abbrev pub memory_row : ℕ → ℕ → ℕ → ℕ → Bool → MemoryObject
memory_row n u va count writable = record { number = n; user = user u; va = va; count = count; writable = writable }

-- rights: 1 to read, 2 to write, 3 both
abbrev pub area_row : ℕ → ℕ → ℕ → ℕ → ℕ → ℕ → Phase → Area
area_row f ioas first last memory rights phase =
    record {
      file = file f;
      ioas = id ioas;
      span = from_to first last;
      memory = memory;
      rights = record { 0 = rights };
      phase = phase;
    }

abbrev pub page_row : ℕ → ℕ → ℕ → UserPage
page_row u page n = record { user = user u; page = page; frame = frame n }

abbrev pub pin_row : ℕ → ℕ → ℕ → Pin
pin_row memory index n = record { memory = memory; index = index; frame = frame n }

-- the access object that holds it, its first and last address, and whether it is for writes too
abbrev pub access_pin_row : ℕ → ℕ → ℕ → ℕ → Bool → AccessPin
access_pin_row f n first last write =
    record { file = file f; access = id n; span = from_to first last; write = write }

abbrev pub attachment_row : ℕ → ℕ → ℕ → Attachment
attachment_row d f hwpt = record { device = device d; file = file f; hwpt = id hwpt }

-- file, page table, level, first address, frame
abbrev pub table_row : ℕ → ℕ → ℕ → ℕ → ℕ → TableFrame
table_row f hwpt level first n =
    record { file = file f; hwpt = id hwpt; level = level; first = iova first; frame = frame n }

-- ---- tables of records

-- the causes of all rows that apply
abbrev pub causes_of : List (Cause × Bool) → List Cause
causes_of rows = map (λ row. row.0) (filter (λ row. row.1) rows)

-- of all refusals of the event that apply in this world, in the order of the event's refusals
abbrev pub applying : World → Event Global → List Cause
applying w e = causes_of (checks (view w) e)

abbrev pub first_of : List Cause → Option Cause
first_of [] = None
first_of (cause ∷ causes) = Some cause

-- a row of a table of refusals: an event, and all causes for which it is refused, of which the first is answered; none:
-- it isn't refused
abbrev pub Refusals : Type 0
Refusals = List (Event Global × List Cause)

-- in this world just these causes apply to the events
abbrev pub ApplyIn : World → Refusals → Type 0
ApplyIn w rows = map (λ row. applying w row.0) rows ≡ map (λ row. row.1) rows

-- and the first of them is the event's refusal
abbrev pub AreRefusedIn : World → Refusals → Type 0
AreRefusedIn w rows = map (λ row. refusal w row.0) rows ≡ map (λ row. first_of row.1) rows

-- ---- tables of answers

-- a row of a table of questions: the question, and all its lawful answers
abbrev pub Questions : Type 0
Questions = List (Query × List Answer)

abbrev pub AreAnsweredIn : World → Questions → Type 0
AreAnsweredIn w rows = map (λ row. answers_in {A = Global} w [] row.0) rows ≡ map (λ row. row.1) rows

abbrev pub device_read : ℕ → ℕ → ℕ → Query
device_read d at len = DeviceRead (device d) (iova at) len

abbrev pub access_read : ℕ → ℕ → ℕ → ℕ → Query
access_read f n at len = AccessRead (file f) (id n) (iova at) len

abbrev pub user_read : ℕ → ℕ → ℕ → Query
user_read u va len = UserRead (user u) va len

abbrev pub held : ℕ → Query
held u = Held (user u)

abbrev pub refused_look : Cause → List Answer
refused_look cause = answer.Refused (record { cause = cause }) ∷ []

abbrev pub count : ℕ → List Answer
count n = answer.Count n ∷ []

abbrev pub bytes : List ℕ → List Answer
bytes read = answer.Read read ∷ []

-- a row of a table of refused questions: the question, and all causes for which it is refused
abbrev pub QuestionRefusals : Type 0
QuestionRefusals = List (Query × List Cause)

abbrev pub ApplyToQuestionsIn : World → QuestionRefusals → Type 0
ApplyToQuestionsIn w rows =
    map (λ row. causes_of (query_checks (view w) row.0)) rows ≡ map (λ row. row.1) rows

-- a row of a table of questions for notices: the file, the access object, all causes for which it is refused, and the
-- spans that are told where it isn't
abbrev pub NoticeQuestions : Type 0
NoticeQuestions = List (ℕ × ℕ × List Cause × List Bounds)

abbrev pub ApplyToNoticesIn : World → NoticeQuestions → Type 0
ApplyToNoticesIn w rows =
    map (λ row. causes_of (notices_checks (view w) (file row.0) (id row.1))) rows ≡ map (λ row. row.2) rows

abbrev pub AreNoticedIn : World → NoticeQuestions → Type 0
AreNoticedIn w rows =
    map (λ row. notices (view w) (file row.0) (id row.1)) rows ≡ map (λ row. row.3) rows

-- a row of a table of questions for usable ranges: the file, the address space, and all causes for which it is refused
abbrev pub RangeQuestions : Type 0
RangeQuestions = List (ℕ × ℕ × List Cause)

abbrev pub ApplyToRangesIn : World → RangeQuestions → Type 0
ApplyToRangesIn w rows =
    map (λ row. causes_of (ranges_checks (view w) (file row.0) (id row.1))) rows ≡ map (λ row. row.2) rows

-- a row of a table of devices' writes: the device, the address, and all that may come of a write there
abbrev pub Writes : Type 0
Writes = List (ℕ × ℕ × List Reply)

abbrev pub MayComeIn : World → Writes → Type 0
MayComeIn w rows =
    map (λ row. map (write_reply w (device row.0) row.1) (outcomes w (device row.0) row.1 Write)) rows
    ≡ map (λ row. row.2) rows

-- ---- records that differ in what was chosen

-- each of these records is lawful in this world, at this position
abbrev pub AreLawful : ℕ → World → List (Record Global) → Type 0
AreLawful at w [] = Unit {0}
AreLawful at w (r ∷ rs) = Lawful at w r × AreLawful at w rs

-- none of them is
abbrev pub NoneIsLawful : ℕ → World → List (Record Global) → Type 0
NoneIsLawful at w [] = Unit {0}
NoneIsLawful at w (r ∷ rs) = (Lawful at w r → ⊥) × NoneIsLawful at w rs
