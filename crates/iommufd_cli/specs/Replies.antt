-- The lines that a session answers to the steps of a script, in ASCII.
use Rattle.std.specs.Prelude.{ℕ, false, nat_lt, Some, None, List, length, ◌++◌}
use Rattle.std.specs.Prelude.{codes, decimal, if◌then◌else◌}
use Rattle.std.specs.List.{flat_map}
use Rattle.std.specs.Int.{w16, to_be_bytes}
use Rattle.std.specs.Fmt.{digits}
use Rattle.std.specs.declared.alloc.Global.{Global}
use Rattle.hex.specs.Hex.{encode_lower}
use Rattle.iofd_words.specs.Refusal.{errno_of, errno_number}
use Rattle.iofd_words.specs.Fault.{reason_number}
use Rattle.iofd_words.specs.declared.refusal.Cause.{Cause}
use Rattle.iofd_words.specs.declared.refusal.Errno.{Errno}
use Rattle.iofd_words.specs.declared.fault.Fault.{Fault}
use Rattle.iofd_words.specs.declared.reply.Reply.{Reply}
use Rattle.iofd_words.specs.declared.reply.Reply.TheVariants as reply
use Rattle.iofd_words.specs.declared.query.Answer.{Answer}
use Rattle.iofd_words.specs.declared.query.Answer.TheVariants as answer
use Rattle.iofd_words.specs.Bounds.{Bounds}
use Rattle.iofd_words.specs.declared.event.DirtyRequest.{DirtyRequest}
use Rattle.iofd_words.specs.declared.event.Event.{Event}
use Rattle.iofd_words.specs.declared.refusal.Cause.TheVariants as cause
use Rattle.ioctl_codec.specs.Events.{command_of}
use Rattle.ioctl_codec.specs.Spelling.{ranges_written_back, written_back}
use Rattle.ioctl_codec.specs.declared.command.Command.{Command}
use Rattle.ioctl_codec.specs.declared.command.Command.TheVariants as command
use Rattle.ioctl_codec.specs.declared.command.RangesRequest.{RangesRequest}
use Rattle.iommufd_cli.specs.Names.{cause_name, kind_name}

-- a text as a line: a line feed ends it
abbrev pub line : List ℕ → List ℕ
line text = text ++ codes "\n"

-- the errno, and the cause's name
abbrev pub refusal_text : Cause → List ℕ
refusal_text cause = decimal (errno_number (errno_of cause)) ++ codes " " ++ cause_name cause

-- an UNMAP that has to be called again
abbrev pub pending_text : Errno → List ℕ
pending_text errno = decimal (errno_number errno) ++ codes " Pending"

-- want of memory
abbrev pub memory_text : List ℕ
memory_text = codes "12 Memory"

-- which line of a script is bad, counted from 1
abbrev pub bad_line_text : ℕ → List ℕ
bad_line_text number = codes "bad line " ++ decimal number

-- the reason and the page have no leading zeros; the source id has four digits, those of its high byte first
abbrev pub fault_text : Fault → List ℕ
fault_text fault =
    codes "fault " ++ decimal (reason_number fault.reason)
    ++ codes " source " ++ encode_lower (to_be_bytes w16 fault.source.0)
    ++ codes " page " ++ digits 16 false fault.page
    ++ codes " " ++ kind_name fault.kind

-- a step that is no ioctl
abbrev pub reply_text : Reply → List ℕ
reply_text reply.Done = codes "ok"
reply_text (reply.Id id) = codes "ok id " ++ decimal id.0
reply_text (reply.Iova iova) = codes "ok"
reply_text (reply.Bytes count) = codes "ok"
reply_text (reply.Pending errno) = pending_text errno
reply_text (reply.Frame frame) = codes "ok frame " ++ decimal frame.0
reply_text (reply.Passed frame) = codes "ok"
reply_text (reply.Dirty words) = codes "ok"
reply_text (reply.Fault fault) = fault_text fault
reply_text (reply.Refused refusal) = refusal_text refusal.cause

-- errno 0, and in hex what is written back; it's nothing for a reply that the command never gets
abbrev pub written_text : {A : Type 0} → Command A → Reply → List ℕ
written_text command reply = codes "0 " ++ encode_lower (written_back command reply)

-- an ioctl that was given this command
abbrev pub ioctl_text : {A : Type 0} → Command A → Reply → List ℕ
ioctl_text command (reply.Pending errno) = pending_text errno
ioctl_text command (reply.Refused refusal) = refusal_text refusal.cause
ioctl_text command reply.Done = written_text command reply.Done
ioctl_text command (reply.Id id) = written_text command (reply.Id id)
ioctl_text command (reply.Iova iova) = written_text command (reply.Iova iova)
ioctl_text command (reply.Bytes count) = written_text command (reply.Bytes count)
ioctl_text command (reply.Frame frame) = written_text command (reply.Frame frame)
ioctl_text command (reply.Passed frame) = written_text command (reply.Passed frame)
ioctl_text command (reply.Fault fault) = written_text command (reply.Fault fault)
ioctl_text command (reply.Dirty words) = written_text command (reply.Dirty words)

-- the reply to an event: a command's is told as an ioctl's
abbrev pub event_text : {A : Type 0} → Event A → Reply → List ℕ
event_text e r = elim (command_of e) [ None ↦ reply_text r | Some c ↦ ioctl_text c r ]

-- what stands before the digits of so many usable ranges: errno 0, or that there are too few places
abbrev pub places_text : RangesRequest → ℕ → List ℕ
places_text request count = if nat_lt request.places count then refusal_text cause.Places ++ codes " " else codes "0 "

-- the usable ranges of an address space
abbrev pub ranges_text : RangesRequest → List Bounds → List ℕ
ranges_text request ranges = places_text request (length ranges) ++ encode_lower (ranges_written_back request ranges)

-- a look
abbrev pub answer_text : Answer → List ℕ
answer_text (answer.Read bytes) = codes "ok " ++ encode_lower bytes
answer_text (answer.Count count) = codes "ok " ++ decimal count
answer_text (answer.Attached (Some id)) = codes "ok id " ++ decimal id.0
answer_text (answer.Attached None) = codes "ok"
answer_text (answer.Walk (Some to)) = codes "ok frame " ++ decimal to.frame.0
answer_text (answer.Walk None) = codes "ok"
answer_text (answer.Dirty words) = codes "ok"
answer_text (answer.Fault fault) = fault_text fault
answer_text (answer.Refused refusal) = refusal_text refusal.cause

-- a report of written pages that doesn't clear: an ioctl, whose words are written back as a reply's are
abbrev pub report_text : DirtyRequest → Answer → List ℕ
report_text request (answer.Dirty words) =
    ioctl_text {A = Global} (command.DirtyReport request false) (reply.Dirty words)
report_text request other = answer_text other

-- a notice: the first and the last address of its span, in hex with no leading zeros
abbrev pub notice_text : Bounds → List ℕ
notice_text span = codes " " ++ digits 16 false span.first ++ codes "-" ++ digits 16 false span.last

-- the notices of an access object
abbrev pub notices_text : List Bounds → List ℕ
notices_text spans = codes "ok" ++ flat_map notice_text spans

-- no memory to read the script or to open the server: the whole output
abbrev pub no_memory_text : List ℕ
no_memory_text = codes "no memory"
