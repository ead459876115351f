-- What was answered, and how a record tells it: of a refusal its number, of a fault its reason, of an UNMAP that has to
-- be called again its errno. All else of a fault follows from the settings and the event.
use Rattle.std.specs.Prelude.{ℕ, ◌==◌, Option, Some, None, List, [], ◌∷◌, find, option_map}
use Rattle.iofd_words.specs.Fault.{reason_number}
use Rattle.iofd_words.specs.Files.{device_of}
use Rattle.iofd_words.specs.Pages.{page_of}
use Rattle.iofd_words.specs.Refusal.{errno_number, number_of}
use Rattle.iofd_words.specs.Settings.{Settings}
use Rattle.iofd_words.specs.declared.event.Event.{Event}
use Rattle.iofd_words.specs.declared.event.Event.TheVariants as event
use Rattle.iofd_words.specs.declared.fault.AccessKind.TheVariants.{Write}
use Rattle.iofd_words.specs.declared.fault.Fault.{Fault}
use Rattle.iofd_words.specs.declared.fault.FaultReason.{FaultReason}
use Rattle.iofd_words.specs.declared.fault.FaultReason.TheVariants.{NoContext, BeyondWidth, WriteDenied, ReadDenied}
use Rattle.iofd_words.specs.declared.refusal.Cause.{Cause}
use Rattle.iofd_words.specs.declared.refusal.Cause.TheVariants as cause
use Rattle.iofd_words.specs.declared.refusal.Errno.{Errno}
use Rattle.iofd_words.specs.declared.refusal.Errno.TheVariants.{EPERM, ENOENT, E2BIG, EAGAIN, ENOMEM, EFAULT, EBUSY}
use Rattle.iofd_words.specs.declared.refusal.Errno.TheVariants.{EEXIST, EINVAL, ENOTTY, ENOSPC, EDEADLOCK, EOVERFLOW}
use Rattle.iofd_words.specs.declared.refusal.Errno.TheVariants.{EMSGSIZE, EOPNOTSUPP, EADDRINUSE}
use Rattle.iofd_words.specs.declared.reply.Reply.{Reply}
use Rattle.iofd_words.specs.declared.reply.Reply.TheVariants as reply
use Rattle.journal_audit_bytes.specs.declared.spelled.SpelledReply.{SpelledReply}
use Rattle.journal_audit_bytes.specs.declared.spelled.SpelledReply.TheVariants as spelled

-- ---- by their numbers

abbrev pub errnos : List Errno
errnos =
    EPERM ∷ ENOENT ∷ E2BIG ∷ EAGAIN ∷ ENOMEM ∷ EFAULT ∷ EBUSY ∷ EEXIST ∷ EINVAL ∷ ENOTTY ∷ ENOSPC ∷ EDEADLOCK
    ∷ EOVERFLOW ∷ EMSGSIZE ∷ EOPNOTSUPP ∷ EADDRINUSE ∷ []

abbrev pub reasons : List FaultReason
reasons = NoContext ∷ BeyondWidth ∷ WriteDenied ∷ ReadDenied ∷ []

abbrev pub causes : List Cause
causes =
    cause.Number ∷ cause.Short ∷ cause.Tail ∷ cause.Unsupported ∷ cause.Array ∷ cause.Frames ∷ cause.Account
    ∷ cause.Absent ∷ cause.Overlap ∷ cause.Span ∷ cause.Id ∷ cause.InUse ∷ cause.Bound ∷ cause.Width ∷ cause.Narrow
    ∷ cause.Rights ∷ cause.Leaving ∷ cause.NotHeld ∷ cause.Sum ∷ cause.Align ∷ cause.NoRight ∷ cause.Reserved
    ∷ cause.Full ∷ cause.List ∷ cause.Places ∷ cause.Cross ∷ cause.InterruptRange ∷ cause.Unattached ∷ cause.Pending
    ∷ cause.Tracking ∷ []

abbrev pub errno_by : ℕ → Option Errno
errno_by number = find (λ errno. errno_number errno == number) errnos

abbrev pub reason_by : ℕ → Option FaultReason
reason_by number = find (λ reason. reason_number reason == number) reasons

abbrev pub cause_by : ℕ → Option Cause
cause_by number = find (λ cause. number_of cause == number) causes

-- ---- from what a record tells to the reply

-- the fault with this reason: only a write of a device that is there has one
abbrev pub fault_of : {A : Type 0} → Settings → Event A → FaultReason → Option Fault
fault_of settings (event.DeviceWrite device iova bytes) reason =
    option_map
    (λ d. record { page = page_of iova.0; source = d.source; kind = Write; reason = reason })
    (device_of settings device)
fault_of settings event reason = None

-- the fault whose reason has this number
abbrev pub fault_by : {A : Type 0} → Settings → Event A → ℕ → Option Fault
fault_by settings event number = elim (reason_by number) [
  | None ↦ None
  | Some reason ↦ fault_of settings event reason
]

-- the reply that a record tells of this event, if it tells any
abbrev pub reply_of : {A : Type 0} → Settings → Event A → SpelledReply → Option Reply
reply_of settings event spelled.Done = Some reply.Done
reply_of settings event (spelled.Id id) = Some (reply.Id (record { 0 = id }))
reply_of settings event (spelled.Iova iova) = Some (reply.Iova (record { 0 = iova }))
reply_of settings event (spelled.Bytes count) = Some (reply.Bytes count)
reply_of settings event (spelled.Pending errno) = option_map (λ e. reply.Pending e) (errno_by errno)
reply_of settings event (spelled.Frame frame) = Some (reply.Frame (record { 0 = frame }))
reply_of settings event (spelled.Passed frame) = Some (reply.Passed (record { 0 = frame }))
reply_of settings event (spelled.Fault reason) = option_map (λ f. reply.Fault f) (fault_by settings event reason)
reply_of settings event (spelled.Refused number) =
    option_map (λ c. reply.Refused (record { cause = c })) (cause_by number)
reply_of settings event (spelled.Dirty words) = Some (reply.Dirty words)

-- ---- from the reply to what a record tells

abbrev pub told : Reply → SpelledReply
told reply.Done = spelled.Done
told (reply.Id id) = spelled.Id id.0
told (reply.Iova iova) = spelled.Iova iova.0
told (reply.Bytes count) = spelled.Bytes count
told (reply.Pending errno) = spelled.Pending (errno_number errno)
told (reply.Frame frame) = spelled.Frame frame.0
told (reply.Passed frame) = spelled.Passed frame.0
told (reply.Fault fault) = spelled.Fault (reason_number fault.reason)
told (reply.Refused refusal) = spelled.Refused (number_of refusal.cause)
told (reply.Dirty words) = spelled.Dirty words
