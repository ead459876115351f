-- The statuses of calls: 0, an errno below 0, or that the call has to be made again.
use Rattle.std.specs.Prelude.{ℕ, ℤ, pos, neg_ℤ, Option, Some, None, Result, Ok, Err, Vec}
use Rattle.std.specs.declared.alloc.Global.{Global}
use Rattle.iofd_words.specs.Bounds.{Bounds}
use Rattle.iofd_words.specs.Refusal.{errno_number, errno_of}
use Rattle.iofd_words.specs.declared.call_error.CallError.{CallError}
use Rattle.iofd_words.specs.declared.call_error.CallError.TheVariants as failed
use Rattle.iofd_words.specs.declared.query.Answer.{Answer}
use Rattle.iofd_words.specs.declared.query.Answer.TheVariants as answer
use Rattle.iofd_words.specs.declared.query.Translation.{Translation}
use Rattle.iofd_words.specs.declared.refusal.Errno.{Errno}
use Rattle.iofd_words.specs.declared.refusal.NoMemory.{NoMemory}
use Rattle.iofd_words.specs.declared.reply.Reply.{Reply}
use Rattle.iofd_words.specs.declared.reply.Reply.TheVariants as reply
use Rattle.iommufd_core.specs.declared.apply.Stamp.{Stamp}
use Rattle.journal_audit_writing.specs.declared.whole.JournalError.{JournalError}
use Rattle.journal_audit_writing.specs.declared.whole.JournalError.TheVariants as unwritten
use Rattle.lane_lock.specs.declared.refusal.NotNow.{NotNow}
use Rattle.guarded_core.specs.declared.try_error.TryError.{TryError}
use Rattle.guarded_core.specs.declared.try_error.TryError.TheVariants as tried
use Rattle.shared_iommufd.specs.declared.error.ConfigError.TheVariants as config
use Rattle.shared_iommufd.specs.declared.error.PortCause.{PortCause}
use Rattle.shared_iommufd.specs.declared.error.PortCause.TheVariants as cause
use Rattle.shared_iommufd.specs.declared.error.PortError.{PortError}
use Rattle.shared_iommufd.specs.declared.ioctl_answer.IoctlAnswer.{IoctlAnswer}
use Rattle.iommufd_c.specs.declared.handle.device.Access.{Access}
use Rattle.iommufd_c.specs.declared.handle.error.GiveError.{GiveError}
use Rattle.iommufd_c.specs.declared.handle.error.GiveError.TheVariants as given
use Rattle.iommufd_c.specs.declared.handle.error.OpenError.{OpenError}
use Rattle.iommufd_c.specs.declared.handle.error.OpenError.TheVariants as opened

-- the number below 0
abbrev pub minus : ℕ → ℤ
minus n = neg_ℤ (pos n)

abbrev pub done : ℤ
done = pos 0

-- it can't be served now, and did nothing; errnos are below 4096
abbrev pub not_now : ℤ
not_now = minus 4096

-- EBADF: the handle isn't one by which this is called
abbrev pub bad_handle : ℤ
bad_handle = minus 9

-- ENOMEM: there was no memory, and nothing was done
abbrev pub no_memory : ℤ
no_memory = minus 12

-- EFAULT: the access was denied, or would be
abbrev pub denied : ℤ
denied = minus 14

-- EBUSY: the handle to be opened is open
abbrev pub open_already : ℤ
open_already = minus 16

-- EINVAL: a number is outside its limits, or a record has no spelling
abbrev pub outside : ℤ
outside = minus 22

-- ENFILE: the caller has none of it to give
abbrev pub none_left : ℤ
none_left = minus 23

abbrev pub error_status : Errno → ℤ
error_status errno = minus (errno_number errno)

abbrev pub errno_status : Option Errno → ℤ
errno_status None = done
errno_status (Some errno) = error_status errno

abbrev pub reply_status : Reply → ℤ
reply_status reply.Done = done
reply_status (reply.Id id) = done
reply_status (reply.Iova iova) = done
reply_status (reply.Bytes count) = done
reply_status (reply.Pending errno) = error_status errno
reply_status (reply.Frame frame) = done
reply_status (reply.Passed frame) = done
reply_status (reply.Dirty words) = done
reply_status (reply.Fault fault) = denied
reply_status (reply.Refused refusal) = error_status (errno_of refusal.cause)

abbrev pub call_status : Option (Result Stamp (TryError NoMemory)) → ℤ
call_status None = bad_handle
call_status (Some (Ok stamp)) = reply_status stamp.reply
call_status (Some (Err (tried.Call failed))) = no_memory
call_status (Some (Err (tried.NotNow refused))) = not_now

abbrev pub look_status : Option (Result Answer NotNow) → ℤ
look_status None = bad_handle
look_status (Some (Ok (answer.Read bytes))) = done
look_status (Some (Ok (answer.Count count))) = done
look_status (Some (Ok (answer.Attached hwpt))) = done
look_status (Some (Ok (answer.Walk translation))) = done
look_status (Some (Ok (answer.Dirty words))) = done
look_status (Some (Ok (answer.Fault fault))) = denied
look_status (Some (Ok (answer.Refused refusal))) = error_status (errno_of refusal.cause)
look_status (Some (Err refused)) = not_now

abbrev pub notices_status : Option (Result (Vec Bounds Global) (TryError CallError)) → ℤ
notices_status None = bad_handle
notices_status (Some (Ok spans)) = done
notices_status (Some (Err (tried.Call (failed.Refused refusal)))) = error_status (errno_of refusal.cause)
notices_status (Some (Err (tried.Call (failed.Memory wanting)))) = no_memory
notices_status (Some (Err (tried.NotNow refused))) = not_now

abbrev pub journal_status : Option (Result (Vec ℕ Global) (TryError JournalError)) → ℤ
journal_status None = bad_handle
journal_status (Some (Ok bytes)) = done
journal_status (Some (Err (tried.Call (unwritten.Unspelt index)))) = outside
journal_status (Some (Err (tried.Call unwritten.NoMemory))) = no_memory
journal_status (Some (Err (tried.NotNow refused))) = not_now

abbrev pub ioctl_status : Option (Result (IoctlAnswer Global) (TryError NoMemory)) → ℤ
ioctl_status None = bad_handle
ioctl_status (Some (Ok answer)) = errno_status answer.errno
ioctl_status (Some (Err (tried.Call failed))) = no_memory
ioctl_status (Some (Err (tried.NotNow refused))) = not_now

abbrev pub cause_status : TryError PortCause → ℤ
cause_status (tried.Call (cause.Refused refusal)) = error_status (errno_of refusal.cause)
cause_status (tried.Call (cause.Fault fault)) = denied
cause_status (tried.Call (cause.Memory failed)) = no_memory
cause_status (tried.NotNow refused) = not_now

abbrev pub ended_status : Result (Unit {0}) (PortError (TryError PortCause)) → ℤ
ended_status (Ok it) = done
ended_status (Err error) = cause_status error.cause

abbrev pub access_status : Option Access → ℤ
access_status None = bad_handle
access_status (Some access) = ended_status access.ended

abbrev pub translate_status : Option (Result (Option Translation) NotNow) → ℤ
translate_status None = bad_handle
translate_status (Some (Ok (Some translation))) = done
translate_status (Some (Ok None)) = denied
translate_status (Some (Err refused)) = not_now

abbrev pub open_status : Result (Unit {0}) OpenError → ℤ
open_status (Ok it) = done
open_status (Err opened.Open) = open_already
open_status (Err (opened.Server config.Lanes)) = outside
open_status (Err (opened.Server config.Cache)) = outside
open_status (Err (opened.Server config.Memory)) = no_memory

abbrev pub give_status : GiveError → ℤ
give_status given.Open = open_already
give_status given.NoCaller = bad_handle
give_status given.NoneLeft = none_left
give_status given.Memory = no_memory

-- the status of opening another handle
abbrev pub given_status : {R : Type 0} → Result R GiveError → ℤ
given_status (Ok it) = done
given_status (Err error) = give_status error
