-- What calls tell beside their statuses.
use Rattle.std.specs.Prelude.{ℕ, length, Option, Some, None, Result, Ok, Err, Vec}
use Rattle.std.specs.declared.alloc.Global.{Global}
use Rattle.iofd_words.specs.Bounds.{Bounds}
use Rattle.iofd_words.specs.Fault.{reason_number}
use Rattle.iofd_words.specs.Refusal.{number_of}
use Rattle.iofd_words.specs.declared.call_error.CallError.{CallError}
use Rattle.iofd_words.specs.declared.call_error.CallError.TheVariants as failed
use Rattle.iofd_words.specs.declared.query.Answer.{Answer}
use Rattle.iofd_words.specs.declared.query.Answer.TheVariants as answer
use Rattle.iofd_words.specs.declared.refusal.NoMemory.{NoMemory}
use Rattle.iofd_words.specs.declared.reply.Reply.{Reply}
use Rattle.iofd_words.specs.declared.reply.Reply.TheVariants as reply
use Rattle.iommufd_core.specs.declared.apply.Stamp.{Stamp}
use Rattle.lane_lock.specs.declared.refusal.NotNow.{NotNow}
use Rattle.guarded_core.specs.declared.try_error.TryError.{TryError}
use Rattle.guarded_core.specs.declared.try_error.TryError.TheVariants as tried
use Rattle.shared_iommufd.specs.declared.error.PortCause.{PortCause}
use Rattle.shared_iommufd.specs.declared.error.PortCause.TheVariants as cause
use Rattle.shared_iommufd.specs.declared.error.PortError.{PortError}
use Rattle.iommufd_c.specs.declared.handle.device.Access.{Access}
use Rattle.iommufd_c.specs.declared.outcome.Outcome.{Outcome}

-- no record was made, and nothing is answered
abbrev pub nothing : Outcome
nothing = record { at = 0; value = 0; made = 0; cause = 0; fault = 0 }

-- a record was made at this place
abbrev pub made_at : ℕ → Outcome
made_at place = record { at = place; value = 0; made = 1; cause = 0; fault = 0 }

abbrev pub reply_outcome : ℕ → Reply → Outcome
reply_outcome place reply.Done = made_at place
reply_outcome place (reply.Id id) = record (made_at place) { value = id.0 }
reply_outcome place (reply.Iova iova) = record (made_at place) { value = iova.0 }
reply_outcome place (reply.Bytes count) = record (made_at place) { value = count }
reply_outcome place (reply.Pending errno) = made_at place
reply_outcome place (reply.Frame frame) = record (made_at place) { value = frame.0 }
reply_outcome place (reply.Passed frame) = record (made_at place) { value = frame.0 }
reply_outcome place (reply.Dirty words) = made_at place
reply_outcome place (reply.Fault fault) = record (made_at place) { fault = reason_number fault.reason }
reply_outcome place (reply.Refused refusal) = record (made_at place) { cause = number_of refusal.cause }

-- the record of a call, if it made one
abbrev pub call_outcome : Option (Result Stamp (TryError NoMemory)) → Outcome
call_outcome None = nothing
call_outcome (Some (Ok stamp)) = reply_outcome stamp.at stamp.reply
call_outcome (Some (Err error)) = nothing

-- the number that a question has for an answer, or how many bytes were read
abbrev pub look_outcome : Option (Result Answer NotNow) → Outcome
look_outcome None = nothing
look_outcome (Some (Ok (answer.Read bytes))) = record nothing { value = length bytes }
look_outcome (Some (Ok (answer.Count count))) = record nothing { value = count }
look_outcome (Some (Ok (answer.Attached hwpt))) = nothing
look_outcome (Some (Ok (answer.Walk translation))) = nothing
look_outcome (Some (Ok (answer.Dirty words))) = nothing
look_outcome (Some (Ok (answer.Fault fault))) = record nothing { fault = reason_number fault.reason }
look_outcome (Some (Ok (answer.Refused refusal))) = record nothing { cause = number_of refusal.cause }
look_outcome (Some (Err refused)) = nothing

-- how many notices there are
abbrev pub notices_outcome : Option (Result (Vec Bounds Global) (TryError CallError)) → Outcome
notices_outcome None = nothing
notices_outcome (Some (Ok spans)) = record nothing { value = length spans.items }
notices_outcome (Some (Err (tried.Call (failed.Refused refusal)))) = record nothing { cause = number_of refusal.cause }
notices_outcome (Some (Err (tried.Call (failed.Memory wanting)))) = nothing
notices_outcome (Some (Err (tried.NotNow refused))) = nothing

abbrev pub denied : Outcome → TryError PortCause → Outcome
denied told (tried.Call (cause.Refused refusal)) = record told { cause = number_of refusal.cause }
denied told (tried.Call (cause.Fault fault)) = record told { fault = reason_number fault.reason }
denied told (tried.Call (cause.Memory no_memory)) = told
denied told (tried.NotNow refused) = told

abbrev pub last_made : Option ℕ → Outcome
last_made None = nothing
last_made (Some place) = made_at place

-- how many of so many bytes passed, and why no more did, beside the last record
abbrev pub ended_outcome : ℕ → Outcome → Result (Unit {0}) (PortError (TryError PortCause)) → Outcome
ended_outcome len told (Ok it) = record told { value = len }
ended_outcome len told (Err error) = denied (record told { value = error.done }) error.cause

abbrev pub access_outcome : ℕ → Option Access → Outcome
access_outcome len None = nothing
access_outcome len (Some access) = ended_outcome len (last_made access.last) access.ended
