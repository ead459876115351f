-- Why a question whose answer takes memory is refused.
use Rattle.std.specs.Prelude.{Option, Some, None, Result, Ok, Err}
use Rattle.iofd_words.specs.declared.refusal.Cause.{Cause}
use Rattle.iofd_words.specs.declared.call_error.CallError.{CallError}
use Rattle.iofd_words.specs.declared.call_error.CallError.TheVariants as error

-- the cause for which it is refused, if it is
abbrev pub refused_cause : {T : Type 0} → Result T CallError → Option Cause
refused_cause (Ok answer) = None
refused_cause (Err (error.Refused refusal)) = Some refusal.cause
refused_cause (Err (error.Memory no_memory)) = None
