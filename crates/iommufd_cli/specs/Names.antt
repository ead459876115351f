-- The names of the causes of refusals and of the kinds of access, as they are printed.
use Rattle.std.specs.Prelude.{ℕ, List, codes}
use Rattle.iofd_words.specs.declared.fault.AccessKind.{AccessKind}
use Rattle.iofd_words.specs.declared.fault.AccessKind.TheVariants.{Read, Write}
use Rattle.iofd_words.specs.declared.refusal.Cause.{Cause}
use Rattle.iofd_words.specs.declared.refusal.Cause.TheVariants as cause

-- each cause in one word
abbrev pub cause_name : Cause → List ℕ
cause_name cause.Number = codes "Number"
cause_name cause.Short = codes "Short"
cause_name cause.Tail = codes "Tail"
cause_name cause.Unsupported = codes "Unsupported"
cause_name cause.Array = codes "Array"
cause_name cause.Frames = codes "Frames"
cause_name cause.Account = codes "Account"
cause_name cause.Absent = codes "Absent"
cause_name cause.Overlap = codes "Overlap"
cause_name cause.Span = codes "Span"
cause_name cause.Id = codes "Id"
cause_name cause.InUse = codes "InUse"
cause_name cause.Bound = codes "Bound"
cause_name cause.Width = codes "Width"
cause_name cause.Narrow = codes "Narrow"
cause_name cause.Rights = codes "Rights"
cause_name cause.Leaving = codes "Leaving"
cause_name cause.NotHeld = codes "NotHeld"
cause_name cause.Sum = codes "Sum"
cause_name cause.Align = codes "Align"
cause_name cause.NoRight = codes "NoRight"
cause_name cause.Reserved = codes "Reserved"
cause_name cause.Full = codes "Full"
cause_name cause.List = codes "List"
cause_name cause.Places = codes "Places"
cause_name cause.Cross = codes "Cross"
cause_name cause.InterruptRange = codes "InterruptRange"
cause_name cause.Unattached = codes "Unattached"
cause_name cause.Pending = codes "Pending"
cause_name cause.Tracking = codes "Tracking"

-- whether memory was read or written
abbrev pub kind_name : AccessKind → List ℕ
kind_name Read = codes "read"
kind_name Write = codes "write"
