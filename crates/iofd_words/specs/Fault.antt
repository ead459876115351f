-- Fault reasons (VT-d, "Fault Reasons", legacy mode).
use Rattle.std.specs.Prelude.{ℕ}
use Rattle.iofd_words.specs.declared.fault.AccessKind.{AccessKind}
use Rattle.iofd_words.specs.declared.fault.AccessKind.TheVariants.{Read, Write}
use Rattle.iofd_words.specs.declared.fault.FaultReason.{FaultReason}
use Rattle.iofd_words.specs.declared.fault.FaultReason.TheVariants.{NoContext, BeyondWidth, WriteDenied, ReadDenied}

abbrev pub reason_number : FaultReason → ℕ
reason_number NoContext = 2
reason_number BeyondWidth = 4
reason_number WriteDenied = 5
reason_number ReadDenied = 6

-- the reason where the page isn't mapped with the right
abbrev pub denied_by : AccessKind → FaultReason
denied_by Read = ReadDenied
denied_by Write = WriteDenied
