use Rattle.std.proofs.Common.{◌≡◌, drop}
use Rattle.iofd_words.specs.Tables.{are_different}
use Rattle.journal_audit_tables.proofs.Free.{are_apart}
use Rattle.journal_audit_tables.proofs.frames.are_different.Given as goal

abbrev pub invariant-loop-frame : goal.invariant-loop-frame
invariant-loop-frame g l = are_different l.frames ≡ are_apart l.set.keys (drop l.frame-index l.frames)
