use Rattle.std.proofs.Common.{◌≡◌, drop}
use Rattle.iofd_words.specs.Tables.{are_rising}
use Rattle.journal_audit_world.proofs.Rising.{rise_from}
use Rattle.journal_audit_world.proofs.tables.are_rising.Given as goal

abbrev pub invariant-loop-frame : goal.invariant-loop-frame
invariant-loop-frame l = are_rising l.frames ≡ rise_from l.least (drop l.frame-index l.frames)
