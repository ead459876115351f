use Rattle.std.proofs.Common.{◌≡◌, ◌||◌, drop}
use Rattle.iofd_words.specs.Tables.{is_among}
use Rattle.iofd_words.specs.declared.numbers.FrameNo.{FrameNo}
use Rattle.journal_audit_tables.specs.Numbers.{has_number}
use Rattle.journal_audit_tables.proofs.frames.set_of.Given as goal

abbrev pub invariant-loop-frame : goal.invariant-loop-frame
invariant-loop-frame g l = (frame : FrameNo)
    → (has_number l.set.keys frame.0 || is_among (drop l.frame-index l.frames) frame) ≡ is_among l.frames frame
