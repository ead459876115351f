use Rattle.std.proofs.Common.{◌≡◌, drop}
use Rattle.std.specs.List.{list_all}
use Rattle.journal_audit_tables.specs.Numbers.{has_number}
use Rattle.journal_audit_tables.proofs.given.have_all.Given as goal

abbrev pub invariant-loop-frame : goal.invariant-loop-frame
invariant-loop-frame g l =
    list_all (λ frame. has_number l.set.keys frame.0) (drop l.frame-index l.frames)
    ≡ list_all (λ frame. has_number l.set.keys frame.0) l.frames
