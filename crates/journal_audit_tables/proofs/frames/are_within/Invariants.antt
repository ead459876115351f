use Rattle.std.proofs.Common.{◌≡◌, drop}
use Rattle.std.specs.List.{list_all}
use Rattle.std.specs.Prelude.{nat_lt}
use Rattle.journal_audit_tables.proofs.frames.are_within.Given as goal

abbrev pub invariant-loop-frame : goal.invariant-loop-frame
invariant-loop-frame l =
    list_all (λ frame. nat_lt frame.0 l.pool) (drop l.frame-index l.frames)
    ≡ list_all (λ frame. nat_lt frame.0 l.pool) l.frames
