use Rattle.std.proofs.Common.{◌≡◌, ◌==◌, drop}
use Rattle.std.specs.List.{list_any}
use Rattle.journal_audit_world.proofs.tables.is_among.Given as goal

abbrev pub invariant-loop-other : goal.invariant-loop-other
invariant-loop-other l =
    list_any (λ other. other.0 == l.frame.0) (drop l.other-index l.frames)
    ≡ list_any (λ other. other.0 == l.frame.0) l.frames
