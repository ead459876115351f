use Rattle.std.proofs.Common.{◌≡◌, ◌==◌, drop}
use Rattle.std.specs.List.{list_any}
use Rattle.journal_audit_world.proofs.files.is_closed.Given as goal

abbrev pub invariant-loop-other : goal.invariant-loop-other
invariant-loop-other l =
    list_any (λ f. f.0 == l.file.0) (drop l.other-index l.closed)
    ≡ list_any (λ f. f.0 == l.file.0) l.closed
