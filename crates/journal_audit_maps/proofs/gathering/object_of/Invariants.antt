use Rattle.std.proofs.Common.{◌≡◌, ◌==◌, find, drop}
use Rattle.journal_audit_maps.proofs.gathering.object_of.Given as goal

abbrev pub invariant-loop-object : goal.invariant-loop-object
invariant-loop-object l =
    find (λ m. m.number == l.number) (drop l.object-index l.memory)
    ≡ find (λ m. m.number == l.number) l.memory
