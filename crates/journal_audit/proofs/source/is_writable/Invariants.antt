use Rattle.std.proofs.Common.{◌≡◌, ◌==◌, ◌&&◌, drop}
use Rattle.std.specs.List.{list_any}
use Rattle.journal_audit.proofs.source.is_writable.Given as goal

abbrev pub invariant-loop-object : goal.invariant-loop-object
invariant-loop-object l =
    list_any (λ object. object.number == l.number && object.writable) (drop l.object-index l.memory)
    ≡ list_any (λ object. object.number == l.number && object.writable) l.memory
