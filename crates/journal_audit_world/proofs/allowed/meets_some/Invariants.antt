use Rattle.std.proofs.Common.{◌≡◌, drop}
use Rattle.std.specs.List.{list_any}
use Rattle.iofd_words.specs.Span.{meets}
use Rattle.journal_audit_world.proofs.allowed.meets_some.Given as goal

abbrev pub invariant-loop-one : goal.invariant-loop-one
invariant-loop-one l =
    list_any (λ one. meets one l.range) (drop l.one-index l.ranges)
    ≡ list_any (λ one. meets one l.range) l.ranges
