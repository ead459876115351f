use Rattle.std.proofs.Common.{◌≡◌, drop}
use Rattle.std.specs.List.{list_any}
use Rattle.iofd_words.specs.Span.{meets}
use Rattle.journal_audit_events.proofs.usable.is_reserved.Given as goal

abbrev pub invariant-loop-span : goal.invariant-loop-span
invariant-loop-span l =
    list_any (λ span. meets span l.range) (drop l.span-index l.spans)
    ≡ list_any (λ span. meets span l.range) l.spans
