use Rattle.std.proofs.Common.{◌≡◌, drop}
use Rattle.std.specs.List.{list_any}
use Rattle.iofd_words.specs.Span.{meets}
use Rattle.journal_audit.proofs.spans.meet_asked.Given as goal

abbrev pub invariant-loop-one : goal.invariant-loop-one
invariant-loop-one l =
    list_any (λ one. meets one l.asked) (drop l.one-index l.spans)
    ≡ list_any (λ one. meets one l.asked) l.spans
