use Rattle.std.proofs.Common.{◌≡◌, length}
use Rattle.std.specs.List.{list_any}
use Rattle.iofd_words.specs.Span.{meets}
use Rattle.event_ioas.proofs.unusable.some_meets.Given as goal

abbrev pub invariant-loop-span : goal.invariant-loop-span
invariant-loop-span l =
    list_any (λ span. list_any (λ range. meets span range) l.ranges) l.spans
    ≡ list_any (λ span. list_any (λ range. meets span range) l.ranges) l.rest

abbrev pub decreases-loop-span : goal.decreases-loop-span
decreases-loop-span l = length l.rest
