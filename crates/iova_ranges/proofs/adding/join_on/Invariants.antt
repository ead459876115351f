use Rattle.std.proofs.Common.{◌≡◌, drop}
use Rattle.iova_ranges.specs.Adding.{joined_on}
use Rattle.iova_ranges.proofs.adding.join_on.Given as goal

abbrev pub invariant-loop-next : goal.invariant-loop-next
invariant-loop-next l =
    (l.reached ≡ l.next-index) × (joined_on l.fn.span l.spans ≡ joined_on l.grown (drop l.next-index l.spans))
