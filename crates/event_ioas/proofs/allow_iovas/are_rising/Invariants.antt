use Rattle.std.proofs.Common.{◌≡◌, length}
use Rattle.event_ioas.specs.Rising.{are_rising}
use Rattle.event_ioas.proofs.allow_iovas.are_rising.Given as goal

abbrev pub invariant-loop-range : goal.invariant-loop-range
invariant-loop-range l = are_rising l.ranges ≡ are_rising l.rest

abbrev pub decreases-loop-range : goal.decreases-loop-range
decreases-loop-range l = length l.rest
