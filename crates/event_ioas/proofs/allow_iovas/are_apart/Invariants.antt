use Rattle.std.proofs.Common.{◌≡◌, length}
use Rattle.iofd_words.specs.Allowed.{are_ranges}
use Rattle.event_ioas.proofs.allow_iovas.are_apart.Given as goal

abbrev pub invariant-loop-range : goal.invariant-loop-range
invariant-loop-range l = are_ranges l.ranges ≡ are_ranges l.rest

abbrev pub decreases-loop-range : goal.decreases-loop-range
decreases-loop-range l = length l.rest
