use Rattle.std.proofs.Common.{◌≡◌, true, length}
use Rattle.std.specs.List.{list_any}
use Rattle.iofd_words.specs.Allowed.{are_ranges}
use Rattle.iofd_refusals.specs.Checks.{unusable_in}
use Rattle.iofd_words.specs.Ranges.{meets_some}
use Rattle.server_state.specs.Seen.{seen}
use Rattle.event_ioas.proofs.unusable.meets_given.Given as goal

abbrev pub invariant-loop-range : goal.invariant-loop-range
invariant-loop-range g l = record {
  good : are_ranges l.rest ≡ true;
  same : list_any (meets_some (unusable_in (seen l.state) l.file l.ioas)) l.ranges ≡ list_any
      (meets_some (unusable_in (seen l.state) l.file l.ioas)) l.rest;
}

abbrev pub decreases-loop-range : goal.decreases-loop-range
decreases-loop-range g l = length l.rest
