use Rattle.std.proofs.Common.{◌-◌, ◌^◌}
use Rattle.event_map.proofs.Chosen.{IsSearched}
use Rattle.server_state.specs.Seen.{seen}
use Rattle.event_map.proofs.choice.least_span.Given as goal

abbrev pub invariant-loop-span : goal.invariant-loop-span
invariant-loop-span g l = IsSearched (seen l.state) l.file l.request l.start

abbrev pub decreases-loop-span : goal.decreases-loop-span
decreases-loop-span g l = 2 ^ 64 - l.start
