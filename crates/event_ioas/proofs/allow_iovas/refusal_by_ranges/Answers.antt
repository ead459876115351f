use Rattle.std.proofs.Common.{ap, ◌∙◌}
use Rattle.iofd_words.specs.FirstTrue.{first_true}
use Rattle.server_state.specs.Seen.{seen}
use Rattle.event_ioas.proofs.RangesSorted.{same_checks}
use Rattle.event_ioas.proofs.allow_iovas.refusal_by_ranges.Goals as goal

pub returns-in-Ok : goal.returns-in-Ok
returns-in-Ok g c =
    rw c.deref.ensures.value at c.refusal_of_sorted.ensures
    ∙ ap first_true (same_checks (seen c.args.state.now) c.args.file c.args.ioas c.args.ranges.now
    c.in-Ok.sorted.items c.in-Ok.ensures.same)

pub returns-then-are_rising : goal.returns-then-are_rising
returns-then-are_rising g c = c.refusal_of_rising.ensures

pub returns-in-Err : goal.returns-in-Err
returns-in-Err g c = c.refusal_as_given.ensures

pub refusal_of_rising-requires-clause-known : goal.refusal_of_rising-requires-clause-known
refusal_of_rising-requires-clause-known g c = c.requires

pub refusal_of_sorted-requires-clause-known : goal.refusal_of_sorted-requires-clause-known
refusal_of_sorted-requires-clause-known g c = c.requires

pub refusal_as_given-requires : goal.refusal_as_given-requires
refusal_as_given-requires g c = c.requires
