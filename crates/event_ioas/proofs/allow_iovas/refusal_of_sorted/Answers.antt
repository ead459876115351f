use Rattle.std.proofs.Common.{refl, sym, ◌∙◌}
use Rattle.event_ioas.proofs.RangesSorted.{sorted_are_ranges}
use Rattle.event_ioas.proofs.allow_iovas.refusal_of_sorted.Goals as goal

pub returns : goal.returns
returns g c =
    rw (sym (sorted_are_ranges c.args.ranges.now c.requires.sorted) ∙ sym c.are_rising.ensures
    ∙ c.if-are_rising.false) refl
