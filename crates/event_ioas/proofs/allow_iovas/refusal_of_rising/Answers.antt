use Rattle.std.proofs.Common.{refl, sym}
use Rattle.event_ioas.proofs.AreRising.{rising_are_ranges}
use Rattle.event_ioas.proofs.allow_iovas.refusal_of_rising.Goals as goal

pub returns-then-meets_rising : goal.returns-then-meets_rising
returns-then-meets_rising g c =
    rw (rising_are_ranges c.args.ranges.now c.requires.rising, sym c.meets_rising.ensures, c.if-meets_rising.true) refl

pub returns : goal.returns
returns g c =
    rw (rising_are_ranges c.args.ranges.now c.requires.rising, sym c.meets_rising.ensures, c.if-meets_rising.false) refl
