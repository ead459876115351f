use Rattle.std.proofs.Common.{sym}
use Rattle.event_ioas.proofs.UnusableAmong.{none_passes}
use Rattle.event_ioas.proofs.unusable.device_keeps.Goals as goal

pub returns-in-None : goal.returns-in-None
returns-in-None g c =
    rw (sym c.device.ensures, c.in-None.is) (sym (none_passes c.args.ranges.now))
