use Rattle.std.proofs.Common.{refl}
use Rattle.event_ioas.proofs.LeavingOut.{usable_left}
use Rattle.server_state.specs.Seen.{seen}
use Rattle.event_ioas.proofs.usable_ranges.usable_ranges.Goals as goal

pub returns : goal.returns
returns g c =
    usable_left (seen c.args.state.now) c.args.file c.args.ioas c.args.state.now.attachments.items c.in_ok-set.set.spans
    c.leave_out_beyond.new.set.spans c.leave_out_kept.new.set.spans refl c.in_ok-set.ensures.set
    c.in_ok-set.ensures.merged c.in_ok-leave_out_beyond.ensures c.in_ok-leave_out_kept.ensures
