use Rattle.iofd_steps.specs.Run.{world_of}
use Rattle.iofd_runs.proofs.Accessed.{each_held}
use Rattle.iofd_promises.proofs.AccessPinRows.{is_under_it}
use Rattle.iofd_promises.proofs.Facts.{pinned_of}
use Rattle.iofd_promises.proofs.Rows.{within}
use Rattle.iofd_promises.proofs.access.areas_lie_under_access_pins.Goals as goal

pub returns : goal.returns
returns g c = λ settings records pin address run has low high.
    let w = world_of settings records in
    let among = within w.access_pins pin has in
    is_under_it w pin address among
    (each_held w.objects w.areas w.access_pins (pinned_of settings records run).held pin among) low high
