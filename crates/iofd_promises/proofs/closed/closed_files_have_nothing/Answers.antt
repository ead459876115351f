use Rattle.iofd_steps.specs.Run.{world_of}
use Rattle.iofd_runs.proofs.Accessed.{each_held}
use Rattle.iofd_promises.proofs.ClosedFiles.{allowed_open, has_nothing}
use Rattle.iofd_promises.proofs.Facts.{fits_of, pinned_of, usable_of}
use Rattle.iofd_promises.proofs.Rows.{within}
use Rattle.iofd_promises.proofs.closed.closed_files_have_nothing.Goals as goal

pub returns : goal.returns
returns g c = λ settings records file run has.
    let w = world_of settings records in
    has_nothing w file (fits_of settings records run) (usable_of settings records run).sound
    (each_held w.objects w.areas w.access_pins (pinned_of settings records run).held)
    (allowed_open settings records run) (within w.closed file has)
