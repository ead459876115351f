use Rattle.iofd_promises.proofs.dirty.Clearing.{clears_just}
use Rattle.iofd_promises.proofs.dirty.a_report_clears_just_its_span.Goals as goal

pub returns : goal.returns
returns g c = λ settings before r file request words own hwpt page run asked told.
    clears_just settings before r file request words own hwpt page run asked told
