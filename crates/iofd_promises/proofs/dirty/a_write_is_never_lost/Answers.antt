use Rattle.iofd_promises.proofs.dirty.Runs.{marked_after}
use Rattle.iofd_promises.proofs.dirty.a_write_is_never_lost.Goals as goal

pub returns : goal.returns
returns g c = λ settings records file hwpt page run is. marked_after settings records file hwpt page run is
