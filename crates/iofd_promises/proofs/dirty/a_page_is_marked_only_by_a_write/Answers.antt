use Rattle.iofd_promises.proofs.dirty.Origins.{written_of}
use Rattle.iofd_promises.proofs.dirty.a_page_is_marked_only_by_a_write.Goals as goal

pub returns : goal.returns
returns g c = λ settings records file hwpt page run is. written_of settings records file hwpt page run is
