use Rattle.iofd_promises.proofs.dirty.Turned.{tracked_after, turned_of}
use Rattle.iofd_promises.proofs.dirty.a_table_is_tracked_since_it_was_turned_on.Goals as goal

pub returns : goal.returns
returns g c = λ settings records file hwpt run.
    (λ is. turned_of settings records file hwpt run is, λ is. tracked_after settings records file hwpt run is)
