use Rattle.iofd_promises.proofs.Counted.{few_areas, few_objects}
use Rattle.iofd_promises.proofs.limits.rows_are_few.Goals as goal

pub returns-clause-objects : goal.returns-clause-objects
returns-clause-objects g c = λ settings records file run. few_objects settings records file run

pub returns-clause-areas : goal.returns-clause-areas
returns-clause-areas g c = λ settings records file ioas run. few_areas settings records file ioas run
