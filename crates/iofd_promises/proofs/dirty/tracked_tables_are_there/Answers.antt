use Rattle.iofd_steps.specs.Run.{world_of}
use Rattle.iofd_promises.proofs.dirty.Once.{one_row}
use Rattle.iofd_promises.proofs.dirty.Runs.{row_of_tracked}
use Rattle.iofd_promises.proofs.dirty.There.{has_table}
use Rattle.iofd_promises.proofs.dirty.tracked_tables_are_there.Goals as goal

pub returns-clause-there : goal.returns-clause-there
returns-clause-there g c = λ settings records file hwpt run is.
    has_table settings records file hwpt run (row_of_tracked (world_of settings records) file hwpt is)

pub returns-clause-once : goal.returns-clause-once
returns-clause-once g c = λ settings records i j a b run first second files tables.
    one_row settings records i j a b run first second files tables
