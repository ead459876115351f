use Rattle.iofd_steps.specs.Run.{world_of}
use Rattle.iofd_promises.proofs.Rows.{within}
use Rattle.iofd_promises.proofs.TableLevels.{has_place}
use Rattle.iofd_promises.proofs.isolation.tables_are_of_their_page_tables_width.Goals as goal

pub returns : goal.returns
returns g c = λ settings records table run has. has_place settings records table run
    (within (world_of settings records).table_frames table has)
