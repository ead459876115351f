use Rattle.iofd_steps.specs.Run.{IsRun, world_of}
use Rattle.iofd_words.specs.World.{opening}
use Rattle.iofd_laws.proofs.OwnTables.{OwnTables, keeps_own_tables, opening_own_tables}
use Rattle.iofd_runs.proofs.Runs.{run_keeps_tables}
use Rattle.iofd_laws.proofs.every_run.tables_have_own_frames.Goals as goal

pub returns : goal.returns
unfolding IsRun world_of
returns g c = λ settings records run. (run_keeps_tables OwnTables keeps_own_tables 0 (opening settings) records run
    (opening_own_tables settings)).alone
