use Rattle.std.proofs.Common.{length}
use Rattle.iofd_steps.specs.Run.{IsRun, world_of}
use Rattle.iofd_words.specs.World.{opening}
use Rattle.iofd_runs.proofs.KeepsTabled.{HasTables, keeps_tables, opening_tables}
use Rattle.iofd_runs.proofs.Runs.{run_keeps_tables}
use Rattle.iofd_laws.proofs.DueFrames.{due}
use Rattle.iofd_laws.proofs.every_run.refusals_for_frames_are_due.Goals as goal

pub returns : goal.returns
unfolding IsRun world_of
returns g c = λ settings records event answer taken given run refused fixed answers moves.
    due (length records) (world_of settings records)
    (run_keeps_tables HasTables keeps_tables 0 (opening settings) records run (opening_tables settings)) taken given
    event answer refused fixed answers moves
