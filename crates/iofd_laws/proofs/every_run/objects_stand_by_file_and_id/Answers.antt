use Rattle.iofd_steps.specs.Run.{IsRun, world_of}
use Rattle.iofd_words.specs.World.{opening}
use Rattle.iofd_runs.proofs.KeepsRising.{ObjectsRise, keeps_rising, opening_rises, tabled_rises}
use Rattle.iofd_runs.proofs.Runs.{run_keeps}
use Rattle.iofd_laws.proofs.every_run.objects_stand_by_file_and_id.Goals as goal

pub returns : goal.returns
unfolding IsRun world_of
returns g c = λ settings records run. run_keeps ObjectsRise tabled_rises keeps_rising 0 (opening settings) records run
    (opening_rises settings)
