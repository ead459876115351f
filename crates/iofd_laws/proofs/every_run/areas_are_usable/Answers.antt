use Rattle.iofd_steps.specs.Run.{IsRun, world_of}
use Rattle.iofd_words.specs.World.{opening}
use Rattle.iofd_runs.proofs.KeepsUsable.{UsableSound, keeps_usable, opening_usable, tabled_usable}
use Rattle.iofd_runs.proofs.Runs.{run_keeps}
use Rattle.iofd_laws.proofs.every_run.areas_are_usable.Goals as goal

pub returns : goal.returns
unfolding IsRun world_of
returns g c = λ settings records run. (run_keeps UsableSound tabled_usable keeps_usable 0 (opening settings) records run
    (opening_usable settings)).areas
