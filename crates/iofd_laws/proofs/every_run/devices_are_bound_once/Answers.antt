use Rattle.iofd_steps.specs.Run.{IsRun, world_of}
use Rattle.iofd_words.specs.World.{opening}
use Rattle.iofd_runs.proofs.KeepsBoundOnce.{DevicesOnce, keeps_once, opening_once, tabled_once}
use Rattle.iofd_runs.proofs.Runs.{run_keeps}
use Rattle.iofd_laws.proofs.every_run.devices_are_bound_once.Goals as goal

pub returns : goal.returns
unfolding IsRun world_of
returns g c = λ settings records run. run_keeps DevicesOnce tabled_once keeps_once 0 (opening settings) records
    run (opening_once settings)
