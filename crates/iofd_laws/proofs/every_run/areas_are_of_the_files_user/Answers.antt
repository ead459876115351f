use Rattle.std.proofs.Common.{length, arith}
use Rattle.iofd_steps.specs.Run.{IsRun, world_of}
use Rattle.iofd_words.specs.World.{opening}
use Rattle.iofd_runs.proofs.KeepsOwned.{OwnedPins, keeps_owned_pins, later_owned, opening_owned, tabled_owned}
use Rattle.iofd_runs.proofs.Runs.{run_keeps_at}
use Rattle.iofd_laws.proofs.every_run.areas_are_of_the_files_user.Goals as goal

pub returns : goal.returns
unfolding IsRun world_of
returns g c = λ settings records run.
    let owned : OwnedPins (length records) (world_of settings records) =
    run_keeps_at OwnedPins tabled_owned later_owned keeps_owned_pins 0 (length records) (opening settings) records
    (omega arith) run (opening_owned settings)
    in
    owned.areas
