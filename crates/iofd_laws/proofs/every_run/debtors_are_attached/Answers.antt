use Rattle.std.proofs.Common.{refl}
use Rattle.iofd_steps.specs.Run.{IsRun, world_of}
use Rattle.iofd_words.specs.World.{opening}
use Rattle.iofd_runs.proofs.KeepsDebts.{IsSound, keeps_sound, tabled_sound}
use Rattle.iofd_runs.proofs.Runs.{run_keeps}
use Rattle.iofd_laws.proofs.every_run.debtors_are_attached.Goals as goal

pub returns : goal.returns
unfolding IsRun world_of
returns g c = λ settings records run.
    let sound = run_keeps IsSound tabled_sound keeps_sound 0 (opening settings) records run (record {
      own_ids = refl;
      debts = record { once = refl; debtors = refl; tables = refl; spaces = refl; areas = refl };
    }) in
    sound.debts
