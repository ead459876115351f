use Rattle.std.proofs.Common.{length}
use Rattle.iofd_steps.specs.Run.{IsRun, world_of}
use Rattle.iofd_words.specs.World.{opening}
use Rattle.iofd_laws.proofs.FilesApart.{after_keeps_others}
use Rattle.iofd_laws.proofs.KeepsBound.{IsTidy, are_bound, keeps_tidy, opening_tidy, tabled_tidy}
use Rattle.iofd_runs.proofs.Runs.{run_keeps}
use Rattle.iofd_laws.proofs.every_run.files_are_apart.Goals as goal

pub returns : goal.returns
unfolding IsRun world_of
returns g c = λ settings before r other run another.
    let tidy = run_keeps IsTidy tabled_tidy keeps_tidy 0 (opening settings) before run (opening_tidy settings) in
    after_keeps_others (length before) _ r other (are_bound _ tidy) another
