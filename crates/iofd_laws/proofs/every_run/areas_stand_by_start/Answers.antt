use Rattle.iofd_words.specs.Tables.{with_tables}
use Rattle.std.proofs.Common.{◌≡◌, true, refl}
use Rattle.iofd_laws.specs.Laws.{starts_rise}
use Rattle.iofd_steps.specs.Run.{IsRun, world_of}
use Rattle.iofd_words.specs.World.{opening}
use Rattle.iofd_laws.proofs.AreasRise.{keeps_rise}
use Rattle.iofd_runs.proofs.Runs.{run_keeps}
use Rattle.iofd_laws.proofs.every_run.areas_stand_by_start.Goals as goal

pub returns : goal.returns
unfolding IsRun world_of with_tables
returns g c = λ settings records run. run_keeps (λ w. starts_rise w.areas ≡ true) (λ w taken given p. p) keeps_rise 0
    (opening settings) records run refl
