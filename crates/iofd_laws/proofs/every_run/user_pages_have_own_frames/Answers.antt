use Rattle.iofd_words.specs.Tables.{with_tables}
use Rattle.std.proofs.Common.{◌≡◌, true, refl}
use Rattle.iofd_laws.specs.Laws.{have_own_frames}
use Rattle.iofd_steps.specs.Run.{IsRun, world_of}
use Rattle.iofd_words.specs.World.{opening}
use Rattle.iofd_laws.proofs.OwnFrames.{keeps_own_frames}
use Rattle.iofd_runs.proofs.Runs.{run_keeps}
use Rattle.iofd_laws.proofs.every_run.user_pages_have_own_frames.Goals as goal

pub returns : goal.returns
unfolding IsRun world_of with_tables
returns g c = λ settings records run. run_keeps (λ w. have_own_frames w.user_pages ≡ true) (λ w taken given p. p)
    keeps_own_frames 0 (opening settings) records run refl
