use Rattle.std.proofs.Common.{refl}
use Rattle.iofd_runs.specs.Fits.{RowsFit}
use Rattle.iofd_steps.specs.Run.{IsRun, world_of}
use Rattle.iofd_words.specs.World.{opening}
use Rattle.iofd_runs.proofs.KeepsFits.{keeps_fit, tabled_fit}
use Rattle.iofd_runs.proofs.Runs.{run_keeps}
use Rattle.iofd_laws.proofs.every_run.rows_fit.Goals as goal

pub returns : goal.returns
unfolding IsRun world_of
returns g c = λ settings records run. run_keeps RowsFit tabled_fit keeps_fit 0 (opening settings) records run
    (record {
      pages = refl;
      starts = refl;
      rights = refl;
      rise = refl;
      user_frames = refl;
      pin_frames = refl;
      known = refl;
      attached = refl;
    })
