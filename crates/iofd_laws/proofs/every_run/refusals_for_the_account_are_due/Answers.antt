use Rattle.std.proofs.Common.{length, refl, arith}
use Rattle.iofd_steps.specs.Run.{IsRun, world_of}
use Rattle.iofd_words.specs.World.{opening}
use Rattle.iofd_runs.specs.Fits.{RowsFit}
use Rattle.iofd_runs.proofs.KeepsFits.{keeps_fit, tabled_fit}
use Rattle.iofd_runs.proofs.KeepsOwned.{OwnedPins, keeps_owned_pins, later_owned, opening_owned, tabled_owned}
use Rattle.iofd_runs.proofs.Runs.{run_keeps, run_keeps_at}
use Rattle.iofd_laws.proofs.DueAccount.{over_limit}
use Rattle.iofd_laws.proofs.every_run.refusals_for_the_account_are_due.Goals as goal

pub returns : goal.returns
unfolding IsRun world_of
returns g c = λ settings records event answer run refused answers.
    let pins : OwnedPins (length records) (world_of settings records) =
    run_keeps_at OwnedPins tabled_owned later_owned keeps_owned_pins 0 (length records) (opening settings) records
    (omega arith) run (opening_owned settings)
    in
    let fits : RowsFit (world_of settings records) =
    run_keeps RowsFit tabled_fit keeps_fit 0 (opening settings) records run
    (record {
      pages = refl;
      starts = refl;
      rights = refl;
      rise = refl;
      user_frames = refl;
      pin_frames = refl;
      known = refl;
      attached = refl;
    }) in
    over_limit (length records) (world_of settings records) pins fits event answer refused answers
