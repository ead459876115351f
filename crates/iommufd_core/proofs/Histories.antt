-- What always holds of a run's world.
use Rattle.std.proofs.Common.{◌≡◌, ℕ, true, List, length, refl, arith}
use Rattle.iofd_runs.proofs.KeepsApart.{keeps_apart}
use Rattle.iofd_runs.proofs.KeepsFew.{keeps_few, opening_few, tabled_few}
use Rattle.iofd_runs.proofs.KeepsFits.{keeps_fit, tabled_fit}
use Rattle.iofd_runs.proofs.KeepsBoundOnce.{DevicesOnce, keeps_once, opening_once, tabled_once}
use Rattle.iofd_runs.proofs.KeepsOwnMemory.{OwnPins, keeps_own_pins, later_own, tabled_own}
use Rattle.iofd_runs.proofs.KeepsOwned.{OwnedPins, keeps_owned_pins, later_owned, opening_owned, tabled_owned}
use Rattle.iofd_runs.proofs.KeepsPins.{opening_pinned}
use Rattle.iofd_runs.proofs.KeepsPinsFit.{keeps_pins_fit, opening_pins_fit, tabled_pins_fit}
use Rattle.iofd_runs.proofs.KeepsRising.{ObjectsRise, keeps_rising, opening_rises, tabled_rises}
use Rattle.iofd_runs.proofs.KeepsTabled.{HasTables, keeps_tables, opening_tables}
use Rattle.iofd_runs.proofs.KeepsUsable.{UsableSound, keeps_usable, opening_usable, tabled_usable}
use Rattle.iofd_runs.proofs.Runs.{run_keeps, run_keeps_at, run_keeps_tables}
use Rattle.iofd_runs.specs.Apart.{are_apart}
use Rattle.iofd_runs.specs.Few.{RowsFew}
use Rattle.iofd_runs.specs.Fits.{RowsFit}
use Rattle.iofd_runs.specs.PinsFit.{AccessPinsFit}
use Rattle.iofd_steps.specs.Run.{IsRun, world_of}
use Rattle.iofd_words.specs.Record.{Record}
use Rattle.iofd_words.specs.Settings.{Settings}
use Rattle.iofd_words.specs.Tables.{with_tables}
use Rattle.iofd_words.specs.View.{view}
use Rattle.iofd_words.specs.World.{opening}
use Rattle.iommufd_core.specs.Kept.{IsKept}
use Rattle.server_state.proofs.ViewShown.{same_view}
use Rattle.server_state.specs.Choice.{NoneIdle}
use Rattle.server_state.specs.Seen.{seen}
use Rattle.server_state.specs.Step.{IsTidy}
use Rattle.server_state.specs.declared.state.State.{State}

module _ {A : Type 0} where
  apart_run : (settings : Settings) (records : List (Record A)) → IsRun settings records
      → are_apart (world_of settings records).areas ≡ true
  unfolding IsRun world_of with_tables
  apart_run settings records run = run_keeps (λ w. are_apart w.areas ≡ true) (λ w taken given apart. apart) keeps_apart
      0 (opening settings) records run refl

  pub fit_run : (settings : Settings) (records : List (Record A)) → IsRun settings records
      → RowsFit (world_of settings records)
  unfolding IsRun world_of
  fit_run settings records run = run_keeps RowsFit tabled_fit keeps_fit 0 (opening settings) records run (record {
    pages = refl;
    starts = refl;
    rights = refl;
    rise = refl;
    user_frames = refl;
    pin_frames = refl;
    known = refl;
    attached = refl;
  })

  -- and where no table is idle
  pub tidy_run : (settings : Settings) (records : List (Record A)) → IsRun settings records
      → NoneIdle (world_of settings records) → IsTidy (length records) (world_of settings records)
  unfolding IsRun world_of
  tidy_run settings records run used =
      let usable =
      run_keeps UsableSound tabled_usable keeps_usable 0 (opening settings) records run (opening_usable settings) in
      let fit = fit_run settings records run in
      let pins = run_keeps_at OwnPins tabled_own later_own keeps_own_pins 0 (length records) (opening settings) records
      (omega arith) run (record { pins = opening_pinned settings; own = refl }) in
      let owned = run_keeps_at OwnedPins tabled_owned later_owned keeps_owned_pins 0 (length records)
      (opening settings) records (omega arith) run (opening_owned settings) in
      let once =
      run_keeps DevicesOnce tabled_once keeps_once 0 (opening settings) records run (opening_once settings) in
      record {
        pins = pins.pins;
        own = pins.own;
        debts = usable.sound.debts;
        ids = usable.sound.own_ids;
        rise =
            run_keeps ObjectsRise tabled_rises keeps_rising 0 (opening settings) records run (opening_rises settings);
        once = once;
        fit = fit;
        owned = owned.areas;
        apart = apart_run settings records run;
        usable = usable.areas;
        tabled =
            (run_keeps_tables HasTables keeps_tables 0 (opening settings) records run (opening_tables settings)).tables;
        used = used;
        pins_fit = run_keeps AccessPinsFit tabled_pins_fit keeps_pins_fit 0 (opening settings) records run
            (opening_pins_fit settings);
        few = run_keeps RowsFew tabled_few keeps_few 0 (opening settings) records run (opening_few settings);
      }

  -- what is kept is seen as the world that the records have left
  pub same_kept : (state : State A) (counts : List ℕ) (records : List (Record A)) → IsKept state counts records
      → seen state ≡ view (world_of state.config records)
  same_kept state counts records kept =
      same_view (world_of state.config records) state kept.shows
      (tidy_run state.config records kept.run kept.used).tabled.owned
