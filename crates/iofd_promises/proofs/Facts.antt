-- What holds of the world that a run leaves, by the lemmas below.
use Rattle.std.proofs.Common.{◌≡◌, true, List, refl, length, arith}
use Rattle.iofd_steps.specs.Run.{IsRun, world_of}
use Rattle.iofd_words.specs.Record.{Record}
use Rattle.iofd_words.specs.Settings.{Settings}
use Rattle.iofd_words.specs.World.{opening}
use Rattle.iofd_runs.specs.Apart.{are_apart}
use Rattle.iofd_runs.specs.Fits.{RowsFit}
use Rattle.iofd_runs.specs.PinsFit.{AccessPinsFit}
use Rattle.iofd_runs.proofs.KeepsApart.{keeps_apart}
use Rattle.iofd_runs.proofs.KeepsFits.{keeps_fit, tabled_fit}
use Rattle.iofd_runs.proofs.KeepsUsable.{UsableSound, keeps_usable, opening_usable, tabled_usable}
use Rattle.iofd_runs.proofs.KeepsTabled.{HasTables, keeps_tables, opening_tables}
use Rattle.iofd_rows.specs.Pinned.{ArePinned}
use Rattle.iofd_runs.proofs.KeepsPins.{keeps_pins, later_pinned, opening_pinned, tabled_pinned}
use Rattle.iofd_runs.proofs.KeepsPinsFit.{keeps_pins_fit, opening_pins_fit, tabled_pins_fit}
use Rattle.iofd_runs.proofs.Runs.{run_keeps, run_keeps_at, run_keeps_tables}
use Rattle.iofd_words.specs.Tables.{with_tables}
use Rattle.iofd_promises.proofs.KeepsWidths.{WidthSound, keeps_widths, tabled_widths}

pub fits_of : {A : Type 0} (settings : Settings) (records : List (Record A)) → IsRun settings records
    → RowsFit (world_of settings records)
unfolding IsRun world_of
fits_of settings records run = run_keeps RowsFit tabled_fit keeps_fit 0 (opening settings) records run
    (record {
      pages = refl;
      starts = refl;
      rights = refl;
      rise = refl;
      user_frames = refl;
      pin_frames = refl;
      known = refl;
      attached = refl;
    })

pub usable_of : {A : Type 0} (settings : Settings) (records : List (Record A)) → IsRun settings records
    → UsableSound (world_of settings records)
unfolding IsRun world_of
usable_of settings records run =
    run_keeps UsableSound tabled_usable keeps_usable 0 (opening settings) records run (opening_usable settings)

pub apart_of : {A : Type 0} (settings : Settings) (records : List (Record A)) → IsRun settings records
    → are_apart (world_of settings records).areas ≡ true
unfolding IsRun world_of with_tables
apart_of settings records run =
    run_keeps (λ w. are_apart w.areas ≡ true) (λ w taken given p. p) keeps_apart 0 (opening settings) records run refl

pub widths_of : {A : Type 0} (settings : Settings) (records : List (Record A)) → IsRun settings records
    → WidthSound settings (world_of settings records)
unfolding IsRun world_of
widths_of settings records run =
    run_keeps (WidthSound settings) (tabled_widths settings) (keeps_widths settings) 0 (opening settings) records run
    (record { opened = refl; sound = (opening_usable settings).sound; widths = λ a within. absurd within })

pub tables_of : {A : Type 0} (settings : Settings) (records : List (Record A)) → IsRun settings records
    → HasTables (world_of settings records)
unfolding IsRun world_of
tables_of settings records run =
    run_keeps_tables HasTables keeps_tables 0 (opening settings) records run (opening_tables settings)

pub pins_fit_of : {A : Type 0} (settings : Settings) (records : List (Record A)) → IsRun settings records
    → AccessPinsFit (world_of settings records)
unfolding IsRun world_of
pins_fit_of settings records run =
    run_keeps AccessPinsFit tabled_pins_fit keeps_pins_fit 0 (opening settings) records run (opening_pins_fit settings)

pub pinned_of : {A : Type 0} (settings : Settings) (records : List (Record A)) → IsRun settings records
    → ArePinned (length records) (world_of settings records)
unfolding IsRun world_of
pinned_of settings records run = run_keeps_at ArePinned tabled_pinned later_pinned keeps_pins 0 (length records)
    (opening settings) records (omega arith) run (opening_pinned settings)
