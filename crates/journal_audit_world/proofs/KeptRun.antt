-- What every run keeps.
use Rattle.std.proofs.Common.{◌≡◌, true, List, length, refl, arith}
use Rattle.iofd_steps.specs.Run.{IsRun, world_of}
use Rattle.iofd_words.specs.Record.{Record}
use Rattle.iofd_words.specs.Settings.{Settings}
use Rattle.iofd_words.specs.Tables.{with_tables}
use Rattle.iofd_words.specs.World.{opening}
use Rattle.iofd_runs.specs.Apart.{are_apart}
use Rattle.iofd_runs.specs.Fits.{RowsFit}
use Rattle.iofd_runs.specs.PinsFit.{AccessPinsFit}
use Rattle.iofd_runs.proofs.KeepsApart.{keeps_apart}
use Rattle.iofd_runs.proofs.KeepsFits.{keeps_fit, tabled_fit}
use Rattle.iofd_runs.proofs.KeepsPinsFit.{keeps_pins_fit, opening_pins_fit, tabled_pins_fit}
use Rattle.iofd_runs.proofs.KeepsTabled.{HasTables, keeps_tables, opening_tables}
use Rattle.iofd_runs.proofs.Runs.{run_keeps, run_keeps_at, run_keeps_tables}
use Rattle.journal_audit_world.specs.Kept.{IsKept}
use Rattle.journal_audit_world.proofs.Differ.{TablesDiffer, keeps_differ, opening_differ}
use Rattle.journal_audit_world.proofs.Numbered.{IsNumbered, keeps_numbered, later_numbered, opening_numbered}
use Rattle.journal_audit_world.proofs.Numbered.{tabled_numbered}

pub kept_run : {A : Type 0} (settings : Settings) (records : List (Record A)) → IsRun settings records
    → IsKept (length records) (world_of settings records)
unfolding IsRun world_of with_tables
kept_run settings records run =
    let tables = run_keeps_tables HasTables keeps_tables 0 (opening settings) records run (opening_tables settings) in
    let numbered = run_keeps_at IsNumbered tabled_numbered later_numbered keeps_numbered 0 (length records)
    (opening settings) records (omega arith) run (opening_numbered settings) in
    record {
      pins = numbered.pins;
      numbers = numbered.rise;
      own_ids = tables.own_ids;
      tabled = tables.tables;
      differ = run_keeps_tables TablesDiffer keeps_differ 0 (opening settings) records run (opening_differ settings);
      fit = run_keeps RowsFit tabled_fit keeps_fit 0 (opening settings) records run (record {
        pages = refl;
        starts = refl;
        rights = refl;
        rise = refl;
        user_frames = refl;
        pin_frames = refl;
        known = refl;
        attached = refl;
      });
      pins_fit = run_keeps AccessPinsFit tabled_pins_fit keeps_pins_fit 0 (opening settings) records run
          (opening_pins_fit settings);
      apart = run_keeps (λ w. are_apart w.areas ≡ true) (λ w taken given p. p) keeps_apart 0 (opening settings) records
          run refl;
    }
