use Rattle.std.proofs.Common.{length, refl, arith}
use Rattle.iofd_runs.specs.Fits.{RowsFit}
use Rattle.iofd_rows.specs.Pinned.{ArePinned}
use Rattle.iofd_steps.specs.Run.{IsRun, world_of}
use Rattle.iofd_words.specs.World.{opening}
use Rattle.iofd_runs.proofs.KeepsFits.{keeps_fit, tabled_fit}
use Rattle.iofd_runs.proofs.KeepsPins.{keeps_pins, later_pinned, tabled_pinned, opening_pinned}
use Rattle.iofd_laws.proofs.OwnTables.{OwnTables, keeps_own_tables, opening_own_tables}
use Rattle.iofd_laws.proofs.SomeRecord.{some_record}
use Rattle.iofd_runs.proofs.Runs.{run_keeps, run_keeps_at, run_keeps_tables}
use Rattle.iofd_laws.proofs.every_run.every_event_has_an_answer.Goals as goal

pub returns : goal.returns
unfolding IsRun world_of
returns g c = λ settings records event run none.
    let pins : ArePinned (length records) (world_of settings records) =
    run_keeps_at ArePinned tabled_pinned later_pinned keeps_pins 0 (length records) (opening settings) records
    (omega arith) run (opening_pinned settings) in
    let fits : RowsFit (world_of settings records) =
    run_keeps RowsFit tabled_fit keeps_fit 0 (opening settings) records run (record {
      pages = refl;
      starts = refl;
      rights = refl;
      rise = refl;
      user_frames = refl;
      pin_frames = refl;
      known = refl;
      attached = refl;
    }) in
    let own =
    run_keeps_tables OwnTables keeps_own_tables 0 (opening settings) records run (opening_own_tables settings) in
    some_record (length records) (world_of settings records) pins fits own.has own.alone event none
