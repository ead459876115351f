use Rattle.std.proofs.Common.{length, arith}
use Rattle.iofd_rows.specs.Pinned.{ArePinned}
use Rattle.iofd_steps.specs.Run.{IsRun, world_of}
use Rattle.iofd_words.specs.World.{opening}
use Rattle.iofd_runs.proofs.KeepsPins.{keeps_pins, later_pinned, tabled_pinned, opening_pinned}
use Rattle.iofd_runs.proofs.Runs.{run_keeps_at}
use Rattle.iofd_laws.proofs.every_run.pins_are_those_of_pinned_pages.Goals as goal

pub returns : goal.returns
unfolding IsRun world_of
returns g c = λ settings records run. run_keeps_at ArePinned tabled_pinned later_pinned keeps_pins 0 (length records)
    (opening settings) records (omega arith) run (opening_pinned settings)
