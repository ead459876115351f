use Rattle.std.proofs.Common.{length, arith}
use Rattle.iofd_rows.specs.Pinned.{ArePinned}
use Rattle.iofd_steps.specs.Run.{IsRun, world_of}
use Rattle.iofd_words.specs.World.{opening}
use Rattle.iofd_laws.proofs.OutlivesUnmap.{after_outlives}
use Rattle.iofd_laws.proofs.OwnFrames.{is_in}
use Rattle.iofd_runs.proofs.KeepsPins.{keeps_pins, later_pinned, opening_pinned, tabled_pinned}
use Rattle.iofd_runs.proofs.Runs.{run_keeps_at}
use Rattle.iofd_laws.proofs.every_run.shared_pages_outlive_an_unmap.Goals as goal

pub returns : goal.returns
unfolding IsRun world_of
returns g c = λ settings before r file request area run is within apart.
    let pins : ArePinned (length before) (world_of settings before) =
    run_keeps_at ArePinned tabled_pinned later_pinned keeps_pins 0 (length before) (opening settings) before
    (omega arith) run (opening_pinned settings) in
    after_outlives (length before) (world_of settings before) r file request area pins is
    (is_in (world_of settings before).areas area within) apart
