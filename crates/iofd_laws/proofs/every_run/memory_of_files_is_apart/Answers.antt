use Rattle.std.proofs.Common.{◌≡◌, ◌+◌, subst, [], ◌∷◌, length, refl, arith}
use Rattle.iofd_steps.specs.Run.{IsRun, Lawful, world_of}
use Rattle.iofd_words.specs.World.{opening}
use Rattle.iofd_laws.proofs.KeepsBound.{IsTidy, are_bound, keeps_tidy, opening_tidy, tabled_tidy}
use Rattle.iofd_runs.proofs.KeepsOwnMemory.{OwnPins, keeps_own_pins, later_own, tabled_own}
use Rattle.iofd_runs.proofs.KeepsPins.{opening_pinned}
use Rattle.iofd_runs.proofs.PinsAfter.{after_alike}
use Rattle.iofd_laws.proofs.MemoryApart.{after_same_memory}
use Rattle.iofd_runs.proofs.Runs.{after_keeps_at, lawful_at, run_beginning, run_keeps, run_keeps_at}
use Rattle.iofd_laws.proofs.every_run.memory_of_files_is_apart.Goals as goal

pub returns : goal.returns
unfolding IsRun world_of
returns g c = λ settings before r other number run another has.
    let sooner = run_beginning 0 (opening settings) before (r ∷ []) run in
    let own : OwnPins (length before) (world_of settings before) =
    run_keeps_at OwnPins tabled_own later_own keeps_own_pins 0 (length before) (opening settings) before (omega arith)
    sooner (record { pins = opening_pinned settings; own = refl })
    in
    let at : 0 + length before ≡ length before = omega arith in
    let lawful : Lawful (length before) (world_of settings before) r =
    subst (λ n. Lawful n (world_of settings before) r) at (lawful_at 0 (opening settings) before r [] run) in
    let next = after_keeps_at OwnPins tabled_own later_own keeps_own_pins (length before)
    (world_of settings before) r lawful own in
    let tidy = run_keeps IsTidy tabled_tidy keeps_tidy 0 (opening settings) before sooner (opening_tidy settings) in
    after_same_memory (length before) (world_of settings before) r other number own next
    (after_alike (length before) (world_of settings before) r lawful own.pins) (are_bound _ tidy) another has
