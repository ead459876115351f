use Rattle.std.proofs.Common.{◌≡◌, ◌+◌, subst, [], ◌∷◌, length, arith}
use Rattle.iofd_steps.specs.Run.{IsRun, Lawful, world_of}
use Rattle.iofd_words.specs.World.{opening}
use Rattle.iofd_laws.proofs.KeepsBound.{IsTidy, are_bound, keeps_tidy, opening_tidy, tabled_tidy}
use Rattle.iofd_laws.proofs.OwnTables.{OwnTables, keeps_own_tables, opening_own_tables}
use Rattle.iofd_laws.proofs.TablesApart.{after_keeps_tables_of}
use Rattle.iofd_runs.proofs.Runs.{lawful_at, run_beginning, run_keeps, run_keeps_tables}
use Rattle.iofd_laws.proofs.every_run.tables_of_files_are_apart.Goals as goal

pub returns : goal.returns
unfolding IsRun world_of
returns g c = λ settings before r other run another.
    let sooner = run_beginning 0 (opening settings) before (r ∷ []) run in
    let own : OwnTables (world_of settings before) =
    run_keeps_tables OwnTables keeps_own_tables 0 (opening settings) before sooner (opening_own_tables settings) in
    let tidy = run_keeps IsTidy tabled_tidy keeps_tidy 0 (opening settings) before sooner (opening_tidy settings) in
    let at : 0 + length before ≡ length before = omega arith in
    let lawful : Lawful (length before) (world_of settings before) r =
    subst (λ n. Lawful n (world_of settings before) r) at (lawful_at 0 (opening settings) before r [] run) in
    after_keeps_tables_of (length before) (world_of settings before) r other lawful own (are_bound _ tidy) another
