use Rattle.std.proofs.Common.{◌≡◌, ◌∙◌, [], ◌∷◌, length, true, subst, sym}
use Rattle.user_memory.specs.Memory.{Memory, new_in_runs, run_lies}
use Rattle.user_memory.proofs.RunPages.{lies_told, run_count_told}
use Rattle.user_memory.proofs.Settled.{memory_of}
use Rattle.user_memory.proofs.Users.{limits_of}
use Rattle.user_memory.proofs.memory.UserMemory.new_pages_in.Goals as goal

pub new_in_run-requires : goal.new_in_run-requires
new_in_run-requires g c =
    let L : Memory → Type 0 = λ m. run_lies m c.args.run ≡ true in
    sym (lies_told c.args.run c.self.inside.objects.objects c.self.invariant.told.memory.rising)
    ∙ subst L (sym c.self.view_is) c.requires

pub returns : goal.returns
returns g c =
    let m = memory_of c.self.inside.users.pages (limits_of c.self.inside.accounts) c.self.inside.objects.objects in
    let L : Memory → Type 0 = λ m. run_lies m c.args.run ≡ true in
    let V : Memory → Type 0 = λ m. c.new_in_run.result ≡ length (new_in_runs m (c.args.run ∷ [])) in
    subst V c.self.view_is (c.new_in_run.ensures
    ∙ run_count_told m c.args.run c.self.invariant.told.memory.rising
    (sym (lies_told c.args.run m.objects c.self.invariant.told.memory.rising)
    ∙ subst L (sym c.self.view_is) c.requires))
