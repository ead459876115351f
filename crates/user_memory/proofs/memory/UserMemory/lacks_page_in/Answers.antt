use Rattle.std.proofs.Common.{◌≡◌, ◌∙◌, [], ◌∷◌, true, ap, not, subst, sym}
use Rattle.std.specs.Prelude.{is_none}
use Rattle.std.specs.List.{list_any}
use Rattle.user_memory.specs.Memory.{Memory, frame_now, new_in_runs, run_lies}
use Rattle.user_memory.proofs.RunPages.{lacking_told, lies_told}
use Rattle.user_memory.proofs.Settled.{memory_of}
use Rattle.user_memory.proofs.Users.{limits_of}
use Rattle.user_memory.proofs.memory.UserMemory.lacks_page_in.Goals as goal

pub has_run-requires : goal.has_run-requires
has_run-requires g c =
    let L : Memory → Type 0 = λ m. run_lies m c.args.run ≡ true in
    sym (lies_told c.args.run c.self.inside.objects.objects c.self.invariant.told.memory.rising)
    ∙ subst L (sym c.self.view_is) c.requires

pub returns : goal.returns
returns g c =
    let m = memory_of c.self.inside.users.pages (limits_of c.self.inside.accounts) c.self.inside.objects.objects in
    let L : Memory → Type 0 = λ m. run_lies m c.args.run ≡ true in
    let V : Memory → Type 0 =
    λ m. not c.has_run.result ≡ list_any (λ page. is_none (frame_now m page)) (new_in_runs m (c.args.run ∷ [])) in
    subst V c.self.view_is (ap not c.has_run.ensures
    ∙ sym (lacking_told m c.args.run c.self.invariant.told.memory.rising
    (sym (lies_told c.args.run m.objects c.self.invariant.told.memory.rising)
    ∙ subst L (sym c.self.view_is) c.requires)))
