use Rattle.std.proofs.Common.{◌≡◌, subst, sym, ◌∙◌}
use Rattle.user_memory.proofs.Counts.{newly_told}
use Rattle.user_memory.proofs.Settled.{memory_of}
use Rattle.user_memory.proofs.Users.{limits_of}
use Rattle.user_memory.specs.Memory.{Memory, newly_pinned}
use Rattle.user_memory.proofs.memory.UserMemory.newly_pinned.Goals as goal

pub returns : goal.returns
returns g c =
    let m = memory_of c.self.inside.users.pages (limits_of c.self.inside.accounts) c.self.inside.objects.objects in
    let V : Memory → Type 0 = λ m. c.new_pages.result ≡ newly_pinned m c.args.numbers.now in
    subst V c.self.view_is (c.new_pages.ensures ∙ sym (newly_told m c.args.numbers.now c.self.invariant.told))
