use Rattle.std.proofs.Common.{◌∙◌, ◌≡◌, ◌+◌, sym, ap, refl, leb, subst, arith}
use Rattle.std.proofs.lemmas.Bool.Decides.{nat_tests}
use Rattle.mem_account.specs.Accounts.{held_by, limit_of}
use Rattle.user_memory.specs.Memory as memory
use Rattle.user_memory.specs.Memory.{Memory}
use Rattle.user_memory.proofs.Users.{room_seen}
use Rattle.user_memory.proofs.memory.UserMemory.has_room.Goals as goal

pub returns-then-has : goal.returns-then-has
returns-then-has g c =
    let known = sym c.has.ensures ∙ c.if-has.true in
    let accounts = c.self.inside.accounts in
    let room : held_by accounts c.args.user.0 + c.room.result ≡ limit_of accounts c.args.user.0 = c.room.ensures in
    let same : leb c.args.count c.room.result ≡ leb (held_by accounts c.args.user.0 + c.args.count)
    (limit_of accounts c.args.user.0) = grind (arith, nat_tests) in
    let P : Memory → Type 0 = λ m. leb c.args.count c.from.result ≡ memory.has_room m c.args.user c.args.count in
    subst P c.self.view_is
    (ap (leb c.args.count) c.from.ensures ∙ same
    ∙ sym (room_seen c.self.inside.users.pages accounts c.self.inside.objects.objects c.args.user c.self.invariant
    c.args.count ∙ rw known refl))

pub returns-else-has : goal.returns-else-has
returns-else-has g c =
    let unknown = sym c.has.ensures ∙ c.if-has.false in
    let P : Memory → Type 0 = λ m. c.has.result ≡ memory.has_room m c.args.user c.args.count in
    subst P c.self.view_is
    (c.if-has.false ∙ sym (room_seen c.self.inside.users.pages c.self.inside.accounts c.self.inside.objects.objects
    c.args.user c.self.invariant c.args.count ∙ rw unknown refl))
