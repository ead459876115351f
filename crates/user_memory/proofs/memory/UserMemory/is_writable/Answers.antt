use Rattle.std.proofs.Common.{◌≡◌, ◌∙◌, false, sym, ap, subst}
use Rattle.iofd_words.specs.Copies.{is_writable}
use Rattle.user_memory.specs.Memory.{Memory, rows_of}
use Rattle.user_memory.proofs.Shared.{writable_found, writable_of}
use Rattle.user_memory.proofs.memory.UserMemory.is_writable.Goals as goal

pub returns-in-Some : goal.returns-in-Some
returns-in-Some g c =
    let told = writable_found c.self.inside.objects.objects c.args.number c.self.invariant.told.memory.rising in
    let P : Memory → Type 0 = λ m. c.in-Some.row.writable ≡ is_writable (rows_of m) c.args.number in
    subst P c.self.view_is (sym (told ∙ ap writable_of (sym c.in-Some.ensures.row)))

pub returns-in-None : goal.returns-in-None
returns-in-None g c =
    let told = writable_found c.self.inside.objects.objects c.args.number c.self.invariant.told.memory.rising in
    let P : Memory → Type 0 = λ m. false ≡ is_writable (rows_of m) c.args.number in
    subst P c.self.view_is (sym (told ∙ ap writable_of (sym c.in-None.ensures.row)))
