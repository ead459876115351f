use Rattle.std.proofs.Common.{◌∙◌, sym, ap, subst}
use Rattle.memory_objects.specs.Invariant.{MemoryInvariant}
use Rattle.memory_objects.specs.Objects.{ObjectTable, standing}
use Rattle.memory_objects.proofs.Invariants.{row_found, rows_found}
use Rattle.memory_objects.proofs.objects.MemoryObjects.get.Goals as goal

pub returns-in_err-entry-clause-row : goal.returns-in_err-entry-clause-row
returns-in_err-entry-clause-row g c =
    rw (c.from_residual.ensures, ← c.self.view_is)
    (sym (rows_found (standing c.self.inside.entries.items) c.args.number
    ∙ ap row_found (rw c.deref.ensures.value at (sym c.in_err-entry.ensures))))

pub returns-clause-row : goal.returns-clause-row
returns-clause-row g c =
    rw (c.user.ensures, c.va.ensures, c.count.ensures, c.is_writable.ensures, ← c.self.view_is)
    (sym (rows_found (standing c.self.inside.entries.items) c.args.number
    ∙ ap row_found (rw c.deref.ensures.value at (sym c.in_ok-entry.ensures))))

pub returns-in_err-entry-clause-invariant : goal.returns-in_err-entry-clause-invariant
returns-in_err-entry-clause-invariant g c =
    let M : ObjectTable → Type 0 = λ v. MemoryInvariant v.objects in
    subst M c.self.view_is c.self.invariant.kept

pub returns-clause-invariant : goal.returns-clause-invariant
returns-clause-invariant g c =
    let M : ObjectTable → Type 0 = λ v. MemoryInvariant v.objects in
    subst M c.self.view_is c.self.invariant.kept
