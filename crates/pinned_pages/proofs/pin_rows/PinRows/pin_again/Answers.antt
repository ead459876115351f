use Rattle.std.proofs.Common.{◌+◌, ◌<◌, ◌∙◌, ℕ, cond, eqb, Option, Some, refl, sym, ap, subst, arith}
use Rattle.std.specs.Map.{lookup}
use Rattle.std.specs.Prelude.{IsSome}
use Rattle.pinned_pages.specs.Access.{AccessMap, pins_in, rising_rows, row_at}
use Rattle.pinned_pages.specs.declared.access_pins.AccessPin.{AccessPin}
use Rattle.pinned_pages.proofs.AccessRows.{changed_counted, row_found, sorted}
use Rattle.pinned_pages.proofs.pin_rows.PinRows.pin_again.Goals as goal

pub returns-in_err-row-clause-before : goal.returns-in_err-row-clause-before
returns-in_err-row-clause-before g c =
    c.from_residual.ensures ∙ c.in_err-row.ensures.value ∙ sym (row_found c.self.inside.rows.entries c.args.index)
    ∙ ap (λ (v : AccessMap). row_at v.rows c.args.index) c.self.view_is

pub returns-clause-before : goal.returns-clause-before
returns-clause-before g c =
    c.in_ok-row.ensures.value ∙ sym (row_found c.self.inside.rows.entries c.args.index)
    ∙ ap (λ (v : AccessMap). row_at v.rows c.args.index) c.self.view_is

pub overflow_add-row : goal.overflow_add-row
overflow_add-row g c =
    let pins = ap pins_in (c.in_ok-row.ensures.value ∙ sym (row_found c.self.inside.rows.entries c.args.index)
    ∙ ap (λ (v : AccessMap). row_at v.rows c.args.index) c.self.view_is) in
    let few = c.requires in
    omega (arith, pins, few)

pub returns-clause-rows : goal.returns-clause-rows
returns-clause-rows g c other =
    let row = c.in_ok-row.row.now in
    let pin : AccessPin = record { frame = row.frame; pins = row.pins + 1 } in
    let held = c.get_mut.follows.holds pin in
    let es = c.self.inside.rows.entries in
    let some : IsSome (lookup (λ (i : ℕ). eqb c.args.index i) es) =
    subst (λ (o : Option AccessPin). IsSome o) c.in_ok-row.ensures.value refl in
    let updated = held.3 some in
    row_found (c.get_mut.follows.lender pin).entries other
    ∙ updated.0 other
    ∙ ap (λ o. cond (eqb c.args.index other) (Some pin) o) (sym (row_found es other))
    ∙ ap (λ (v : AccessMap). cond (eqb c.args.index other) (Some pin) (row_at v.rows other)) c.self.view_is

pub returns-clause-counted : goal.returns-clause-counted
returns-clause-counted g c n all =
    let row = c.in_ok-row.row.now in
    let pin : AccessPin = record { frame = row.frame; pins = row.pins + 1 } in
    let some : 0 < row.pins + 1 = omega arith in
    changed_counted n c.args.index c.args.self.now.rows (rising_rows (c.get_mut.follows.lender pin).entries) row pin
    (sorted (c.get_mut.follows.lender pin).entries) (sym (returns-clause-before g c)) some (returns-clause-rows g c) all
