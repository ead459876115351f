use Rattle.std.proofs.Common.{◌≡◌, ◌<◌, ◌∙◌, ℕ, Bool, true, false, cond, eqb, Option, Some, sym, ap, arith, refl}
use Rattle.std.proofs.lemmas.Bool.{eqb-true}
use Rattle.pinned_pages.specs.Access.{AccessMap, rising_rows, row_at}
use Rattle.pinned_pages.specs.declared.access_pins.AccessPin.{AccessPin}
use Rattle.pinned_pages.proofs.AccessRows.{all_counted, found_counted, from_ok, row_found, sorted}
use Rattle.pinned_pages.proofs.pin_rows.PinRows.add.Goals as goal

pub returns-clause-rows : goal.returns-clause-rows
returns-clause-rows g c other =
    let pin : Option AccessPin = Some (record { frame = c.args.frame; pins = 1 }) in
    let room = rw (← c.self.view_is) at c.requires.room in
    let updated = from_ok c.insert.result _ (c.insert.ensures.succeeds room) c.insert.ensures.updates in
    row_found c.insert.new.self.entries other ∙ updated.0 other
    ∙ ap (λ o. cond (eqb c.args.index other) pin o) (sym (row_found c.self.inside.rows.entries other))
    ∙ ap (λ (v : AccessMap). cond (eqb c.args.index other) pin (row_at v.rows other)) c.self.view_is

pub returns-clause-counted : goal.returns-clause-counted
returns-clause-counted g c n low all =
    all_counted n (rising_rows c.insert.new.self.entries) (sorted c.insert.new.self.entries)
    (λ i pin is.
    either i (eqb c.args.index i) refl (row_at c.args.self.now.rows i) pin (sym (returns-clause-rows g c i) ∙ is)
    (found_counted n c.args.self.now.rows all i pin))
  where
    either : (i : ℕ) (b : Bool) → eqb c.args.index i ≡ b → (o : Option AccessPin) (pin : AccessPin)
        → cond b (Some (record { frame = c.args.frame; pins = 1 })) o ≡ Some pin
        → (o ≡ Some pin → (i < n) × (0 < pin.pins)) → (i < n) × (0 < pin.pins)
    either i true here o pin is later =
        let key = eqb-true c.args.index i here in
        let pins : 1 ≡ pin.pins = cc in
        (omega (arith, low, key), omega (arith, pins))
    either i false here o pin is later = later is
