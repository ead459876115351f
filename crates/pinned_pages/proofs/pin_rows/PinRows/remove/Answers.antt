use Rattle.std.proofs.Common.{◌≡◌, ◌∙◌, Bool, true, false, cond, eqb, Option, None, Some, sym, ap}
use Rattle.pinned_pages.specs.Access.{AccessMap, rising_rows, row_at}
use Rattle.pinned_pages.specs.declared.access_pins.AccessPin.{AccessPin}
use Rattle.pinned_pages.proofs.AccessRows.{all_counted, found_counted, row_found, sorted}
use Rattle.pinned_pages.proofs.pin_rows.PinRows.remove.Goals as goal

pub returns-clause-rows : goal.returns-clause-rows
returns-clause-rows g c other =
    row_found c.remove.new.self.entries other ∙ c.remove.ensures.updates.0 other
    ∙ ap (λ o. cond (eqb c.args.index other) None o) (sym (row_found c.self.inside.rows.entries other))
    ∙ ap (λ (v : AccessMap). cond (eqb c.args.index other) None (row_at v.rows other)) c.self.view_is

pub returns-clause-counted : goal.returns-clause-counted
returns-clause-counted g c n all =
    all_counted n (rising_rows c.remove.new.self.entries) (sorted c.remove.new.self.entries)
    (λ i pin is.
    found_counted n c.args.self.now.rows all i pin
    (kept (eqb c.args.index i) (row_at c.args.self.now.rows i) pin (sym (returns-clause-rows g c i) ∙ is)))
  where
    kept : (b : Bool) (o : Option AccessPin) (pin : AccessPin) → cond b None o ≡ Some pin → o ≡ Some pin
    kept true o pin is = cc
    kept false o pin is = is
