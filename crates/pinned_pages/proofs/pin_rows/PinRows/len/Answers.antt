use Rattle.std.proofs.Common.{◌≡◌, ◌∙◌, ◌<◌, ℕ, true, Option, None, Some, sym, ap}
use Rattle.std.specs.Prelude.{is_some}
use Rattle.std.specs.List.{range_with_len}
use Rattle.pinned_pages.specs.Access.{AccessMap, AccessRows, are_counted, rising_rows, row_at}
use Rattle.pinned_pages.specs.declared.access_pins.AccessPin.{AccessPin}
use Rattle.pinned_pages.proofs.AccessRows.{found_counted, found_once, row_found, same_count}
use Rattle.pinned_pages.proofs.pin_rows.PinRows.len.Goals as goal

below : (n i : ℕ) (rows : AccessRows) (o : Option AccessPin) → are_counted n rows ≡ true → row_at rows i ≡ o
    → is_some o ≡ true → i < n
below n i rows None all is some = cc
below n i rows (Some pin) all is some = (found_counted n rows all i pin is).0

pub returns : goal.returns
returns g c n all =
    let es = c.self.inside.rows.entries in
    let same : rising_rows es ≡ c.args.self.now.rows = ap (λ (v : AccessMap). v.rows) c.self.view_is in
    same_count (λ i. is_some (row_at es i)) (λ i. is_some (row_at c.args.self.now.rows i))
    (λ i. ap (λ rows. is_some (row_at rows i)) (sym same) ∙ ap is_some (row_found es i)) (range_with_len 0 n)
    ∙ found_once es c.self.invariant n
    (λ i some. below n i c.args.self.now.rows (row_at es i) all
    (ap (λ rows. row_at rows i) (sym same) ∙ row_found es i) some)
    ∙ sym c.len.ensures.len
