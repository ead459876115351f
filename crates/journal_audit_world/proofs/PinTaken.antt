-- One access pin less.
use Rattle.std.proofs.Common.{◌≡◌, ◌<◌, ◌+◌, ℕ, suc, Bool, true, cond, List, ◌∷◌, ◌++◌, length, take, drop, get_or, sym}
use Rattle.std.proofs.Common.{ap, ◌∙◌, arith}
use Rattle.std.specs.List.{remove}
use Rattle.std.proofs.lemmas.List.{drop_more}
use Rattle.iofd_words.specs.Pins.{is_equal, without_pin}
use Rattle.iofd_words.specs.declared.rows.AccessPin.{AccessPin}

-- the first that equals it is the one that goes
pub taken_here : (pin : AccessPin) (pins : List AccessPin) (i : ℕ) (p : AccessPin) {b : Bool} → i < length pins
    → p ≡ get_or pins i p → b ≡ is_equal pin p → b ≡ true
    → take i pins ++ without_pin pin (drop i pins) ≡ without_pin pin pins
    → (i < length pins) × (remove pins i ≡ without_pin pin pins)
taken_here pin pins i p within is answers equal before =
    let here = drop_more pins i p within ∙ ap (λ x. x ∷ drop (i + 1) pins) (sym is) in
    let first : without_pin pin (drop i pins) ≡ drop (i + 1) pins =
    ap (without_pin pin) here ∙ ap (λ b. cond b (drop (i + 1) pins) (p ∷ without_pin pin (drop (i + 1) pins)))
    (sym answers ∙ equal) in
    let next : suc i ≡ i + 1 = omega arith in
    (within, ap (λ n. take i pins ++ drop n pins) next ∙ sym (ap (λ rest. take i pins ++ rest) first) ∙ before)
