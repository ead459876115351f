-- Rows of which one is found, or none.
use Rattle.std.proofs.Common.{◌≡◌, ◌<◌, ◌≤◌, Bool, true, false, not, None, Result, Ok, Err, OnOk, is_err}
use Rattle.std.proofs.Common.{List, [], ◌∷◌, length, refl, arith, ⊎_elim}
use Rattle.std.specs.List.{filter, find, list_any}
use Rattle.std.proofs.lemmas.Bool.{cases_Bool}

pub at_answer : {T E P : Type 0} (r : Result T E) → is_err r ≡ false → OnOk r P → P
at_answer (Ok x) is fact = fact
at_answer (Err e) is fact = cc

pub no_more : {X : Type 0} (p : X → Bool) (xs : List X) → length (filter p xs) ≤ length xs
no_more p [] = omega arith
no_more p (x ∷ xs) =
    let rest = no_more p xs in
    ⊎_elim (λ (passes : p x ≡ true). rw passes (omega (arith, rest)))
    (λ (fails : p x ≡ false). rw fails (omega (arith, rest))) (cases_Bool (p x))

pub found_fewer : {X : Type 0} (p : X → Bool) (xs : List X) → list_any p xs ≡ true
    → length (filter (λ x. not (p x)) xs) < length xs
found_fewer p [] found = cc
found_fewer p (x ∷ xs) found =
    ⊎_elim
    (λ (here : p x ≡ true). let rest = no_more (λ y. not (p y)) xs in rw here (omega (arith, rest)))
    (λ (other : p x ≡ false). let rest = found_fewer p xs (rw other at found) in rw other (omega (arith, rest)))
    (cases_Bool (p x))

pub none_found : {X : Type 0} (p : X → Bool) (xs : List X) → list_any p xs ≡ false → find p xs ≡ None
none_found p [] none = refl
none_found p (x ∷ xs) none =
    ⊎_elim
    (λ (here : p x ≡ true). let wrong : true ≡ false = rw here at none in absurd (cc))
    (λ (other : p x ≡ false). rw other (none_found p xs (rw other at none)))
    (cases_Bool (p x))
