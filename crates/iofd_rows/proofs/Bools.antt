-- Tests joined by "and" and "or", taken apart.
use Rattle.std.proofs.Common.{◌≡◌, Bool, true, false, ◌&&◌, ◌||◌, not, refl}

pub or_false : (p q : Bool) → (p || q) ≡ false → (p ≡ false) × (q ≡ false)
or_false true q is = cc
or_false false q is = (refl, is)

pub and_true : (p q : Bool) → (p && q) ≡ true → (p ≡ true) × (q ≡ true)
and_true true q is = (refl, is)
and_true false q is = cc

pub both_false : (p q : Bool) → p ≡ false → q ≡ false → (p || q) ≡ false
both_false p q a b = rw (a, b) refl

pub both_true : (p q : Bool) → p ≡ true → q ≡ true → (p && q) ≡ true
both_true p q a b = rw (a, b) refl

pub not_true : (p : Bool) → not p ≡ true → p ≡ false
not_true true is = cc
not_true false is = refl

pub not_false : (p : Bool) → p ≡ false → not p ≡ true
not_false p is = rw is refl

pub swapped : (p q r : Bool) → (q || (p || r)) ≡ (p || (q || r))
swapped true true r = refl
swapped true false r = refl
swapped false true r = refl
swapped false false r = refl

pub or_none : (p : Bool) → (p || false) ≡ p
or_none true = refl
or_none false = refl

pub clash : (p : Bool) → p ≡ false → p ≡ true → ⊥
clash p is other = cc

pub and_rest : (p q : Bool) → p ≡ true → (p && q) ≡ false → q ≡ false
and_rest true q is fails = fails
and_rest false q is fails = cc
