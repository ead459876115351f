-- What a short list contains.
use Rattle.std.proofs.Common.{◌≡◌, zero, suc, [], ◌∷◌, Contains, arith}

pub contained_in_one : {X : Type 0} (a x : X) → Contains (a ∷ []) x → a ≡ x
contained_in_one a x (zero, within, is) = is
contained_in_one a x (suc k, within, is) = absurd (omega (arith, within))
