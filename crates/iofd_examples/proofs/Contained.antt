-- What a short list contains.
use Rattle.std.proofs.Common.{◌≡◌, zero, suc, [], ◌∷◌, Contains, arith, ◌⊎◌, inl, inr}

pub contained_in_one : {X : Type 0} (a x : X) → Contains (a ∷ []) x → a ≡ x
contained_in_one a x (zero, within, is) = is
contained_in_one a x (suc k, within, is) = absurd (omega (arith, within))

pub contained_in_two : {X : Type 0} (a b x : X) → Contains (a ∷ b ∷ []) x → (a ≡ x) ⊎ (b ≡ x)
contained_in_two a b x (zero, within, is) = inl is
contained_in_two a b x (suc zero, within, is) = inr is
contained_in_two a b x (suc (suc k), within, is) = absurd (omega (arith, within))
