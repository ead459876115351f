-- The first so many of a list.
use Rattle.std.proofs.Common.{◌≡◌, ℕ, zero, suc, ◌-◌, ◌<◌, Bool, true, List, [], ◌∷◌, length, take, refl, ap, arith}
use Rattle.std.specs.List.{list_all}
use Rattle.iofd_rows.proofs.Bools.{and_true, both_true}

pub first_more : {X : Type 0} (n : ℕ) (x : X) (xs : List X) → 0 < n → take n (x ∷ xs) ≡ x ∷ take (n - 1) xs
first_more zero x xs some = absurd (omega (arith, some))
first_more (suc n) x xs some = let less : suc n - 1 ≡ n = omega arith in rw less refl

pub first_none : {X : Type 0} (n : ℕ) → take {A = X} n [] ≡ []
first_none zero = refl
first_none (suc n) = refl

pub all_first : {X : Type 0} (p : X → Bool) (n : ℕ) (xs : List X) → list_all p xs ≡ true → list_all p (take n xs) ≡ true
all_first p zero xs all = refl
all_first p (suc n) [] all = refl
all_first p (suc n) (x ∷ xs) all =
    let parts = and_true (p x) (list_all p xs) all in
    both_true _ _ parts.0 (all_first p n xs parts.1)

-- without its first element a list is shorter
pub shorter : {X : Type 0} (all rest : List X) (x : X) → all ≡ x ∷ rest → length rest < length all
shorter all rest x is =
    let longer : length (x ∷ rest) ≡ suc (length rest) = refl in
    let same = ap (λ l. length l) is in
    omega (arith, longer, same)
