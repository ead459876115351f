-- Pairs of digits, by the place of the byte.
use Rattle.std.proofs.Common.{◌≡◌, ℕ, zero, suc, ◌+◌, ◌*◌, ◌/◌, ◌<◌, Bool, true, get_or, List, [], ◌∷◌, length, refl}
use Rattle.std.proofs.Common.{sym, ap, ◌∙◌, arith}
use Rattle.std.proofs.lemmas.Bool.Decides.{nat_tests}
use Rattle.std.specs.Char.{digit_value}
use Rattle.std.specs.List.{list_all}
use Rattle.iommufd_script.specs.Digits.{pairs, is_lower_digit}

pub length_pairs : (text : List ℕ) → length (pairs text) ≡ length text / 2
length_pairs [] = refl
length_pairs (high ∷ []) = refl
length_pairs (high ∷ low ∷ text) = let rest = length_pairs text in omega arith

pub pair_at : (text : List ℕ) (i : ℕ) → 2 * i + 1 < length text
    → get_or (pairs text) i 0 ≡ 16 * digit_value (get_or text (2 * i) 0) + digit_value (get_or text (2 * i + 1) 0)
pair_at [] i h = absurd (omega arith)
pair_at (high ∷ []) i h = absurd (omega arith)
pair_at (high ∷ low ∷ text) zero h = refl
pair_at (high ∷ low ∷ text) (suc i) h =
    let first : 2 * suc i ≡ suc (suc (2 * i)) = omega arith in
    let second : 2 * suc i + 1 ≡ suc (suc (2 * i + 1)) = omega arith in
    let high_is = ap (λ (k : ℕ). get_or (high ∷ low ∷ text) k 0) first in
    let low_is = ap (λ (k : ℕ). get_or (high ∷ low ∷ text) k 0) second in
    pair_at text i (omega arith) ∙ sym (ap (λ (d : ℕ). 16 * digit_value d
    + digit_value (get_or (high ∷ low ∷ text) (2 * suc i + 1) 0)) high_is
    ∙ ap (λ (d : ℕ). 16 * digit_value (get_or text (2 * i) 0) + digit_value d) low_is)

pub passes_at : (p : ℕ → Bool) (xs : List ℕ) (i : ℕ) → i < length xs → list_all p xs ≡ true → p (get_or xs i 0) ≡ true
passes_at p [] i h e = absurd (omega arith)
passes_at p (x ∷ xs) zero h e = grind arith
passes_at p (x ∷ xs) (suc i) h e = grind (arith, passes_at p xs i)

pub small : (c : ℕ) → is_lower_digit c ≡ true → digit_value c < 16
small c e = let d = digit_value c in grind (arith, nat_tests)

pub lower_small : (text : List ℕ) (i : ℕ) → i < length text → list_all is_lower_digit text ≡ true
    → digit_value (get_or text i 0) < 16
lower_small text i h e = small (get_or text i 0) (passes_at is_lower_digit text i h e)

-- the two digits of a byte
pub pair_within : (text : List ℕ) {bytes : List ℕ} (i : ℕ) → pairs text ≡ bytes → i < length bytes
    → 2 * i + 1 < length text
pair_within text i all within =
    let half = length_pairs text in let same = ap (λ (l : List ℕ). length l) all in omega (arith, half, same)

pub high_small : (text : List ℕ) {bytes : List ℕ} (i : ℕ) → pairs text ≡ bytes → i < length bytes
    → list_all is_lower_digit text ≡ true → digit_value (get_or text (2 * i) 0) < 16
high_small text i all within lower =
    let both = pair_within text i all within in lower_small text (2 * i) (omega (arith, both)) lower

pub low_small : (text : List ℕ) {bytes : List ℕ} (i : ℕ) → pairs text ≡ bytes → i < length bytes
    → list_all is_lower_digit text ≡ true → digit_value (get_or text (2 * i + 1) 0) < 16
low_small text i all within lower = lower_small text (2 * i + 1) (pair_within text i all within) lower
