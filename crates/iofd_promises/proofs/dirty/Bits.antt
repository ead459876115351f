-- Bits of a sum of powers of 2.
use Rattle.std.proofs.Common.{◌≡◌, ℕ, zero, suc, ◌+◌, ◌-◌, ◌*◌, ◌^◌, ◌<◌, ◌≤◌, Bool, true, false, cond, map, refl}
use Rattle.std.proofs.Common.{sym, ap, ◌∙◌, arith, ⊎_elim}
use Rattle.std.specs.Int.{bit_at}
use Rattle.std.specs.List.{range_with_len, sum}
use Rattle.std.proofs.lemmas.Bool.{cases_lt}
use Rattle.std.proofs.lemmas.List.FromFn.{sum_by-map-range_with_len_more}
use Rattle.std.proofs.lemmas.Nat.Bits.{bit_at-zero, bit_at_cat_high, bit_at_cat_low, bit_at_lowest}
use Rattle.std.proofs.lemmas.Nat.{pow-add}

-- the powers of which the test is true
abbrev pub power : (ℕ → Bool) → ℕ → ℕ
power test k = cond (test k) (2 ^ k) 0

abbrev pub powers : (ℕ → Bool) → ℕ → ℕ
powers test n = sum (map (λ k. power test k) (range_with_len 0 n))

one_more : (test : ℕ → Bool) (n : ℕ) → powers test (suc n) ≡ powers test n + power test n
one_more test n =
    let last : suc n ≡ n + 1 = omega arith in
    ap (λ m. sum (map (λ k. power test k) (range_with_len 0 m))) last
    ∙ sum_by-map-range_with_len_more (λ (x : ℕ). x) (λ k. power test k) 0 n n (omega arith)

twice : (n : ℕ) → 2 ^ (suc n) ≡ 2 ^ n + 2 ^ n
twice n =
    let last : suc n ≡ n + 1 = omega arith in
    let split : 2 ^ (n + 1) ≡ 2 ^ n * 2 = pow-add 2 n 1 in
    ap (λ m. 2 ^ m) last ∙ split ∙ double (2 ^ n)
  where
    double : (m : ℕ) → m * 2 ≡ m + m
    double m = omega arith

below : (test : ℕ → Bool) (n : ℕ) → powers test n < 2 ^ n
below test zero = omega arith
below test (suc n) =
    let rest = below test n in
    let more = one_more test n in
    let next = twice n in
    by_test (test n) refl rest more next
  where
    by_test : (b : Bool) → test n ≡ b → powers test n < 2 ^ n → powers test (suc n) ≡ powers test n + power test n
        → 2 ^ (suc n) ≡ 2 ^ n + 2 ^ n → powers test (suc n) < 2 ^ (suc n)
    by_test true is rest more next =
        let here : power test n ≡ 2 ^ n = ap (λ b. cond b (2 ^ n) 0) is in omega (arith, rest, more, next, here)
    by_test false is rest more next =
        let here : power test n ≡ 0 = ap (λ b. cond b (2 ^ n) 0) is in omega (arith, rest, more, next, here)

-- each bit is the test of its place
pub bit_is : (test : ℕ → Bool) (n k : ℕ) → k < n → bit_at (powers test n) k ≡ cond (test k) 1 0
bit_is test zero k within = absurd (omega (arith, within))
bit_is test (suc n) k within = by_test (λ low. bit_is test n k low) (test n) refl
  where
    sum_is : (digit : ℕ) → power test n ≡ digit * 2 ^ n → powers test (suc n) ≡ digit * 2 ^ n + powers test n
    sum_is digit is = let more = one_more test n in omega (arith, more, is)

    by_digit : (k < n → bit_at (powers test n) k ≡ cond (test k) 1 0) → (digit : ℕ)
        → power test n ≡ digit * 2 ^ n → bit_at digit 0 ≡ cond (test n) 1 0
        → bit_at (powers test (suc n)) k ≡ cond (test k) 1 0
    by_digit rest digit is of_test =
        ap (λ m. bit_at m k) (sum_is digit is)
        ∙ ⊎_elim
        (λ (low : k < n). bit_at_cat_low digit n (powers test n) k low ∙ rest low)
        (λ (top : n ≤ k).
        let same : k ≡ n = omega (arith, within, top) in
        let none : k - n ≡ 0 = omega (arith, same) in
        bit_at_cat_high digit n (powers test n) k (below test n) top ∙ ap (bit_at digit) none ∙ of_test
        ∙ ap (λ m. cond (test m) 1 0) (sym same))
        (cases_lt k n)

    by_test : (k < n → bit_at (powers test n) k ≡ cond (test k) 1 0) → (b : Bool) → test n ≡ b
        → bit_at (powers test (suc n)) k ≡ cond (test k) 1 0
    by_test rest true is =
        by_digit rest 1 (ap (λ b. cond b (2 ^ n) 0) is ∙ once (2 ^ n)) (bit_at_lowest 1 ∙ ap (λ b. cond b 1 0) (sym is))
      where
        once : (m : ℕ) → m ≡ 1 * m
        once m = omega arith
    by_test rest false is =
        by_digit rest 0 (ap (λ b. cond b (2 ^ n) 0) is ∙ none (2 ^ n)) (bit_at-zero 0 ∙ ap (λ b. cond b 1 0) (sym is))
      where
        none : (m : ℕ) → 0 ≡ 0 * m
        none m = omega arith
