-- Bits of words.
use Rattle.std.proofs.Common.{◌≡◌, ℕ, zero, suc, ◌+◌, ◌-◌, ◌*◌, ◌/◌, ◌%◌, ◌^◌, ◌<◌, ◌≤◌, min, max, Bool, true, false}
use Rattle.std.proofs.Common.{cond, not, ◌&&◌, ◌||◌, eqb, ltb, map, refl, sym, ap, ◌∙◌, arith, ⊎_elim}
use Rattle.std.specs.Int.{bit_at, bit_not, w64}
use Rattle.std.specs.Int.RustNames.{bit_and, bit_or}
use Rattle.std.specs.List.{range_with_len, sum}
use Rattle.std.proofs.lemmas.Bool.{cases_eq, cases_lt, eq-eqb, le-ltb, lt-ltb, ne_eqb}
use Rattle.std.proofs.lemmas.List.FromFn.{sum_by-map-range_with_len_more}
use Rattle.std.proofs.lemmas.Nat.{mod-pow-add, one_shl, pow_pos, shr-shr, shr_split}
use Rattle.std.proofs.lemmas.Nat.Bits.{bit_at-lt, bit_at-pow_other, bit_at-pow_same, bit_at-zero, bit_at_above}
use Rattle.std.proofs.lemmas.Nat.Bits.{bit_at_and, bit_at_cat_high, bit_at_cat_low, bit_at_not, bit_at_ones}
use Rattle.std.proofs.lemmas.Nat.Bits.{bit_at_ones_above, bit_at_or}
use Rattle.dirty_bitmap.specs.Marks.{has_bit}

-- ---- `&`, `|` and `!`

both : (m n : ℕ) → m < 2 → n < 2 → eqb (min m n) 1 ≡ (eqb m 1 && eqb n 1)
both zero zero p q = refl
both zero (suc zero) p q = refl
both (suc zero) zero p q = refl
both (suc zero) (suc zero) p q = refl
both (suc (suc m)) n p q = absurd (omega (arith, p))
both m (suc (suc n)) p q = absurd (omega (arith, q))

either : (m n : ℕ) → m < 2 → n < 2 → eqb (max m n) 1 ≡ (eqb m 1 || eqb n 1)
either zero zero p q = refl
either zero (suc zero) p q = refl
either (suc zero) zero p q = refl
either (suc zero) (suc zero) p q = refl
either (suc (suc m)) n p q = absurd (omega (arith, p))
either m (suc (suc n)) p q = absurd (omega (arith, q))

other : (m : ℕ) → m < 2 → eqb (1 - m) 1 ≡ not (eqb m 1)
other zero p = refl
other (suc zero) p = refl
other (suc (suc m)) p = absurd (omega (arith, p))

pub has_bit-and : (a b k : ℕ) → has_bit (bit_and a b) k ≡ (has_bit a k && has_bit b k)
has_bit-and a b k =
    ap (λ n. eqb n 1) (bit_at_and a b k) ∙ both (bit_at a k) (bit_at b k) (bit_at-lt a k) (bit_at-lt b k)

pub has_bit-or : (a b k : ℕ) → has_bit (bit_or a b) k ≡ (has_bit a k || has_bit b k)
has_bit-or a b k =
    ap (λ n. eqb n 1) (bit_at_or a b k) ∙ either (bit_at a k) (bit_at b k) (bit_at-lt a k) (bit_at-lt b k)

pub has_bit-not : (n k : ℕ) → n < 2 ^ 64 → k < 64 → has_bit (bit_not w64 n) k ≡ not (has_bit n k)
has_bit-not n k small within = ap (λ m. eqb m 1) (bit_at_not w64 n k small within) ∙ other (bit_at n k) (bit_at-lt n k)

pub has_bit-zero : (k : ℕ) → has_bit 0 k ≡ false
has_bit-zero k = ap (λ n. eqb n 1) (bit_at-zero k)

-- ---- the lowest bits

pub ones_all : (many k : ℕ) → 64 ≤ many → k < 64 → has_bit 18446744073709551615 k ≡ ltb k many
ones_all many k all within =
    ap (λ n. eqb n 1) (bit_at_ones 64 k within) ∙ sym (lt-ltb k many (omega (arith, all, within)))

ones_below : (many k : ℕ) → has_bit (2 ^ many - 1) k ≡ ltb k many
ones_below many k =
    ⊎_elim
    (λ (below : k < many). ap (λ n. eqb n 1) (bit_at_ones many k below) ∙ sym (lt-ltb k many below))
    (λ (above : many ≤ k). ap (λ n. eqb n 1) (bit_at_ones_above many k above) ∙ sym (le-ltb k many above))
    (cases_lt k many)

pub ones_some : (many k : ℕ) → many < 64 → has_bit (1 * 2 ^ many % 2 ^ 64 - 1) k ≡ ltb k many
ones_some many k few = ap (λ n. has_bit (n - 1) k) (one_shl many 64 few) ∙ ones_below many k

-- ---- one bit

pub one_bit : (place k : ℕ) → place < 64 → has_bit (1 * 2 ^ place % 2 ^ 64) k ≡ eqb place k
one_bit place k within =
    ap (λ n. has_bit n k) (one_shl place 64 within)
    ∙ ⊎_elim
    (λ (same : place ≡ k). ap (λ i. has_bit (2 ^ place) i) (sym same) ∙ ap (λ n. eqb n 1) (bit_at-pow_same place)
    ∙ sym (eq-eqb place k same))
    (λ (apart : place ≡ k → ⊥). ap (λ n. eqb n 1) (bit_at-pow_other place k (λ is. apart (sym is)))
    ∙ sym (ne_eqb place k apart))
    (cases_eq place k)

-- ---- shifts

pub has_bit-shr : (w s k : ℕ) → has_bit (w / 2 ^ s) k ≡ has_bit w (s + k)
has_bit-shr w s k = ap (λ n. eqb (n % 2) 1) (shr-shr w s k)

low_bit : (n k : ℕ) → k < 64 → bit_at (n % 2 ^ 64) k ≡ bit_at n k
low_bit n k within =
    sym (bit_at_cat_low (n / 2 ^ 64) 64 (n % 2 ^ 64) k within) ∙ ap (λ m. bit_at m k) (shr_split n 64)

no_more : (n : ℕ) → n ≡ n + 0
no_more n = omega arith

pub has_bit-shl_low : (w j k : ℕ) → k < 64 → k < j → has_bit (w * 2 ^ j % 2 ^ 64) k ≡ false
has_bit-shl_low w j k within low =
    ap (λ n. eqb n 1)
    (low_bit (w * 2 ^ j) k within ∙ ap (λ n. bit_at n k) (no_more (w * 2 ^ j))
    ∙ bit_at_cat_low w j 0 k low ∙ bit_at-zero k)

pub has_bit-shl_high : (w j k : ℕ) → k < 64 → j ≤ k → has_bit (w * 2 ^ j % 2 ^ 64) k ≡ has_bit w (k - j)
has_bit-shl_high w j k within high =
    ap (λ n. eqb n 1)
    (low_bit (w * 2 ^ j) k within ∙ ap (λ n. bit_at n k) (no_more (w * 2 ^ j))
    ∙ bit_at_cat_high w j 0 k (pow_pos j) high)

pub has_bit-above : (w k : ℕ) → w < 2 ^ 64 → 64 ≤ k → has_bit w k ≡ false
has_bit-above w k small above = ap (λ n. eqb n 1) (bit_at_above w 64 k small above)

-- ---- a word is the sum of its bits

next_bit : (b p : ℕ) (t : Bool) → b < 2 → eqb b 1 ≡ t → b * p ≡ cond t p 0
next_bit zero p true low is = cc
next_bit zero p false low is = omega arith
next_bit (suc zero) p true low is = omega arith
next_bit (suc zero) p false low is = cc
next_bit (suc (suc b)) p t low is = absurd (omega (arith, low))

lowest_bits : (test : ℕ → Bool) (w n : ℕ) → ((k : ℕ) → k < n → has_bit w k ≡ test k)
    → w % 2 ^ n ≡ sum (map (λ k. cond (test k) (2 ^ k) 0) (range_with_len 0 n))
lowest_bits test w zero bits = omega arith
lowest_bits test w (suc n) bits =
    let term : ℕ → ℕ = λ k. cond (test k) (2 ^ k) 0 in
    let rest = lowest_bits test w n (λ k below. bits k (omega (arith, below))) in
    let bit = next_bit (bit_at w n) (2 ^ n) (test n) (bit_at-lt w n) (bits n (omega arith)) in
    let split = mod-pow-add w 1 n in
    let more = sum_by-map-range_with_len_more (λ (x : ℕ). x) term 0 n n (omega arith) in
    let next : suc n ≡ 1 + n = omega arith in
    let last : suc n ≡ n + 1 = omega arith in
    let left : w % 2 ^ (suc n) ≡ bit_at w n * 2 ^ n + w % 2 ^ n = ap (λ m. w % 2 ^ m) next ∙ split in
    let right : sum (map term (range_with_len 0 (suc n))) ≡ sum (map term (range_with_len 0 n)) + term n =
    ap (λ m. sum (map term (range_with_len 0 m))) last ∙ more in
    left ∙ omega (arith, rest, bit) ∙ sym right

pub by_bits : (test : ℕ → Bool) (w n : ℕ) → n ≡ 64 → w < 2 ^ 64 → ((k : ℕ) → k < 64 → has_bit w k ≡ test k)
    → w ≡ sum (map (λ k. cond (test k) (2 ^ k) 0) (range_with_len 0 n))
by_bits test w n is small bits =
    let whole : w ≡ w % 2 ^ 64 = omega (arith, small) in
    whole ∙ ap (λ m. w % 2 ^ m) (sym is) ∙ lowest_bits test w n (λ k below. bits k (omega (arith, below, is)))
