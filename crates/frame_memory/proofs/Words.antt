-- One bit of the words that tell the free frames.
use Rattle.std.proofs.Common.{zero, suc, ◌≡◌, ◌≢◌, ℕ, ◌+◌, ◌*◌, ◌/◌, ◌%◌, ◌^◌, ◌<◌, true, false, not, eqb, List, length}
use Rattle.std.proofs.Common.{get_or, set, replicate, refl, arith, ⊎_elim}
use Rattle.std.specs.Int.{bit_at, bit_not, trailing_zeros, w64}
use Rattle.std.specs.Int.RustNames.{bit_and, bit_or}
use Rattle.std.proofs.lemmas.Bool.{cases_eq}
use Rattle.std.proofs.lemmas.Bool.Decides.{nat_tests}
use Rattle.std.proofs.lemmas.List.{get_or-set_same, get_or-set_other, length-set}
use Rattle.std.proofs.lemmas.Nat.Bits.{bit_at-zero, bit_at-trailing_zeros, bit_at_set_same, bit_at_set_other}
use Rattle.std.proofs.lemmas.Nat.Bits.{bit_at_clear_same, bit_at_clear_other}
use Rattle.frame_memory.specs.FreeMap.{has_frame, IsLeast, IsSummed}

-- a frame's word and bit name it
same_place : (f g : ℕ) → f / 64 ≡ g / 64 → f % 64 ≡ g % 64 → f ≡ g
same_place f g words bits = omega arith

-- words that have another number in the place of a frame's word
written : (words : List ℕ) (f n bit : ℕ) → f / 64 < length words → bit_at n (f % 64) ≡ bit
    → has_frame (set words (f / 64) n) f ≡ eqb bit 1
written words f n bit room is = rw (get_or-set_same words (f / 64) n 0 room, is) refl

written_other : (words : List ℕ) (f g n : ℕ) → f / 64 < length words → g ≢ f
    → ((i : ℕ) → i < 64 → i ≢ f % 64 → bit_at n i ≡ bit_at (get_or words (f / 64) 0) i)
    → has_frame (set words (f / 64) n) g ≡ has_frame words g
written_other words f g n room differ same =
    ⊎_elim
    (λ (word_is : g / 64 ≡ f / 64).
    let bits : g % 64 ≢ f % 64 = λ is. differ (same_place g f word_is is) in
    rw (word_is, get_or-set_same words (f / 64) n 0 room, same (g % 64) (omega arith) bits) refl)
    (λ (other : g / 64 ≢ f / 64). rw (get_or-set_other words (f / 64) (g / 64) n 0 other) refl)
    (cases_eq (g / 64) (f / 64))

-- a word with a bit set, or cleared
abbrev pub with_bit : ℕ → ℕ → ℕ
with_bit n b = bit_or n (1 * 2 ^ b % 2 ^ 64)

abbrev pub without_bit : ℕ → ℕ → ℕ
without_bit n b = bit_and n (bit_not w64 (1 * 2 ^ b % 2 ^ 64))

-- no bit of a number is 1 where it is 0
some_bit : (n b : ℕ) → bit_at n b ≡ 1 → eqb n 0 ≡ false
some_bit n b is =
    ⊎_elim (λ (zero : n ≡ 0). absurd (let none : bit_at n b ≡ 0 = rw zero (bit_at-zero b) in omega (arith, none, is)))
    (λ (other : n ≢ 0). grind (arith, nat_tests)) (cases_eq n 0)

module _ (words : List ℕ) (f w b : ℕ) (count : length words ≡ 64) (within : f < 4096) (word : w ≡ f / 64)
    (bit : b ≡ f % 64) where
  pub set_this : has_frame (set words w (with_bit (get_or words w 0) b)) f ≡ true
  set_this = rw (word, bit) (written words f _ 1 (omega arith)
      (bit_at_set_same w64 (get_or words (f / 64) 0) (f % 64) (omega arith)))

  pub set_others : (g : ℕ) → g ≢ f → has_frame (set words w (with_bit (get_or words w 0) b)) g ≡ has_frame words g
  set_others g differ =
      rw (word, bit) (written_other words f g _ (omega arith) differ
      (λ i small other. bit_at_set_other w64 (get_or words (f / 64) 0) (f % 64) (omega arith) i other))

  pub clear_this : has_frame (set words w (without_bit (get_or words w 0) b)) f ≡ false
  clear_this = rw (word, bit) (written words f _ 0 (omega arith)
      (bit_at_clear_same w64 (get_or words (f / 64) 0) (f % 64) (omega arith)))

  pub clear_others : (g : ℕ) → g ≢ f → has_frame (set words w (without_bit (get_or words w 0) b)) g ≡ has_frame words g
  clear_others g differ =
      rw (word, bit) (written_other words f g _ (omega arith) differ
      (λ i small other. bit_at_clear_other w64 (get_or words (f / 64) 0) (f % 64) (omega arith) i small other))

-- a summary with one bit written, over words with one word written
summed : (words : List ℕ) (summary new w n : ℕ) → IsSummed words summary → w < 64 → eqb (bit_at new w) 1 ≡ not (eqb n 0)
    → ((i : ℕ) → i < 64 → i ≢ w → bit_at new i ≡ bit_at summary i) → IsSummed (set words w n) new
summed words summary new w n is small here others = record {
  count = rw (length-set words w n) is.count;
  bits = λ k within. ⊎_elim
      (λ (same : k ≡ w). rw (same, get_or-set_same words w n 0 (omega (arith, is.count))) here)
      (λ (differ : k ≢ w). rw (get_or-set_other words w k n 0 differ, others k within differ) (is.bits k within))
      (cases_eq k w);
}

pub summed-set : (words : List ℕ) (summary w b : ℕ) → IsSummed words summary → w < 64 → b < 64
    → IsSummed (set words w (with_bit (get_or words w 0) b)) (with_bit summary w)
summed-set words summary w b is small low =
    let some = some_bit _ b (bit_at_set_same w64 (get_or words w 0) b low) in
    summed words summary _ w _ is small (rw (bit_at_set_same w64 summary w small, some) refl)
    (λ i within differ. bit_at_set_other w64 summary w small i differ)

-- a word of which nothing is left
pub summed-none : (words : List ℕ) (summary w n : ℕ) → IsSummed words summary → w < 64 → n ≡ 0
    → IsSummed (set words w n) (without_bit summary w)
summed-none words summary w n is small none =
    summed words summary _ w n is small (rw (bit_at_clear_same w64 summary w small, none) refl)
    (λ i within differ. bit_at_clear_other w64 summary w small i within differ)

-- no frame is in words of zero
pub zero_at : (n i : ℕ) → ◌≡◌ {A = ℕ} (get_or (replicate n 0) i 0) 0
zero_at zero i = refl
zero_at (suc n) zero = refl
zero_at (suc n) (suc i) = zero_at n i

pub none_there : (f : ℕ) → has_frame (replicate 64 0) f ≡ false
none_there f = rw (zero_at 64 (f / 64), bit_at-zero) refl

pub none_summed : IsSummed (replicate 64 0) 0
none_summed = record { count = refl; bits = λ k within. rw (zero_at 64 k, bit_at-zero) refl }

-- a word whose bit in the summary is clear is 0
empty_word : (words : List ℕ) (summary k : ℕ) → IsSummed words summary → k < 64 → bit_at summary k ≡ 0
    → get_or words k 0 ≡ 0
empty_word words summary k is within off =
    let bits = is.bits k within in
    let clear : eqb (bit_at summary k) 1 ≡ false = rw off refl in
    ⊎_elim (λ (none : get_or words k 0 ≡ 0). none) (λ (full : get_or words k 0 ≢ 0). grind (arith, nat_tests))
    (cases_eq (get_or words k 0) 0)

-- the least frame: the lowest bit of the first word that isn't 0
pub least : (words : List ℕ) (summary k : ℕ) → IsSummed words summary → summary ≢ 0 → summary < 2 ^ 64
    → k ≡ trailing_zeros w64 summary → get_or words k 0 < 2 ^ 64
    → IsLeast words (64 * k + trailing_zeros w64 (get_or words k 0))
least words summary k is some small at low =
    let top = bit_at-trailing_zeros w64 summary (omega arith) small in
    let word = get_or words k 0 in
    let within : k < 64 = omega (arith, top.0, at) in
    let bits = is.bits k within in
    let set_in_summary : eqb (bit_at summary k) 1 ≡ true = rw (at, top.1) refl in
    let full : word ≢ 0 = λ none. (let off : eqb word 0 ≡ true = rw none refl in cc) in
    let bottom = bit_at-trailing_zeros w64 word (omega arith) low in
    let j = trailing_zeros w64 word in
    let f = 64 * k + j in
    let word_is : f / 64 ≡ k = omega (arith, bottom.0) in
    let bit_is : f % 64 ≡ j = omega (arith, bottom.0) in
    record {
      there = rw (word_is, bit_is, bottom.1) refl;
      below = λ g less. ⊎_elim
          (λ (same : g / 64 ≡ k). rw (same, bottom.2 (g % 64) (omega arith)) refl)
          (λ (differ : g / 64 ≢ k).
          let before : g / 64 < k = omega (arith, bottom.0) in
          let off = top.2 (g / 64) (omega arith) in
          rw (empty_word words summary (g / 64) is (omega arith) off, bit_at-zero) refl)
          (cases_eq (g / 64) k);
    }
