-- One bit of the words that keep a set of devices.
use Rattle.std.proofs.Common.{◌≡◌, ◌≢◌, ℕ, zero, suc, ◌+◌, ◌-◌, ◌*◌, ◌/◌, ◌%◌, ◌^◌, ◌<◌, ◌≤◌, true, false, eqb, List}
use Rattle.std.proofs.Common.{[], ◌∷◌, length, get_or, set, refl, arith, ap, ◌∙◌, ⊎_elim}
use Rattle.std.specs.List.{list_all}
use Rattle.std.specs.Int.{bit_at, bit_not, trailing_zeros, w64}
use Rattle.std.specs.Prelude.{◌==◌}
use Rattle.std.specs.Int.RustNames.{bit_and, bit_or}
use Rattle.std.proofs.lemmas.Bool.{cases_eq, false≢true}
use Rattle.std.proofs.lemmas.Bool.Decides.{nat_tests}
use Rattle.std.proofs.lemmas.List.{get_or-set_same, get_or-set_other}
use Rattle.std.proofs.lemmas.Nat.Bits.{bit_at-zero, bit_at-trailing_zeros, bit_at_set_same, bit_at_set_other}
use Rattle.std.proofs.lemmas.Nat.Bits.{bit_at_clear_same, bit_at_clear_other}
use Rattle.iofd_words.specs.DeviceSet.{has_bit, has_device, members_of, most_devices}
use Rattle.iofd_words.proofs.Members.{filter_none, has_device-within, most_devices-is}

-- a device's word and bit name it
same_place : (d e : ℕ) → 1 ≤ d → 1 ≤ e → (d - 1) / 64 ≡ (e - 1) / 64 → (d - 1) % 64 ≡ (e - 1) % 64 → d ≡ e
same_place d e some_d some_e words bits = omega arith

-- what a word becomes in which a device's bit is set, or cleared
abbrev pub word_of : ℕ → ℕ
word_of d = (d - 1) / 64

abbrev pub bit_of : ℕ → ℕ
bit_of d = (d - 1) % 64

-- words that have another number in the place of d's word, where that number has the bit or not
has_bit-written : (words : List ℕ) (d n bit : ℕ) → word_of d < length words → bit_at n (bit_of d) ≡ bit
    → has_bit (set words (word_of d) n) d ≡ eqb bit 1
has_bit-written words d n bit room is = rw (get_or-set_same words (word_of d) n 0 room, is) refl

has_bit-written_other : (words : List ℕ) (d e n : ℕ) → word_of d < length words → 1 ≤ d → 1 ≤ e → e ≢ d
    → ((i : ℕ) → i < 64 → i ≢ bit_of d → bit_at n i ≡ bit_at (get_or words (word_of d) 0) i)
    → has_bit (set words (word_of d) n) e ≡ has_bit words e
has_bit-written_other words d e n room some_d some_e differ same =
    ⊎_elim
    (λ (word_is : word_of e ≡ word_of d).
    let bits : bit_of e ≢ bit_of d = λ is. differ (same_place e d some_e some_d word_is is) in
    rw (word_is, get_or-set_same words (word_of d) n 0 room, same (bit_of e) (omega arith) bits) refl)
    (λ (other : word_of e ≢ word_of d). rw (get_or-set_other words (word_of d) (word_of e) n 0 other) refl)
    (cases_eq (word_of e) (word_of d))

module _ (words : List ℕ) (d : ℕ) (room : length words ≡ 4) (low : 1 ≤ d) (high : d ≤ 256) where
  pub has_bit-set : has_bit (set words (word_of d) (bit_or (get_or words (word_of d) 0) (1 * 2 ^ bit_of d % 2 ^ 64)))
      d ≡ true
  has_bit-set = has_bit-written words d _ 1 (omega arith)
      (bit_at_set_same w64 (get_or words (word_of d) 0) (bit_of d) (omega arith))

  pub has_bit-set_other : (e : ℕ) → 1 ≤ e → e ≢ d
      → has_bit (set words (word_of d) (bit_or (get_or words (word_of d) 0) (1 * 2 ^ bit_of d % 2 ^ 64))) e ≡ has_bit
      words e
  has_bit-set_other e some differ =
      has_bit-written_other words d e _ (omega arith) low some differ
      (λ i within other. bit_at_set_other w64 (get_or words (word_of d) 0) (bit_of d) (omega arith) i other)

  pub has_bit-clear : has_bit (set words (word_of d)
      (bit_and (get_or words (word_of d) 0) (bit_not w64 (1 * 2 ^ bit_of d % 2 ^ 64)))) d ≡ false
  has_bit-clear = has_bit-written words d _ 0 (omega arith)
      (bit_at_clear_same w64 (get_or words (word_of d) 0) (bit_of d) (omega arith))

  pub has_bit-clear_other : (e : ℕ) → 1 ≤ e → e ≢ d
      → has_bit (set words (word_of d) (bit_and (get_or words (word_of d) 0) (bit_not w64 (1 * 2 ^ bit_of d % 2 ^ 64))))
      e ≡ has_bit words e
  has_bit-clear_other e some differ =
      has_bit-written_other words d e _ (omega arith) low some differ
      (λ i within other. bit_at_clear_other w64 (get_or words (word_of d) 0) (bit_of d)
      (omega arith) i within other)

-- no bit is set in four words of zero

pub has_bit-zeros : (d : ℕ) → has_bit (0 ∷ 0 ∷ 0 ∷ 0 ∷ []) d ≡ false
has_bit-zeros d = rw (get_or_zeros ((d - 1) / 64), bit_at-zero) refl
  where
    get_or_zeros : (i : ℕ) → ◌≡◌ {A = ℕ} (get_or (0 ∷ 0 ∷ 0 ∷ 0 ∷ []) i 0) 0
    get_or_zeros zero = refl
    get_or_zeros (suc zero) = refl
    get_or_zeros (suc (suc zero)) = refl
    get_or_zeros (suc (suc (suc zero))) = refl
    get_or_zeros (suc (suc (suc (suc i)))) = refl

-- a word that isn't zero has a device
member_some : (devices : List ℕ) (d : ℕ) → has_device devices d ≡ true → (length devices == 0) ≡ false
member_some [] d member = absurd (false≢true member)
member_some (x ∷ devices) d member = grind (arith, nat_tests)

word_some : (words : List ℕ) (k n : ℕ) → get_or words k 0 ≡ n → k < 4 → n ≢ 0 → n < 2 ^ 64
    → (length (members_of words) == 0) ≡ false
word_some words k n is within some small =
    let lowest = bit_at-trailing_zeros w64 n (omega arith) small in
    let j = trailing_zeros w64 n in
    let d = 64 * k + j + 1 in
    let word_is : (d - 1) / 64 ≡ k = omega (arith, lowest.0) in
    let bit_is : (d - 1) % 64 ≡ j = omega (arith, lowest.0) in
    let has : has_bit words d ≡ true = rw (word_is, bit_is, is, lowest.1) refl in
    member_some (members_of words) d (has_device-within (has_bit words) d 1 most_devices (omega arith)
    (omega (arith, most_devices-is, lowest.0)) ∙ has)

-- there are no devices exactly where all words are zero
pub members_of_none : (a b c d : ℕ) → a < 2 ^ 64 → b < 2 ^ 64 → c < 2 ^ 64 → d < 2 ^ 64
    → (length (members_of (a ∷ b ∷ c ∷ d ∷ [])) == 0) ≡ list_all (λ word. word == 0) (a ∷ b ∷ c ∷ d ∷ [])
members_of_none a b c d small_a small_b small_c small_d =
    ⊎_elim (λ (a0 : a ≡ 0). ⊎_elim (λ (b0 : b ≡ 0). ⊎_elim (λ (c0 : c ≡ 0). ⊎_elim
    (λ (d0 : d ≡ 0). rw (a0, b0, c0, d0) none)
    (λ (d1 : d ≢ 0). let some = word_some words 3 d refl (omega arith) d1 small_d in grind (arith, nat_tests))
    (cases_eq d 0))
    (λ (c1 : c ≢ 0). let some = word_some words 2 c refl (omega arith) c1 small_c in grind (arith, nat_tests))
    (cases_eq c 0))
    (λ (b1 : b ≢ 0). let some = word_some words 1 b refl (omega arith) b1 small_b in grind (arith, nat_tests))
    (cases_eq b 0))
    (λ (a1 : a ≢ 0). let some = word_some words 0 a refl (omega arith) a1 small_a in grind (arith, nat_tests))
    (cases_eq a 0)
  where
    words : List ℕ
    words = a ∷ b ∷ c ∷ d ∷ []

    none : (length (members_of (0 ∷ 0 ∷ 0 ∷ 0 ∷ [])) == 0) ≡ true
    none = ap (λ devices. length devices == 0)
        (filter_none (has_bit (0 ∷ 0 ∷ 0 ∷ 0 ∷ [])) 1 most_devices (λ e _ _. has_bit-zeros e))
