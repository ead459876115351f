-- Marks in their words: what a word's bits say, and what becomes of them.
use Rattle.std.proofs.Common.{◌≡◌, ℕ, ◌+◌, ◌-◌, ◌*◌, ◌/◌, ◌%◌, ◌^◌, ◌<◌, ◌≤◌, Bool, true, false, cond, not, ◌&&◌, ◌||◌}
use Rattle.std.proofs.Common.{Option, None, eqb, ltb, leb, refl, sym, ap, ◌∙◌, arith, ⊎_elim}
use Rattle.std.specs.Int.{bit_not, w64}
use Rattle.std.specs.Int.RustNames.{bit_and, bit_or}
use Rattle.std.specs.Map.{lookup}
use Rattle.std.specs.Option.{unwrap_or}
use Rattle.std.proofs.lemmas.Bool.{cases_lt, eqb-true, le-leb, le-ltb, lt-leb, lt-ltb}
use Rattle.std.proofs.lemmas.Bool.Decides.{nat_tests}
use Rattle.dirty_bitmap.specs.Marks.{Words, has_bit, is_marked, word_at}
use Rattle.dirty_bitmap.proofs.WordBits.{has_bit-above, has_bit-and, has_bit-not, has_bit-or, has_bit-shl_high}
use Rattle.dirty_bitmap.proofs.WordBits.{has_bit-shl_low, has_bit-shr, one_bit}

pub or_false : (b : Bool) → (b || false) ≡ b
or_false true = refl
or_false false = refl

pub and_true : (b : Bool) → (b && true) ≡ b
and_true true = refl
and_true false = refl

-- ---- the marks of a word, and of 64 pages from any on

-- a word that is cut behind the last page
pub cut_word : (words : Words) (number last cut w k : ℕ) → w ≡ word_at words number → k < 64
    → has_bit cut k ≡ leb (number * 64 + k) last
    → has_bit (bit_and w cut) k ≡ (is_marked words (number * 64 + k) && leb (number * 64 + k) last)
cut_word words number last cut w k is within cut_is =
    has_bit-and w cut k
    ∙ ap (λ t. has_bit w k && t) cut_is
    ∙ ap (λ t. t && leb (number * 64 + k) last) (ap (λ n. has_bit n k) is ∙ same_page)
  where
    same_page : has_bit (word_at words number) k ≡ is_marked words (number * 64 + k)
    same_page =
        let word_is : number ≡ (number * 64 + k) / 64 = omega (arith, within) in
        let bit_is : k ≡ (number * 64 + k) % 64 = omega (arith, within) in
        ap (λ i. has_bit (word_at words i) k) word_is
        ∙ ap (λ i. has_bit (word_at words ((number * 64 + k) / 64)) i) bit_is

-- the end of one word and the beginning of the next
pub joined_bit : (low high s k : ℕ) → low < 2 ^ 64 → s < 64 → k < 64
    → has_bit (bit_or (low / 2 ^ s) (high * 2 ^ (64 - s) % 2 ^ 64)) k
    ≡ cond (ltb (s + k) 64) (has_bit low (s + k)) (has_bit high (s + k - 64))
joined_bit low high s k small few within =
    has_bit-or (low / 2 ^ s) (high * 2 ^ (64 - s) % 2 ^ 64) k ∙ ⊎_elim near far (cases_lt (s + k) 64)
  where
    lower : Bool
    lower = has_bit (low / 2 ^ s) k

    upper : Bool
    upper = has_bit (high * 2 ^ (64 - s) % 2 ^ 64) k

    either : Bool → Bool
    either b = cond b (has_bit low (s + k)) (has_bit high (s + k - 64))

    near : s + k < 64 → (lower || upper) ≡ either (ltb (s + k) 64)
    near below =
        ap (λ t. lower || t) (has_bit-shl_low high (64 - s) k within (omega (arith, below)))
        ∙ or_false lower
        ∙ has_bit-shr low s k
        ∙ sym (ap either (lt-ltb (s + k) 64 below))

    far : 64 ≤ s + k → (lower || upper) ≡ either (ltb (s + k) 64)
    far above =
        let place : k - (64 - s) ≡ s + k - 64 = omega (arith, above, few) in
        ap (λ t. t || upper) (has_bit-shr low s k ∙ has_bit-above low (s + k) small above)
        ∙ has_bit-shl_high high (64 - s) k within (omega (arith, above))
        ∙ ap (λ i. has_bit high i) place
        ∙ sym (ap either (le-ltb (s + k) 64 above))

-- they have the marks of 64 pages, where each of the two has those of its own
pub both_words : (test : ℕ → Bool) (low high number next shift page k : ℕ) → page ≡ number * 64 + shift
    → next ≡ number + 1 → shift < 64 → k < 64 → ((i : ℕ) → i < 64 → has_bit low i ≡ test (number * 64 + i))
    → ((i : ℕ) → i < 64 → has_bit high i ≡ test (next * 64 + i))
    → cond (ltb (shift + k) 64) (has_bit low (shift + k)) (has_bit high (shift + k - 64)) ≡ test (page + k)
both_words test low high number next shift page k page_is next_is small within low_is high_is =
    ⊎_elim near far (cases_lt (shift + k) 64)
  where
    either : Bool → Bool
    either b = cond b (has_bit low (shift + k)) (has_bit high (shift + k - 64))

    near : shift + k < 64 → either (ltb (shift + k) 64) ≡ test (page + k)
    near below =
        let place : number * 64 + (shift + k) ≡ page + k = omega (arith, page_is) in
        ap either (lt-ltb (shift + k) 64 below) ∙ low_is (shift + k) below ∙ ap test place

    far : 64 ≤ shift + k → either (ltb (shift + k) 64) ≡ test (page + k)
    far above =
        let place : next * 64 + (shift + k - 64) ≡ page + k = omega (arith, page_is, next_is, above) in
        ap either (le-ltb (shift + k) 64 above)
        ∙ high_is (shift + k - 64) (omega (arith, small, within))
        ∙ ap test place

-- the lowest bits are those of pages up to the last
pub up_to : (first last k many : ℕ) → many ≡ last + 1 - first → ltb k many ≡ leb (first + k) last
up_to first last k many is =
    ⊎_elim
    (λ (below : k < many). lt-ltb k many below ∙ sym (le-leb (first + k) last (omega (arith, below, is))))
    (λ (above : many ≤ k). le-ltb k many above ∙ sym (lt-leb (first + k) last (omega (arith, above, is))))
    (cases_lt k many)

-- ---- a page is marked

pub marked_more : (old new : Words) (page : ℕ)
    → ((n : ℕ) → word_at new n
    ≡ cond (eqb (page / 64) n) (bit_or (word_at old n) (1 * 2 ^ (page % 64) % 2 ^ 64)) (word_at old n))
    → (other : ℕ) → is_marked new other ≡ (is_marked old other || eqb page other)
marked_more old new page more other =
    ap (λ w. has_bit w (other % 64)) (more (other / 64)) ∙ by_test (eqb (page / 64) (other / 64)) refl
  where
    same_page : eqb (page / 64) (other / 64) ≡ true → eqb (page % 64) (other % 64) ≡ eqb page other
    same_page is =
        let word_is : page / 64 ≡ other / 64 = eqb-true (page / 64) (other / 64) is in
        grind (arith, nat_tests)

    other_page : eqb (page / 64) (other / 64) ≡ false → eqb page other ≡ false
    other_page is = grind (arith, nat_tests)

    by_test : (b : Bool) → eqb (page / 64) (other / 64) ≡ b
        → has_bit (cond b (bit_or (word_at old (other / 64)) (1 * 2 ^ (page % 64) % 2 ^ 64)) (word_at old (other / 64)))
        (other % 64)
        ≡ (is_marked old other || eqb page other)
    by_test true is =
        has_bit-or (word_at old (other / 64)) (1 * 2 ^ (page % 64) % 2 ^ 64) (other % 64)
        ∙ ap (λ t. is_marked old other || t) (one_bit (page % 64) (other % 64) (omega arith) ∙ same_page is)
    by_test false is = sym (ap (λ t. is_marked old other || t) (other_page is) ∙ or_false (is_marked old other))

-- ---- marks of one word are taken away

module _ (number first last before behind low high : ℕ) (low_is : low ≡ first - number * 64)
    (high_is : high ≡ last + 1 - number * 64) (small : behind < 2 ^ 64)
    (before_is : (k : ℕ) → k < 64 → has_bit before k ≡ ltb k low)
    (behind_is : (k : ℕ) → k < 64 → has_bit behind k ≡ ltb k high) where
  kept_bit : (page : ℕ) → number ≡ page / 64
      → has_bit (bit_or before (bit_not w64 behind)) (page % 64) ≡ not (leb first page && leb page last)
  kept_bit page is =
      has_bit-or before (bit_not w64 behind) (page % 64)
      ∙ ap (λ t. t || has_bit (bit_not w64 behind) (page % 64)) (before_is (page % 64) (omega arith) ∙ below)
      ∙ ap (λ t. not (leb first page) || t) (has_bit-not behind (page % 64) small (omega arith)
      ∙ ap not (behind_is (page % 64) (omega arith) ∙ above))
      ∙ outside (leb first page) (leb page last)
    where
      below : ltb (page % 64) low ≡ not (leb first page)
      below =
          ⊎_elim
          (λ (less : page % 64 < low). lt-ltb (page % 64) low less
          ∙ sym (ap not (lt-leb first page (omega (arith, less, low_is, is)))))
          (λ (more : low ≤ page % 64). le-ltb (page % 64) low more
          ∙ sym (ap not (le-leb first page (omega (arith, more, low_is, is)))))
          (cases_lt (page % 64) low)

      above : ltb (page % 64) high ≡ leb page last
      above =
          ⊎_elim
          (λ (less : page % 64 < high). lt-ltb (page % 64) high less
          ∙ sym (le-leb page last (omega (arith, less, high_is, is))))
          (λ (more : high ≤ page % 64). le-ltb (page % 64) high more
          ∙ sym (lt-leb page last (omega (arith, more, high_is, is))))
          (cases_lt (page % 64) high)

      outside : (a b : Bool) → (not a || not b) ≡ not (a && b)
      outside true b = refl
      outside false b = refl

  pub cleared_word : (old new : Words)
      → ((n : ℕ) → word_at new n
      ≡ cond (eqb number n) (bit_and (word_at old n) (bit_or before (bit_not w64 behind))) (word_at old n))
      → (page : ℕ)
      → is_marked new page ≡ (is_marked old page && not (eqb number (page / 64) && (leb first page && leb page last)))
  cleared_word old new keeps page =
      ap (λ w. has_bit w (page % 64)) (keeps (page / 64)) ∙ by_test (eqb number (page / 64)) refl
    where
      keep : ℕ
      keep = bit_or before (bit_not w64 behind)

      by_test : (b : Bool) → eqb number (page / 64) ≡ b
          → has_bit (cond b (bit_and (word_at old (page / 64)) keep) (word_at old (page / 64))) (page % 64)
          ≡ (is_marked old page && not (b && (leb first page && leb page last)))
      by_test true is =
          has_bit-and (word_at old (page / 64)) keep (page % 64)
          ∙ ap (λ t. is_marked old page && t) (kept_bit page (eqb-true number (page / 64) is))
      by_test false is = sym (and_true (is_marked old page))

-- ---- word by word

-- the page is one of these, in a word before this one
abbrev pub is_gone : ℕ → ℕ → ℕ → ℕ → Bool
is_gone first last number page = ltb (page / 64) number && (leb first page && leb page last)

-- ---- a word is changed

-- a map by which this number has another word, or none, and each other its own
module _ (old new : Words) (number word : ℕ) (put : Option ℕ) (change : ℕ → ℕ) (was : word_at old number ≡ word)
    (is : unwrap_or put 0 ≡ change word)
    (updates : (n : ℕ) → lookup (eqb n) new ≡ cond (eqb number n) put (lookup (eqb n) old)) where
  pub word_changed : (other : ℕ)
      → word_at new other ≡ cond (eqb number other) (change (word_at old other)) (word_at old other)
  word_changed other = ap (λ (o : Option ℕ). unwrap_or o 0) (updates other) ∙ by_test (eqb number other) refl
    where
      by_test : (b : Bool) → eqb number other ≡ b
          → unwrap_or (cond b put (lookup (eqb other) old)) 0 ≡ cond b (change (word_at old other)) (word_at old other)
      by_test true same = is ∙ ap change (sym was ∙ ap (word_at old) (eqb-true number other same))
      by_test false same = refl

-- what was put there is gone again
pub removed_again : (old mid new : Words) (number : ℕ) (put : Option ℕ)
    → ((n : ℕ) → lookup (eqb n) mid ≡ cond (eqb number n) put (lookup (eqb n) old))
    → ((n : ℕ) → lookup (eqb n) new ≡ cond (eqb number n) None (lookup (eqb n) mid))
    → (n : ℕ) → lookup (eqb n) new ≡ cond (eqb number n) None (lookup (eqb n) old)
removed_again old mid new number put puts removes n = removes n ∙ by_test (eqb number n) (puts n)
  where
    by_test : (b : Bool) → lookup (eqb n) mid ≡ cond b put (lookup (eqb n) old)
        → cond b None (lookup (eqb n) mid) ≡ cond b None (lookup (eqb n) old)
    by_test true is = refl
    by_test false is = is
