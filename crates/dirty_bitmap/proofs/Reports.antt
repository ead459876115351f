-- The words of a report.
use Rattle.std.proofs.Common.{◌≡◌, ℕ, ◌+◌, ◌-◌, ◌*◌, ◌/◌, ◌^◌, ◌<◌, ◌≤◌, Bool, false, cond, ◌&&◌, leb, ltb}
use Rattle.std.proofs.Common.{List, [], ◌∷◌, refl, sym, ap, ◌∙◌, arith}
use Rattle.std.proofs.lemmas.Bool.{le-leb}
use Rattle.iofd_words.specs.Bounds.{Bounds}
use Rattle.iofd_words.specs.DirtyWords.{dirty_word, dirty_words, is_page_of, is_reported, word_pages}
use Rattle.dirty_bitmap.specs.Marks.{has_bit}
use Rattle.dirty_bitmap.proofs.Kept.{both_words}
use Rattle.dirty_bitmap.proofs.WordBits.{by_bits, has_bit-zero}

word_pages-is : word_pages ≡ 64
unfolding word_pages
word_pages-is = refl

-- the word of the end of one word and the beginning of the next, each with the marks of its pages up to the last
pub word_is : (marked : ℕ → Bool) (span : Bounds) (last number next shift page low high w : ℕ)
    → last ≡ span.last / 4096 → page ≡ number * 64 + shift → next ≡ number + 1 → shift < 64
    → span.first / 4096 ≤ page → w < 2 ^ 64
    → ((k : ℕ) → k < 64 → has_bit low k ≡ (marked (number * 64 + k) && leb (number * 64 + k) last))
    → ((k : ℕ) → k < 64 → has_bit high k ≡ (marked (next * 64 + k) && leb (next * 64 + k) last))
    → ((k : ℕ) → k < 64
    → has_bit w k ≡ cond (ltb (shift + k) 64) (has_bit low (shift + k)) (has_bit high (shift + k - 64)))
    → w ≡ dirty_word marked span page
word_is marked span last number next shift page low high w last_is page_is next_is few behind small lows highs bits =
    by_bits (λ k. is_reported marked span (page + k)) w word_pages word_pages-is small
    (λ k within.
    bits k within
    ∙ both_words (λ p. marked p && leb p last) low high number next shift page k page_is next_is few within lows highs
    ∙ ap (λ t. marked (page + k) && t) (told k))
  where
    told : (k : ℕ) → leb (page + k) last ≡ is_page_of span (page + k)
    told k =
        ap (λ n. leb (page + k) n) last_is
        ∙ sym (ap (λ t. t && leb (page + k) (span.last / 4096))
        (le-leb (span.first / 4096) (page + k) (omega (arith, behind))))

zero_is : (span : Bounds) (page : ℕ) → 0 ≡ dirty_word (λ _. false) span page
zero_is span page =
    by_bits (λ k. is_reported (λ _. false) span (page + k)) 0 word_pages word_pages-is (omega arith)
    (λ k within. has_bit-zero k)

-- the four words of which each is as it is to be
pub words_are : (marked : ℕ → Bool) (span : Bounds) (a b c d : ℕ)
    → a ≡ dirty_word marked span (span.first / 4096 + 0) → b ≡ dirty_word marked span (span.first / 4096 + 64)
    → c ≡ dirty_word marked span (span.first / 4096 + 128) → d ≡ dirty_word marked span (span.first / 4096 + 192)
    → (a ∷ b ∷ c ∷ d ∷ []) ≡ dirty_words marked span
words_are marked span a b c d first second third fourth = rw (first, second, third, fourth) refl

-- where nothing is marked they are zeros
pub zeros_are : (span : Bounds) → ◌≡◌ {A = List ℕ} (0 ∷ 0 ∷ 0 ∷ 0 ∷ []) (dirty_words (λ _. false) span)
zeros_are span =
    let first = span.first / 4096 in
    words_are (λ _. false) span 0 0 0 0 (zero_is span (first + 0)) (zero_is span (first + 64))
    (zero_is span (first + 128)) (zero_is span (first + 192))
