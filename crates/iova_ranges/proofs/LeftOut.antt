-- Numbers that merged spans leave out.
use Rattle.std.proofs.Common.{◌≡◌, ℕ, ◌+◌, ◌-◌, ◌<◌, ◌≤◌, Bool, true, false, cond, ◌&&◌, leb, Some, None, List, [], ◌∷◌}
use Rattle.std.proofs.Common.{find, refl, sym, ◌∙◌, ap, arith}
use Rattle.std.proofs.lemmas.Bool.Decides.{nat_tests}
use Rattle.iofd_words.specs.Bounds.{Bounds}
use Rattle.iofd_words.specs.Ranges.{AreMerged, AreMergedFrom, in_spans}
use Rattle.iofd_words.specs.Span.{lies_in}
use Rattle.iova_ranges.proofs.Merged.{below-out}
use Rattle.iova_ranges.proofs.Reaching.{covers-tells, covers_some}
use Rattle.iova_ranges.specs.Gaps.{IsGap}
use Rattle.iova_ranges.specs.Ranges.{AllIn}

-- a number isn't in a set where it isn't in the first span, nor in the others
neither : (x : Bounds) (xs : List Bounds) (m : ℕ) → (leb x.first m && leb m x.last) ≡ false → in_spans xs m ≡ false
    → in_spans (x ∷ xs) m ≡ false
neither x xs m first others = rw (first, others) refl

-- where none reaches a number, no greater one is in a span
pub none_above : (n : ℕ) (xs : List Bounds) → find (λ (x : Bounds). leb n x.last) xs ≡ None → (m : ℕ) → n ≤ m
    → in_spans xs m ≡ false
none_above n [] none m above = refl
none_above n (x ∷ xs) none m above = by_test (leb n x.last) refl none (λ none. none_above n xs none m above)
  where
    by_test : (b : Bool) → leb n x.last ≡ b → cond b (Some x) (find (λ (y : Bounds). leb n y.last) xs) ≡ None
        → (find (λ (y : Bounds). leb n y.last) xs ≡ None → in_spans xs m ≡ false) → in_spans (x ∷ xs) m ≡ false
    by_test true is none rest = cc
    by_test false is none rest = neither x xs m (grind (arith, nat_tests)) (rest none)

-- where one does first, no number from there up to its beginning is in a span, nor the one behind its end
abbrev IsBeside : ℕ → List Bounds → Bounds → Type 0
IsBeside n xs one =
    ((m : ℕ) → n ≤ m → m < one.first → in_spans xs m ≡ false) × (n ≤ one.last → in_spans xs (one.last + 1) ≡ false)

pub none_beside : (low n : ℕ) (xs : List Bounds) (one : Bounds) → AreMergedFrom low xs
    → find (λ (x : Bounds). leb n x.last) xs ≡ Some one → IsBeside n xs one
none_beside low n [] one merged found = cc
none_beside low n (x ∷ xs) one merged found =
    by_test (leb n x.last) refl found (λ found. none_beside (x.last + 2) n xs one merged.2 found)
  where
    by_test : (b : Bool) → leb n x.last ≡ b → cond b (Some x) (find (λ (y : Bounds). leb n y.last) xs) ≡ Some one
        → (find (λ (y : Bounds). leb n y.last) xs ≡ Some one → IsBeside n xs one) → IsBeside n (x ∷ xs) one
    by_test true is found later =
        let same : x ≡ one = cc in
        let firsts : x.first ≡ one.first = ap (λ (y : Bounds). y.first) same in
        let lasts : x.last ≡ one.last = ap (λ (y : Bounds). y.last) same in
        let ordered = merged.1 in (
          λ m from to. neither x xs m (grind (arith, nat_tests))
              (below-out (x.last + 2) xs merged.2 m (omega (arith, to, firsts, ordered))),
          λ within. neither x xs (one.last + 1) (grind (arith, nat_tests))
              (below-out (x.last + 2) xs merged.2 (one.last + 1) (omega (arith, lasts))),
        )
    by_test false is found later =
        let rest = later found in (
          λ m from to. neither x xs m (grind (arith, nat_tests)) (rest.0 m from to),
          λ within. neither x xs (one.last + 1) (grind (arith, nat_tests)) (rest.1 within),
        )

-- ---- the gap that a span meets

-- the first span that ends at a number or above it ends so
reaches : (n : ℕ) (xs : List Bounds) (one : Bounds) → find (λ (x : Bounds). leb n x.last) xs ≡ Some one → n ≤ one.last
reaches n [] one found = cc
reaches n (x ∷ xs) one found = by_test (leb n x.last) refl found (λ found. reaches n xs one found)
  where
    by_test : (b : Bool) → leb n x.last ≡ b → cond b (Some x) (find (λ (y : Bounds). leb n y.last) xs) ≡ Some one
        → (find (λ (y : Bounds). leb n y.last) xs ≡ Some one → n ≤ one.last) → n ≤ one.last
    by_test true is found later =
        let same : x ≡ one = cc in
        let lasts : x.last ≡ one.last = ap (λ (y : Bounds). y.last) same in
        grind (arith, nat_tests)
    by_test false is found later = later found

pub gap_above : (spans : List Bounds) (span : Bounds) → find (λ (x : Bounds). leb span.first x.last) spans ≡ None
    → span.first ≤ span.last → span.first ≤ 18446744073709551615
    → IsGap spans span (record { first = span.first; last = 18446744073709551615 })
gap_above spans span none ordered high = record {
  ordered = high;
  met = grind (arith, nat_tests);
  out = λ n from to. none_above span.first spans none n from;
}

pub gap_before : (spans : List Bounds) (span one : Bounds) → AreMerged spans
    → find (λ (x : Bounds). leb span.first x.last) spans ≡ Some one → span.first ≤ span.last → span.first < one.first
    → IsGap spans span (record { first = span.first; last = one.first - 1 })
gap_before spans span one merged found ordered before =
    let beside = none_beside 0 span.first spans one merged found in
    record {
      ordered = omega (arith, before);
      met = grind (arith, nat_tests);
      out = λ n from to. beside.0 n from (omega (arith, to, before));
    }

pub gap_behind : (spans : List Bounds) (span one : Bounds) → AreMerged spans
    → find (λ (x : Bounds). leb span.first x.last) spans ≡ Some one → one.last < span.last
    → IsGap spans span (record { first = one.last + 1; last = one.last + 1 })
gap_behind spans span one merged found behind =
    let beside = none_beside 0 span.first spans one merged found in
    let within = reaches span.first spans one found in
    record {
      ordered = omega arith;
      met = grind (arith, nat_tests);
      out = λ n from to. let same : one.last + 1 ≡ n = omega (arith, from, to) in ap (in_spans spans) (sym same)
          ∙ beside.1 within;
    }

pub no_gap : (spans : List Bounds) (span one : Bounds) → AreMerged spans
    → find (λ (x : Bounds). leb span.first x.last) spans ≡ Some one → span.first ≤ span.last → one.first ≤ span.first
    → span.last ≤ one.last → AllIn spans span
no_gap spans span one merged found ordered begins ends =
    let within : lies_in span one ≡ true = grind (arith, nat_tests) in
    (covers-tells span spans true merged ordered (sym (covers_some span spans one merged ordered found ∙ within))).0
    refl
