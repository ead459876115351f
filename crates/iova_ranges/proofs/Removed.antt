-- The numbers of a span taken out of merged spans: which numbers are in the set then, and that the spans are merged
-- again.
use Rattle.std.proofs.Common.{◌≡◌, ℕ, zero, suc, ◌+◌, ◌-◌, ◌<◌, ◌≤◌, min, max, true, false, not, ltb, ◌||◌, ◌&&◌, List}
use Rattle.std.proofs.Common.{[], ◌∷◌, ◌++◌, length, take, drop, get_or, set, map, refl, sym, ap, ◌∙◌, subst, arith}
use Rattle.std.proofs.Common.{⊎_elim}
use Rattle.std.specs.List.{filter, insert, prefix_len}
use Rattle.std.proofs.lemmas.Bool.{cases_lt}
use Rattle.std.proofs.lemmas.Bool.Decides.{nat_tests}
use Rattle.std.specs.Prelude.{nat_lt, if◌then◌else◌}
use Rattle.iofd_words.specs.Bounds.{Bounds}
use Rattle.iofd_words.specs.Span.{holds, lies_in}
use Rattle.iofd_words.specs.Ranges.{AreMerged, AreMergedFrom, in_spans}
use Rattle.iova_ranges.specs.Ranges.{splits_one}
use Rattle.iova_ranges.specs.Removing.{trimmed, halves, HasAround}
use Rattle.iova_ranges.proofs.Merged.{merged-lower}

-- what of a span stands below the cut, if anything does
abbrev pub part_below : Bounds → Bounds → List Bounds
part_below cut span =
    if nat_lt span.first cut.first then record { first = span.first; last = min span.last (cut.first - 1) } ∷ [] else []

-- what of a span stands above the cut, if anything does
abbrev pub part_above : Bounds → Bounds → List Bounds
part_above cut span =
    if nat_lt cut.last span.last then record { first = max span.first (cut.last + 1); last = span.last } ∷ [] else []

-- what is left of the spans, in order
abbrev pub without_span : Bounds → List Bounds → List Bounds
without_span cut [] = []
without_span cut (span ∷ spans) = (part_below cut span ++ part_above cut span) ++ without_span cut spans

-- one span put in the place of another, and one behind it
pub set-inserted : (xs : List Bounds) (i : ℕ) (a b : Bounds) → i < length xs
    → set (insert xs (i + 1) b) i a ≡ take i xs ++ (a ∷ b ∷ drop (i + 1) xs)
set-inserted [] i a b within = absurd (omega arith)
set-inserted (x ∷ xs) zero a b within = refl
set-inserted (x ∷ xs) (suc i) a b within =
    let next : suc i + 1 ≡ suc (i + 1) = omega arith in
    rw next (ap (λ ys. x ∷ ys) (set-inserted xs i a b (omega arith)))

in_spans-append : (xs ys : List Bounds) (n : ℕ) → in_spans (xs ++ ys) n ≡ (in_spans xs n || in_spans ys n)
in_spans-append [] ys n = refl
in_spans-append (x ∷ xs) ys n = let rest = in_spans-append xs ys n in grind (arith, nat_tests)

-- the parts of a span hold what it holds and the cut doesn't
parts-set : (cut x : Bounds) → cut.first ≤ cut.last → (n : ℕ)
    → in_spans (part_below cut x ++ part_above cut x) n ≡ (holds x n && not (holds cut n))
parts-set cut x ordered n =
    ⊎_elim
    (λ (below : x.first < cut.first).
    ⊎_elim
    (λ (above : cut.last < x.last). grind (arith, nat_tests))
    (λ (not_above : x.last ≤ cut.last). grind (arith, nat_tests))
    (cases_lt cut.last x.last))
    (λ (not_below : cut.first ≤ x.first).
    ⊎_elim
    (λ (above : cut.last < x.last). grind (arith, nat_tests))
    (λ (not_above : x.last ≤ cut.last). grind (arith, nat_tests))
    (cases_lt cut.last x.last))
    (cases_lt x.first cut.first)

without-set : (cut : Bounds) (xs : List Bounds) → cut.first ≤ cut.last → (n : ℕ)
    → in_spans (without_span cut xs) n ≡ (in_spans xs n && not (holds cut n))
without-set cut [] ordered n = refl
without-set cut (x ∷ xs) ordered n =
    let own = parts-set cut x ordered n in
    let rest = without-set cut xs ordered n in
    let both = in_spans-append (part_below cut x ++ part_above cut x) (without_span cut xs) n in
    grind (arith, nat_tests)

without-merged : (cut : Bounds) (low : ℕ) (xs : List Bounds) → cut.first ≤ cut.last → AreMergedFrom low xs
    → AreMergedFrom low (without_span cut xs)
without-merged cut low [] ordered merged = merged
without-merged cut low (x ∷ xs) ordered merged =
    let from = merged.0 in
    let own = merged.1 in
    let rest = without-merged cut (x.last + 2) xs ordered merged.2 in
    ⊎_elim
    (λ (below : x.first < cut.first).
    let test : ltb x.first cut.first ≡ true = grind (arith, nat_tests) in
    ⊎_elim
    (λ (above : cut.last < x.last).
    let test_above : ltb cut.last x.last ≡ true = grind (arith, nat_tests) in
    rw (test, test_above) (from, omega arith, (omega arith, omega arith, rest)))
    (λ (not_above : x.last ≤ cut.last).
    let test_above : ltb cut.last x.last ≡ false = grind (arith, nat_tests) in
    rw (test, test_above) (
      from,
      omega arith,
      merged-lower (x.last + 2) (min x.last (cut.first - 1) + 2)
          (without_span cut xs) (omega arith) rest,
    ))
    (cases_lt cut.last x.last))
    (λ (not_below : cut.first ≤ x.first).
    let test : ltb x.first cut.first ≡ false = grind (arith, nat_tests) in
    ⊎_elim
    (λ (above : cut.last < x.last).
    let test_above : ltb cut.last x.last ≡ true = grind (arith, nat_tests) in
    rw (test, test_above) (omega arith, omega arith, rest))
    (λ (not_above : x.last ≤ cut.last).
    let test_above : ltb cut.last x.last ≡ false = grind (arith, nat_tests) in
    rw (test, test_above) (merged-lower (x.last + 2) low (without_span cut xs) (omega arith) rest))
    (cases_lt cut.last x.last))
    (cases_lt x.first cut.first)

-- none of the spans goes on below the cut and above it
abbrev pub NoneAround : Bounds → List Bounds → Type 0
NoneAround cut [] = Unit {0}
NoneAround cut (x ∷ xs) = (x.first < cut.first → x.last ≤ cut.last) × NoneAround cut xs

-- then each is left out or trimmed
trims : (cut : Bounds) (xs : List Bounds) → cut.first ≤ cut.last → NoneAround cut xs
    → map (trimmed cut) (filter (λ (x : Bounds). not (lies_in x cut)) xs) ≡ without_span cut xs
trims cut [] ordered none = refl
trims cut (x ∷ xs) ordered none =
    let rest = trims cut xs ordered none.1 in
    ⊎_elim
    (λ (below : x.first < cut.first).
    let not_above = none.0 below in
    let test : ltb x.first cut.first ≡ true = grind (arith, nat_tests) in
    let test_above : ltb cut.last x.last ≡ false = grind (arith, nat_tests) in
    let outside : lies_in x cut ≡ false = grind (arith, nat_tests) in
    rw (outside, outside, test, test_above) (ap (λ ys. record {
      first = x.first;
      last = min x.last (cut.first - 1);
    } ∷ ys) rest))
    (λ (not_below : cut.first ≤ x.first).
    let test : ltb x.first cut.first ≡ false = grind (arith, nat_tests) in
    ⊎_elim
    (λ (above : cut.last < x.last).
    let test_above : ltb cut.last x.last ≡ true = grind (arith, nat_tests) in
    let outside : lies_in x cut ≡ false = grind (arith, nat_tests) in
    rw (outside, outside, test, test_above) (ap (λ ys. record {
      first = max x.first (cut.last + 1);
      last = x.last;
    } ∷ ys) rest))
    (λ (not_above : x.last ≤ cut.last).
    let test_above : ltb cut.last x.last ≡ false = grind (arith, nat_tests) in
    let inside : lies_in x cut ≡ true = grind (arith, nat_tests) in
    rw (inside, test, test_above) rest)
    (cases_lt cut.last x.last))
    (cases_lt x.first cut.first)

above-none : (cut : Bounds) (low : ℕ) (xs : List Bounds) → AreMergedFrom low xs → cut.first ≤ low → NoneAround cut xs
above-none cut low [] merged from = tt
above-none cut low (x ∷ xs) merged from = (
  λ below. absurd (omega (arith, merged.0)),
  above-none cut (x.last + 2) xs merged.2 (omega (arith, merged.0, merged.1)),
)

none-around : (cut : Bounds) (low : ℕ) (xs : List Bounds) → cut.first ≤ cut.last → AreMergedFrom low xs
    → HasAround false xs (prefix_len (λ (x : Bounds). ltb x.last cut.first) xs) cut → NoneAround cut xs
none-around cut low [] ordered merged around = tt
none-around cut low (x ∷ xs) ordered merged around =
    let own = merged.1 in
    ⊎_elim
    (λ (ended : x.last < cut.first).
    let test : ltb x.last cut.first ≡ true = grind (arith, nat_tests) in
    let next : 1 + prefix_len (λ (y : Bounds). ltb y.last cut.first) xs ≡ suc
    (prefix_len (λ (y : Bounds). ltb y.last cut.first) xs) = omega arith in
    let later = rw (test, next) at around in
    (λ below. omega arith, none-around cut (x.last + 2) xs ordered merged.2 (λ within. later (omega arith))))
    (λ (reached : cut.first ≤ x.last).
    let test : ltb x.last cut.first ≡ false = grind (arith, nat_tests) in
    let here = rw test at around in
    (λ below. here (omega arith) below, above-none cut (x.last + 2) xs merged.2 (omega arith)))
    (cases_lt x.last cut.first)

-- spans above the cut stay as they are
above-same : (cut : Bounds) (low : ℕ) (xs : List Bounds) → cut.first ≤ cut.last → AreMergedFrom low xs → cut.last < low
    → without_span cut xs ≡ xs
above-same cut low [] ordered merged from = refl
above-same cut low (x ∷ xs) ordered merged from =
    let low_first = merged.0 in
    let own = merged.1 in
    let rest = above-same cut (x.last + 2) xs ordered merged.2 (omega arith) in
    let test : ltb x.first cut.first ≡ false = grind (arith, nat_tests) in
    let test_above : ltb cut.last x.last ≡ true = grind (arith, nat_tests) in
    let same : max x.first (cut.last + 1) ≡ x.first = omega arith in
    rw (test, test_above, same) (ap (λ ys. x ∷ ys) rest)

-- the span that goes on below the cut and above it leaves two
splits : (cut : Bounds) (low : ℕ) (xs : List Bounds) → cut.first ≤ cut.last → AreMergedFrom low xs → (i : ℕ)
    → i ≡ prefix_len (λ (x : Bounds). ltb x.last cut.first) xs → HasAround true xs i cut
    → take i xs ++ (halves cut (get_or xs i cut) ++ drop (i + 1) xs) ≡ without_span cut xs
splits cut low [] ordered merged i place around = absurd (omega (arith, around.0))
splits cut low (x ∷ xs) ordered merged zero place around =
    let below : x.first < cut.first = around.1 in
    let above : cut.last < x.last = around.2 in
    let rest = above-same cut (x.last + 2) xs ordered merged.2 (omega arith) in
    let test : ltb x.first cut.first ≡ true = grind (arith, nat_tests) in
    let test_above : ltb cut.last x.last ≡ true = grind (arith, nat_tests) in
    let low_end : min x.last (cut.first - 1) ≡ cut.first - 1 = omega arith in
    let high_start : max x.first (cut.last + 1) ≡ cut.last + 1 = omega arith in
    rw (test, test_above, low_end, high_start)
    (ap (λ ys. record { first = x.first; last = cut.first - 1 } ∷ record {
      first = cut.last + 1;
      last = x.last;
    } ∷ ys) (sym rest))
splits cut low (x ∷ xs) ordered merged (suc i) place around =
    let own = merged.1 in
    ⊎_elim
    (λ (ended : x.last < cut.first).
    let before : ltb x.last cut.first ≡ true = grind (arith, nat_tests) in
    let later : i ≡ prefix_len (λ (y : Bounds). ltb y.last cut.first) xs =
    (let here = rw before at place in omega arith) in
    let rest = splits cut (x.last + 2) xs ordered merged.2 i later (omega (arith, around.0), around.1, around.2) in
    let test : ltb x.first cut.first ≡ true = grind (arith, nat_tests) in
    let test_above : ltb cut.last x.last ≡ false = grind (arith, nat_tests) in
    let whole : min x.last (cut.first - 1) ≡ x.last = omega arith in
    let next : suc i + 1 ≡ suc (i + 1) = omega arith in
    rw (test, test_above, whole, next) (ap (λ ys. x ∷ ys) rest))
    (λ (reached : cut.first ≤ x.last).
    let before : ltb x.last cut.first ≡ false = grind (arith, nat_tests) in
    let here = rw before at place in
    absurd (omega arith))
    (cases_lt x.last cut.first)

-- what holds of spans out of which a cut was taken
pub record IsCutOut (cut : Bounds) (xs ys : List Bounds) : Type 0 where
  pub set : (n : ℕ) → in_spans ys n ≡ (in_spans xs n && not (holds cut n))
  pub merged : AreMerged ys

cut_out : (cut : Bounds) (xs ys : List Bounds) → AreMerged xs → cut.first ≤ cut.last → ys ≡ without_span cut xs
    → IsCutOut cut xs ys
cut_out cut xs ys merged ordered is =
    record {
      set = λ n. ap (λ zs. in_spans zs n) is ∙ without-set cut xs ordered n;
      merged = subst AreMerged (sym is) (without-merged cut 0 xs ordered merged);
    }

pub cut_out-split : (cut : Bounds) (xs ys : List Bounds) (i : ℕ) → AreMerged xs → cut.first ≤ cut.last
    → i ≡ prefix_len (λ (x : Bounds). ltb x.last cut.first) xs → HasAround true xs i cut
    → ys ≡ take i xs ++ (halves cut (get_or xs i cut) ++ drop (i + 1) xs) → IsCutOut cut xs ys
cut_out-split cut xs ys i merged ordered place around is =
    cut_out cut xs ys merged ordered (is ∙ splits cut 0 xs ordered merged i place around)

pub cut_out-trim : (cut : Bounds) (xs ys : List Bounds) (i : ℕ) → AreMerged xs → cut.first ≤ cut.last
    → i ≡ prefix_len (λ (x : Bounds). ltb x.last cut.first) xs → HasAround false xs i cut
    → ys ≡ map (trimmed cut) (filter (λ (x : Bounds). not (lies_in x cut)) xs) → IsCutOut cut xs ys
cut_out-trim cut xs ys i merged ordered place around is =
    cut_out cut xs ys merged ordered (is ∙ trims cut xs ordered
    (none-around cut 0 xs ordered merged (subst (λ (k : ℕ). HasAround false xs k cut) place around)))

-- a span that goes on around the cut is one of the spans
pub around-splits : (cut : Bounds) (xs : List Bounds) (i : ℕ) → HasAround true xs i cut → splits_one xs cut ≡ true
around-splits cut [] i around = absurd (omega (arith, around.0))
around-splits cut (x ∷ xs) zero around =
    let below : x.first < cut.first = around.1 in
    let above : cut.last < x.last = around.2 in
    grind (arith, nat_tests)
around-splits cut (x ∷ xs) (suc i) around =
    let rest = around-splits cut xs i (omega (arith, around.0), around.1, around.2) in
    grind (arith, nat_tests)
