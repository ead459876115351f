-- A span added to merged spans: which numbers are in the set then, and that the spans are merged again.
use Rattle.std.proofs.Common.{◌≡◌, ℕ, suc, ◌+◌, ◌-◌, ◌<◌, ◌≤◌, true, false, ltb, ◌||◌, List, [], ◌∷◌, ◌++◌, length}
use Rattle.std.proofs.Common.{take, drop, refl, subst, sym, ap, ◌∙◌, arith, ⊎_elim}
use Rattle.std.specs.List.{prefix_len}
use Rattle.std.proofs.lemmas.Bool.{cases_lt}
use Rattle.std.proofs.lemmas.List.{take_rest, drop-drop}
use Rattle.std.proofs.lemmas.Bool.Decides.{nat_tests}
use Rattle.std.specs.Prelude.{if◌then◌else◌}
use Rattle.iofd_words.specs.Bounds.{Bounds}
use Rattle.iofd_words.specs.Span.{holds}
use Rattle.iofd_words.specs.Ranges.{AreMerged, AreMergedFrom, in_spans}
use Rattle.iova_ranges.specs.Ranges.{touches_one}
use Rattle.iova_ranges.specs.Adding.{is_clear_below, joined, joined_on}

-- the span, joined with those that it meets or adjoins, in its place among the others
abbrev pub with_span : Bounds → List Bounds → List Bounds
with_span span [] = span ∷ []
with_span span (next ∷ spans) =
    if is_clear_below span.first next then next ∷ with_span span spans else joined_on span (next ∷ spans)

-- two that meet or adjoin hold together what they hold each
holds-joined : (a b : Bounds) → a.first ≤ a.last → b.first ≤ b.last → a.first ≤ b.last + 1 → b.first ≤ a.last + 1
    → (n : ℕ) → holds (joined a b) n ≡ (holds a n || holds b n)
holds-joined a b a_ordered b_ordered a_reaches b_reaches n =
    ⊎_elim (λ (first : a.first < b.first).
    ⊎_elim (λ (last : a.last < b.last). grind (arith, nat_tests)) (λ (last : b.last ≤ a.last). grind (arith, nat_tests))
    (cases_lt a.last b.last))
    (λ (first : b.first ≤ a.first).
    ⊎_elim (λ (last : a.last < b.last). grind (arith, nat_tests)) (λ (last : b.last ≤ a.last). grind (arith, nat_tests))
    (cases_lt a.last b.last))
    (cases_lt a.first b.first)

-- the first of the spans, if there is one, ends no lower than right before the number
abbrev pub HeadReaches : ℕ → List Bounds → Type 0
HeadReaches n [] = Unit {0}
HeadReaches n (x ∷ xs) = n ≤ x.last + 1

head-reaches : (n low : ℕ) (xs : List Bounds) → AreMergedFrom low xs → n ≤ low → HeadReaches n xs
head-reaches n low [] merged under = tt
head-reaches n low (x ∷ xs) merged under = omega (arith, merged.0, merged.1)

-- one more in front that the span reaches
pub joined_next : (span next : Bounds) (xs : List Bounds) → next.first ≤ span.last + 1
    → joined_on span (next ∷ xs) ≡ joined_on (joined span next) xs
joined_next span next xs reached =
    let test : ltb (span.last + 1) next.first ≡ false = grind (arith, nat_tests) in
    rw test refl

joined_on-set : (span : Bounds) (low : ℕ) (xs : List Bounds) → AreMergedFrom low xs → HeadReaches span.first xs
    → span.first ≤ span.last → (n : ℕ) → in_spans (joined_on span xs) n ≡ (in_spans xs n || holds span n)
joined_on-set span low [] merged reaches ordered n = grind (arith, nat_tests)
joined_on-set span low (x ∷ xs) merged reaches ordered n =
    let own = merged.1 in
    ⊎_elim
    (λ (clear : span.last + 1 < x.first). grind (arith, nat_tests))
    (λ (touches : x.first ≤ span.last + 1).
    let both = holds-joined span x ordered own reaches touches n in
    let rest = joined_on-set (joined span x) (x.last + 2) xs merged.2
    (head-reaches (joined span x).first (x.last + 2) xs merged.2 (omega arith)) (omega arith) n in
    grind (arith, nat_tests))
    (cases_lt (span.last + 1) x.first)

joined_on-merged : (span : Bounds) (under low : ℕ) (xs : List Bounds) → AreMergedFrom low xs → under ≤ span.first
    → under ≤ low → span.first ≤ span.last → AreMergedFrom under (joined_on span xs)
joined_on-merged span under low [] merged above lower ordered = (above, ordered, tt)
joined_on-merged span under low (x ∷ xs) merged above lower ordered =
    let from = merged.0 in
    let own = merged.1 in
    ⊎_elim
    (λ (clear : span.last + 1 < x.first).
    let test : ltb (span.last + 1) x.first ≡ true = grind (arith, nat_tests) in
    let gap : span.last + 2 ≤ x.first = omega arith in
    rw test (above, ordered, (gap, own, merged.2)))
    (λ (touches : x.first ≤ span.last + 1).
    let test : ltb (span.last + 1) x.first ≡ false = grind (arith, nat_tests) in
    rw test (joined_on-merged (joined span x) under (x.last + 2) xs merged.2 (omega arith) (omega arith) (omega arith)))
    (cases_lt (span.last + 1) x.first)

set-from : (span : Bounds) (low : ℕ) (xs : List Bounds) → AreMergedFrom low xs → span.first ≤ span.last → (n : ℕ)
    → in_spans (with_span span xs) n ≡ (in_spans xs n || holds span n)
set-from span low [] merged ordered n = grind (arith, nat_tests)
set-from span low (x ∷ xs) merged ordered n =
    ⊎_elim
    (λ (clear : x.last + 1 < span.first).
    let rest = set-from span (x.last + 2) xs merged.2 ordered n in
    grind (arith, nat_tests))
    (λ (reached : span.first ≤ x.last + 1).
    let test : ltb (x.last + 1) span.first ≡ false = grind (arith, nat_tests) in
    rw test (joined_on-set span low (x ∷ xs) merged reached ordered n))
    (cases_lt (x.last + 1) span.first)

merged-from : (span : Bounds) (low : ℕ) (xs : List Bounds) → AreMergedFrom low xs → low ≤ span.first
    → span.first ≤ span.last → AreMergedFrom low (with_span span xs)
merged-from span low [] merged above ordered = (above, ordered, tt)
merged-from span low (x ∷ xs) merged above ordered =
    ⊎_elim
    (λ (clear : x.last + 1 < span.first).
    let test : ltb (x.last + 1) span.first ≡ true = grind (arith, nat_tests) in
    let gap : x.last + 2 ≤ span.first = omega arith in
    rw test (merged.0, merged.1, merged-from span (x.last + 2) xs merged.2 gap ordered))
    (λ (reached : span.first ≤ x.last + 1).
    let test : ltb (x.last + 1) span.first ≡ false = grind (arith, nat_tests) in
    rw test (joined_on-merged span low low (x ∷ xs) merged above (omega arith) ordered))
    (cases_lt (x.last + 1) span.first)

with_span-set : (span : Bounds) (xs : List Bounds) → AreMerged xs → span.first ≤ span.last → (n : ℕ)
    → in_spans (with_span span xs) n ≡ (in_spans xs n || holds span n)
with_span-set span xs merged ordered n = set-from span 0 xs merged ordered n

with_span-merged : (span : Bounds) (xs : List Bounds) → AreMerged xs → span.first ≤ span.last
    → AreMerged (with_span span xs)
with_span-merged span xs merged ordered = merged-from span 0 xs merged (omega arith) ordered

-- those clear below it stay in front
with_span-place : (span : Bounds) (xs : List Bounds)
    → take (prefix_len (is_clear_below span.first) xs) xs
    ++ joined_on span (drop (prefix_len (is_clear_below span.first) xs) xs) ≡ with_span span xs
with_span-place span [] = refl
with_span-place span (x ∷ xs) =
    let rest = with_span-place span xs in
    ⊎_elim
    (λ (clear : x.last + 1 < span.first).
    let test : ltb (x.last + 1) span.first ≡ true = grind (arith, nat_tests) in
    let next : 1 + prefix_len (is_clear_below span.first) xs ≡ suc (prefix_len (is_clear_below span.first) xs) =
    omega arith in
    rw (test, next) (ap (λ ys. x ∷ ys) rest))
    (λ (reached : span.first ≤ x.last + 1).
    let test : ltb (x.last + 1) span.first ≡ false = grind (arith, nat_tests) in
    rw test refl)
    (cases_lt (x.last + 1) span.first)

-- the pieces that make it up: those in front, what the span grew to, and those behind the ones that it reached
with_span-from : (span : Bounds) (xs : List Bounds) (i : ℕ) (grown : Bounds) (reached : ℕ)
    → i ≡ prefix_len (is_clear_below span.first) xs
    → joined_on span (take (length xs - i) (drop i xs)) ≡ grown ∷ drop reached (take (length xs - i) (drop i xs))
    → take i xs ++ grown ∷ drop (i + reached) xs ≡ with_span span xs
with_span-from span xs i grown reached place value =
    let rest : joined_on span (drop i xs) ≡ grown ∷ drop reached (drop i xs) = rw (take_rest xs i) at value in
    let is : take i xs ++ joined_on span (drop i xs) ≡ with_span span xs =
    subst (λ (k : ℕ). take k xs ++ joined_on span (drop k xs) ≡ with_span span xs) (sym place)
    (with_span-place span xs) in
    ap (λ ys. take i xs ++ grown ∷ ys) (sym (drop-drop reached i xs)) ∙ ap (λ ys. take i xs ++ ys) (sym rest) ∙ is

-- what holds of spans to which one was added
pub record IsAdded (span : Bounds) (xs ys : List Bounds) : Type 0 where
  pub set : (n : ℕ) → in_spans ys n ≡ (in_spans xs n || holds span n)
  pub merged : AreMerged ys
  pub some : 0 < length ys

-- a set with a number isn't empty
held-some : (xs : List Bounds) (n : ℕ) → in_spans xs n ≡ true → 0 < length xs
held-some [] n held = cc
held-some (x ∷ xs) n held = omega arith

pub added : (span : Bounds) (xs ys : List Bounds) (i : ℕ) (grown : Bounds) (reached : ℕ) → AreMerged xs
    → span.first ≤ span.last → i ≡ prefix_len (is_clear_below span.first) xs
    → joined_on span (take (length xs - i) (drop i xs)) ≡ grown ∷ drop reached (take (length xs - i) (drop i xs))
    → ys ≡ take i xs ++ grown ∷ drop (i + reached) xs → IsAdded span xs ys
added span xs ys i grown reached merged ordered place value pieces =
    let is = pieces ∙ with_span-from span xs i grown reached place value in
    let own = λ (n : ℕ). ap (λ zs. in_spans zs n) is ∙ with_span-set span xs merged ordered n in
    let first = own span.first in
    record {
      set = own;
      merged = subst AreMerged (sym is) (with_span-merged span xs merged ordered);
      some = held-some ys span.first (grind (arith, nat_tests));
    }

-- a span that joins with some leaves no more spans than there were
length-joined_on : (span : Bounds) (xs : List Bounds) → length (joined_on span xs) ≤ length xs + 1
length-joined_on span [] = omega arith
length-joined_on span (x ∷ xs) =
    let rest = length-joined_on (joined span x) xs in
    ⊎_elim (λ (clear : span.last + 1 < x.first). grind (arith, nat_tests))
    (λ (touches : x.first ≤ span.last + 1). grind (arith, nat_tests)) (cases_lt (span.last + 1) x.first)

-- spans that begin clear above it don't touch it
above-apart : (span : Bounds) (low : ℕ) (xs : List Bounds) → AreMergedFrom low xs → span.last + 1 < low
    → touches_one xs span ≡ false
above-apart span low [] merged clear = refl
above-apart span low (x ∷ xs) merged clear =
    let from = merged.0 in
    let own = merged.1 in
    let rest = above-apart span (x.last + 2) xs merged.2 (omega arith) in
    grind (arith, nat_tests)

apart-from : (span grown : Bounds) (low : ℕ) (xs : List Bounds) → AreMergedFrom low xs → span.first ≤ span.last
    → joined_on span (drop (prefix_len (is_clear_below span.first) xs) xs) ≡ grown
    ∷ drop (prefix_len (is_clear_below span.first) xs) xs → touches_one xs span ≡ false
apart-from span grown low [] merged ordered alone = refl
apart-from span grown low (x ∷ xs) merged ordered alone =
    let own = merged.1 in
    ⊎_elim
    (λ (clear : x.last + 1 < span.first).
    let test : ltb (x.last + 1) span.first ≡ true = grind (arith, nat_tests) in
    let next : 1 + prefix_len (is_clear_below span.first) xs ≡ suc (prefix_len (is_clear_below span.first) xs) =
    omega arith in
    let rest = apart-from span grown (x.last + 2) xs merged.2 ordered (rw (test, next) at alone) in
    grind (arith, nat_tests))
    (λ (reached : span.first ≤ x.last + 1).
    let test : ltb (x.last + 1) span.first ≡ false = grind (arith, nat_tests) in
    let whole : joined_on span (x ∷ xs) ≡ grown ∷ x ∷ xs = rw test at alone in
    ⊎_elim
    (λ (above : span.last + 1 < x.first).
    let rest = above-apart span (x.last + 2) xs merged.2 (omega arith) in
    grind (arith, nat_tests))
    (λ (touches : x.first ≤ span.last + 1).
    let onwards : ltb (span.last + 1) x.first ≡ false = grind (arith, nat_tests) in
    let lengths = ap length (rw onwards at whole) in
    let fewer = length-joined_on (joined span x) xs in
    absurd (omega (arith, lengths, fewer)))
    (cases_lt (span.last + 1) x.first))
    (cases_lt (x.last + 1) span.first)

-- where none is reached, none is touched
pub apart : (span grown : Bounds) (xs : List Bounds) (i reached : ℕ) → AreMerged xs → span.first ≤ span.last
    → i ≡ prefix_len (is_clear_below span.first) xs → reached ≡ 0
    → joined_on span (take (length xs - i) (drop i xs)) ≡ grown ∷ drop reached (take (length xs - i) (drop i xs))
    → touches_one xs span ≡ false
apart span grown xs i reached merged ordered place none value =
    let rest : joined_on span (drop i xs) ≡ grown ∷ drop reached (drop i xs) = rw (take_rest xs i) at value in
    let alone : joined_on span (drop i xs) ≡ grown ∷ drop i xs =
    subst (λ (k : ℕ). joined_on span (drop i xs) ≡ grown ∷ drop k (drop i xs)) none rest in
    apart-from span grown 0 xs merged ordered
    (subst (λ (k : ℕ). joined_on span (drop k xs) ≡ grown ∷ drop k xs) place alone)
