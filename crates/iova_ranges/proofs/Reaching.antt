-- What the first span that ends at a number or above it tells.
use Rattle.std.proofs.Common.{◌≡◌, ℕ, ◌+◌, ◌<◌, ◌≤◌, Bool, true, false, leb, ltb, Option, Some, None, List, [], ◌∷◌}
use Rattle.std.proofs.Common.{length, get_or, refl, sym, ap, ◌∙◌, arith, ⊎_elim, is_some}
use Rattle.std.specs.List.{find, prefix_len, slice_get}
use Rattle.std.specs.Bool.{IsTrue}
use Rattle.std.specs.Prelude.{◌↔◌}
use Rattle.std.specs.Option.{option_copied, IfSome}
use Rattle.std.proofs.lemmas.Bool.{cases_Bool, cases_lt}
use Rattle.std.proofs.lemmas.Bool.Decides.{nat_tests}
use Rattle.std.proofs.lemmas.Option.{slice_get_past, slice_get_read}
use denote.Ref.{Bor}
use Rattle.iofd_words.specs.Bounds.{Bounds}
use Rattle.iofd_words.specs.Span.{lies_in}
use Rattle.iofd_words.specs.Ranges.{AreMerged, AreMergedFrom, in_spans}
use Rattle.iova_ranges.specs.Ranges.{AllIn, lies_in_one}
use Rattle.iova_ranges.proofs.Merged.{below-out}

-- what `get` answers, as a value
pub copied-from_get : (xs : List Bounds) (i : ℕ) (r : Option (Bor Bounds)) → is_some r ≡ ltb i (length xs)
    → IfSome r (λ x. x.now ≡ get_or xs i x.now) → option_copied r ≡ slice_get xs i
copied-from_get xs i None variant item = sym (slice_get_past xs i (grind (arith, nat_tests)))
copied-from_get xs i (Some x) variant item =
    let within : i < length xs = grind (arith, nat_tests) in
    sym (slice_get_read xs (length xs) i x.now refl within item)

-- the first that isn't below the number
pub find_reaching : (n : ℕ) (xs : List Bounds)
    → slice_get xs (prefix_len (λ (x : Bounds). ltb x.last n) xs) ≡ find (λ (x : Bounds). leb n x.last) xs
find_reaching n [] = refl
find_reaching n (x ∷ xs) =
    let rest = find_reaching n xs in
    ⊎_elim (λ (below : x.last < n). grind (arith, nat_tests))
    (λ (above : n ≤ x.last). grind (arith, nat_tests)) (cases_lt x.last n)

-- there is a span, and it begins at the number or below it
abbrev pub begins_by : ℕ → Option Bounds → Bool
begins_by n None = false
begins_by n (Some x) = leb x.first n

holds_from : (low : ℕ) (xs : List Bounds) → AreMergedFrom low xs → (n : ℕ)
    → in_spans xs n ≡ begins_by n (find (λ (x : Bounds). leb n x.last) xs)
holds_from low [] merged n = refl
holds_from low (x ∷ xs) merged n =
    let rest = holds_from (x.last + 2) xs merged.2 n in
    ⊎_elim (λ (below : x.last < n). grind (arith, nat_tests))
    (λ (above : n ≤ x.last). let out = below-out (x.last + 2) xs merged.2 n (omega arith) in grind (arith, nat_tests))
    (cases_lt x.last n)

pub holds_none : (n : ℕ) (xs : List Bounds) → AreMerged xs → find (λ (x : Bounds). leb n x.last) xs ≡ None
    → in_spans xs n ≡ false
holds_none n xs merged none = holds_from 0 xs merged n ∙ ap (begins_by n) none

pub holds_some : (n : ℕ) (xs : List Bounds) (x : Bounds) → AreMerged xs
    → find (λ (x : Bounds). leb n x.last) xs ≡ Some x → in_spans xs n ≡ leb x.first n
holds_some n xs x merged found = holds_from 0 xs merged n ∙ ap (begins_by n) found

-- there is a span, and the other lies in it
abbrev pub has_within : Bounds → Option Bounds → Bool
has_within span None = false
has_within span (Some x) = lies_in span x

-- a span that begins below the others lies in none of them
below-apart : (low : ℕ) (xs : List Bounds) → AreMergedFrom low xs → (span : Bounds) → span.first < low
    → lies_in_one xs span ≡ false
below-apart low [] merged span below = refl
below-apart low (x ∷ xs) merged span below =
    let from = merged.0 in
    let own = merged.1 in
    let rest = below-apart (x.last + 2) xs merged.2 span (omega arith) in
    grind (arith, nat_tests)

covers_from : (low : ℕ) (xs : List Bounds) → AreMergedFrom low xs → (span : Bounds) → span.first ≤ span.last
    → lies_in_one xs span ≡ has_within span (find (λ (x : Bounds). leb span.first x.last) xs)
covers_from low [] merged span ordered = refl
covers_from low (x ∷ xs) merged span ordered =
    let rest = covers_from (x.last + 2) xs merged.2 span ordered in
    ⊎_elim (λ (below : x.last < span.first). grind (arith, nat_tests))
    (λ (above : span.first ≤ x.last). let out = below-apart (x.last + 2) xs merged.2 span (omega arith) in
    grind (arith, nat_tests))
    (cases_lt x.last span.first)

pub covers_none : (span : Bounds) (xs : List Bounds) → AreMerged xs → span.first ≤ span.last
    → find (λ (x : Bounds). leb span.first x.last) xs ≡ None → lies_in_one xs span ≡ false
covers_none span xs merged ordered none = covers_from 0 xs merged span ordered ∙ ap (has_within span) none

pub covers_some : (span : Bounds) (xs : List Bounds) (x : Bounds) → AreMerged xs → span.first ≤ span.last
    → find (λ (x : Bounds). leb span.first x.last) xs ≡ Some x → lies_in_one xs span ≡ lies_in span x
covers_some span xs x merged ordered found = covers_from 0 xs merged span ordered ∙ ap (has_within span) found

-- a span that lies in one of them is in the set
one-all : (span : Bounds) (xs : List Bounds) → lies_in_one xs span ≡ true → AllIn xs span
one-all span [] one n low high = one
one-all span (x ∷ xs) one n low high =
    ⊎_elim (λ (here : lies_in span x ≡ true). grind (arith, nat_tests))
    (λ (not_here : lies_in span x ≡ false). let later = one-all span xs (grind (arith, nat_tests)) n low high in
    grind (arith, nat_tests))
    (cases_Bool (lies_in span x))

-- a span that is in the set lies in one of them, since a number is left out behind each
all-one : (low : ℕ) (xs : List Bounds) → AreMergedFrom low xs → (span : Bounds) → span.first ≤ span.last → AllIn xs span
    → lies_in_one xs span ≡ true
all-one low [] merged span ordered all = all span.first (omega arith) ordered
all-one low (x ∷ xs) merged span ordered all =
    let first_in = all span.first (omega arith) ordered in
    ⊎_elim
    (λ (below : x.last < span.first).
    let rest = all-one (x.last + 2) xs merged.2 span ordered
    (λ n from to. let is = all n from to in grind (arith, nat_tests)) in
    grind (arith, nat_tests))
    (λ (above : span.first ≤ x.last).
    let out = below-out (x.last + 2) xs merged.2 span.first (omega arith) in
    ⊎_elim
    (λ (beyond : x.last < span.last).
    let is = all (x.last + 1) (omega arith) (omega arith) in
    let isnt = below-out (x.last + 2) xs merged.2 (x.last + 1) (omega arith) in
    grind (arith, nat_tests))
    (λ (ends : span.last ≤ x.last). grind (arith, nat_tests))
    (cases_lt x.last span.last))
    (cases_lt x.last span.first)

-- so the test is true just where each number of the span is in the set
pub covers-tells : (span : Bounds) (xs : List Bounds) (b : Bool) → AreMerged xs → span.first ≤ span.last
    → b ≡ lies_in_one xs span → IsTrue b ↔ AllIn xs span
covers-tells span xs b merged ordered is =
    (λ yes. one-all span xs (sym is ∙ yes), λ all. is ∙ all-one 0 xs merged span ordered all)
