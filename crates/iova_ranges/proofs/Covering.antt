-- A span is in a set of spans just where its first number is and so is what follows each span's end inside.
use Rattle.std.proofs.Common.{◌≡◌, ℕ, zero, suc, ◌+◌, ◌-◌, ◌<◌, ◌≤◌, Bool, true, false, not, ◌||◌, ◌⊎◌, inl, inr, List}
use Rattle.std.proofs.Common.{[], ◌∷◌, refl, subst, arith, ⊎_elim}
use Rattle.std.specs.List.{list_all}
use Rattle.std.proofs.lemmas.Bool.{cases_Bool, cases_lt}
use Rattle.std.proofs.lemmas.Bool.Decides.{nat_tests}
use Rattle.iofd_words.specs.Bounds.{Bounds}
use Rattle.iofd_words.specs.Span.{holds}
use Rattle.iova_ranges.specs.Ranges.{AllIn}
use Rattle.iofd_words.specs.Ranges.{in_spans}
use Rattle.iofd_words.specs.Room.{is_covered_by}

-- what the test asks of each span
abbrev pub goes_on : List Bounds → Bounds → Bounds → Bool
goes_on all span one = not (holds span (one.last + 1)) || in_spans all (one.last + 1)

-- the number after one that is in the set is in it too, inside the span
next-in : (all : List Bounds) (span : Bounds) (n : ℕ) (xs : List Bounds) → in_spans xs n ≡ true
    → list_all (goes_on all span) xs ≡ true → span.first ≤ n → n + 1 ≤ span.last
    → (in_spans xs (n + 1) ≡ true) ⊎ (in_spans all (n + 1) ≡ true)
next-in all span n [] held tests low high = inl held
next-in all span n (x ∷ xs) held tests low high =
    let others : list_all (goes_on all span) xs ≡ true = grind (arith, nat_tests) in
    let own : goes_on all span x ≡ true = grind (arith, nat_tests) in
    ⊎_elim
    (λ (here : holds x n ≡ true).
    ⊎_elim
    (λ (inner : n < x.last). inl (grind (arith, nat_tests)))
    (λ (end : x.last ≤ n).
    let at : x.last ≡ n = grind (arith, nat_tests) in
    let inside : holds span (n + 1) ≡ true = grind (arith, nat_tests) in
    let test = subst (λ (m : ℕ). (not (holds span (m + 1)) || in_spans all (m + 1)) ≡ true) at own in
    inr (grind (arith, nat_tests)))
    (cases_lt n x.last))
    (λ (not_here : holds x n ≡ false).
    let later = next-in all span n xs (grind (arith, nat_tests)) others low high in
    ⊎_elim (λ (in_xs : in_spans xs (n + 1) ≡ true). inl (grind (arith, nat_tests)))
    (λ (in_all : in_spans all (n + 1) ≡ true). inr in_all) later)
    (cases_Bool (holds x n))

walk : (all : List Bounds) (span : Bounds) → in_spans all span.first ≡ true → list_all (goes_on all span) all ≡ true
    → (k : ℕ) → span.first + k ≤ span.last → in_spans all (span.first + k) ≡ true
walk all span first tests zero high =
    let same : span.first ≡ span.first + 0 = omega arith in
    subst (λ (m : ℕ). in_spans all m ≡ true) same first
walk all span first tests (suc k) high =
    let here = walk all span first tests k (omega arith) in
    let next = next-in all span (span.first + k) all here tests (omega arith) (omega arith) in
    let step : span.first + k + 1 ≡ span.first + suc k = omega arith in
    let is : in_spans all (span.first + k + 1) ≡ true =
    ⊎_elim (λ (h : in_spans all (span.first + k + 1) ≡ true). h)
    (λ (h : in_spans all (span.first + k + 1) ≡ true). h) next in
    subst (λ (m : ℕ). in_spans all m ≡ true) step is

pub covered_by-all : (xs : List Bounds) (span : Bounds) → is_covered_by xs span ≡ true → AllIn xs span
covered_by-all xs span covered n low high =
    let first : in_spans xs span.first ≡ true = grind (arith, nat_tests) in
    let tests : list_all (goes_on xs span) xs ≡ true = grind (arith, nat_tests) in
    let is = walk xs span first tests (n - span.first) (omega arith) in
    let same : span.first + (n - span.first) ≡ n = omega arith in
    subst (λ (m : ℕ). in_spans xs m ≡ true) same is

tests-pass : (all xs : List Bounds) (span : Bounds) → AllIn all span → list_all (goes_on all span) xs ≡ true
tests-pass all [] span inside = refl
tests-pass all (x ∷ xs) span inside =
    let rest = tests-pass all xs span inside in
    ⊎_elim
    (λ (here : holds span (x.last + 1) ≡ true). let is = inside (x.last + 1) (grind (arith, nat_tests))
    (grind (arith, nat_tests)) in grind (arith, nat_tests))
    (λ (not_here : holds span (x.last + 1) ≡ false). grind (arith, nat_tests))
    (cases_Bool (holds span (x.last + 1)))

pub all-covered_by : (xs : List Bounds) (span : Bounds) → span.first ≤ span.last → AllIn xs span
    → is_covered_by xs span ≡ true
all-covered_by xs span ordered inside =
    let first = inside span.first (omega arith) ordered in
    let tests = tests-pass xs xs span inside in
    grind (arith, nat_tests)
