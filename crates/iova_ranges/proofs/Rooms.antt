-- Where some start fits, one of those that are tried does.
use Rattle.std.proofs.Common.{◌≡◌, ℕ, ◌+◌, ◌-◌, ◌%◌, ◌<◌, ◌≤◌, Bool, true, false, not, leb, ◌==◌, ◌&&◌, ◌⊎◌, inl, inr}
use Rattle.std.proofs.Common.{List, [], ◌∷◌, ◌++◌, map, refl, arith, ⊎_elim}
use Rattle.std.specs.Prelude.{◌↔◌}
use Rattle.std.specs.Bool.{IsTrue}
use Rattle.std.specs.List.{list_all, list_any}
use Rattle.std.proofs.lemmas.Bool.{cases_Bool, cases_lt}
use Rattle.std.proofs.lemmas.Bool.Decides.{nat_tests}
use Rattle.iofd_words.specs.Bounds.{Bounds}
use Rattle.iofd_words.specs.Span.{holds, meets, span_from}
use Rattle.iova_ranges.specs.Ranges.{AllIn}
use Rattle.iofd_words.specs.Ranges.{in_spans, meets_some}
use Rattle.iofd_words.specs.Fits.{IsFit, whole_from}
use Rattle.iofd_words.specs.Room.{AreOrdered, is_covered_by, fits, starts_to_try, has_fit}
use Rattle.iova_ranges.proofs.Covering.{covered_by-all, all-covered_by}
use Rattle.iova_ranges.proofs.Fitted.{whole_from-above, whole_from-whole, whole_from-least}

-- each of the numbers that isn't above the one isn't above the other
abbrev pub AllUnder : ℕ → ℕ → List ℕ → Type 0
AllUnder x c [] = Unit {0}
AllUnder x c (d ∷ ds) = (d ≤ x → d ≤ c) × AllUnder x c ds

-- the greatest of the numbers that aren't above one
record IsTop (x : ℕ) (cs : List ℕ) (c : ℕ) : Type 0 where
  below : c ≤ x
  top : AllUnder x c cs
  among : (p : ℕ → Bool) → p c ≡ true → list_any p cs ≡ true
  whole : list_all (λ d. d % 4096 == 0) cs ≡ true → c % 4096 ≡ 0

none-under : (x c : ℕ) (cs : List ℕ) → list_any (λ d. leb d x) cs ≡ false → AllUnder x c cs
none-under x c [] none = tt
none-under x c (d ∷ ds) none = (λ low. absurd (grind (arith, nat_tests)), none-under x c ds (grind (arith, nat_tests)))

under-higher : (x c e : ℕ) (cs : List ℕ) → c ≤ e → AllUnder x c cs → AllUnder x e cs
under-higher x c e [] less under = tt
under-higher x c e (d ∷ ds) less under =
    (λ low. (let at = under.0 low in omega arith), under-higher x c e ds less under.1)

decide : (x c d : ℕ) → ((d ≤ x) × (c < d)) ⊎ (d ≤ x → d ≤ c)
decide x c d =
    ⊎_elim
    (λ (above : c < d). ⊎_elim (λ (out : x < d). inr (λ low. absurd (omega arith)))
    (λ (low : d ≤ x). inl (low, above)) (cases_lt x d))
    (λ (at : d ≤ c). inr (λ low. at))
    (cases_lt c d)

top-exists : (x : ℕ) (cs : List ℕ) → list_any (λ d. leb d x) cs ≡ true → (c : ℕ) × IsTop x cs c
top-exists x [] some = absurd (cc)
top-exists x (d ∷ ds) some =
    ⊎_elim
    (λ (later : list_any (λ e. leb e x) ds ≡ true).
    let rest = top-exists x ds later in
    let c = rest.0 in
    let is = rest.1 in
    let c_below = is.below in
    ⊎_elim
    (λ (replaced : (d ≤ x) × (c < d)). (
      d,
      record {
        below = replaced.0;
        top = (λ low. omega arith, under-higher x c d ds (omega (arith, replaced.1)) is.top);
        among = λ p passes. grind (arith, nat_tests);
        whole = λ all. grind (arith, nat_tests);
      },
    ))
    (λ (stays : d ≤ x → d ≤ c). (
      c,
      record {
        below = c_below;
        top = (stays, is.top);
        among = λ p passes. (let held = is.among p passes in grind (arith, nat_tests));
        whole = λ all. is.whole (grind (arith, nat_tests));
      },
    ))
    (decide x c d))
    (λ (none : list_any (λ e. leb e x) ds ≡ false).
    let low : d ≤ x = grind (arith, nat_tests) in (
      d,
      record {
        below = low;
        top = (λ under. omega arith, none-under x d ds none);
        among = λ p passes. grind (arith, nat_tests);
        whole = λ all. grind (arith, nat_tests);
      },
    ))
    (cases_Bool (list_any (λ e. leb e x) ds))

-- a span that holds the number begins, rounded up, no higher than a multiple of a page
held-tried : (x : ℕ) (xs : List Bounds) (others : List ℕ) → x % 4096 ≡ 0 → in_spans xs x ≡ true
    → list_any (λ d. leb d x) (map (λ s. whole_from s.first) xs ++ others) ≡ true
held-tried x [] others whole held = absurd (cc)
held-tried x (s ∷ xs) others whole held =
    ⊎_elim
    (λ (here : holds s x ≡ true).
    let low : s.first ≤ x = grind (arith, nat_tests) in
    let up = whole_from-least s.first x low whole in
    grind (arith, nat_tests))
    (λ (not_here : holds s x ≡ false). let rest = held-tried x xs others whole (grind (arith, nat_tests)) in
    grind (arith, nat_tests))
    (cases_Bool (holds s x))

wholes-spans : (xs areas : List Bounds) → list_all (λ d. d % 4096 == 0) (starts_to_try xs areas) ≡ true
wholes-spans [] [] = refl
wholes-spans [] (a ∷ areas) =
    let own = whole_from-whole (a.last + 1) in
    let rest = wholes-spans [] areas in
    grind (arith, nat_tests)
wholes-spans (s ∷ xs) areas =
    let own = whole_from-whole s.first in
    let rest = wholes-spans xs areas in
    grind (arith, nat_tests)

under-spans : (x c : ℕ) (xs areas : List Bounds) → AllUnder x c (starts_to_try xs areas)
    → AllUnder x c (map (λ s. whole_from s.first) xs)
under-spans x c [] areas under = tt
under-spans x c (s ∷ xs) areas under = (under.0, under-spans x c xs areas under.1)

under-areas : (x c : ℕ) (xs areas : List Bounds) → AllUnder x c (starts_to_try xs areas)
    → AllUnder x c (map (λ a. whole_from (a.last + 1)) areas)
under-areas x c [] areas under = under
under-areas x c (s ∷ xs) areas under = under-areas x c xs areas under.1

-- what lies between that start and the fit is in the set
held-down : (x c : ℕ) (xs : List Bounds) → x % 4096 ≡ 0 → in_spans xs x ≡ true
    → AllUnder x c (map (λ s. whole_from s.first) xs) → (n : ℕ) → c ≤ n → n ≤ x → in_spans xs n ≡ true
held-down x c [] whole held under n low high = held
held-down x c (s ∷ xs) whole held under n low high =
    ⊎_elim
    (λ (here : holds s x ≡ true).
    let begins : s.first ≤ x = grind (arith, nat_tests) in
    let up = under.0 (whole_from-least s.first x begins whole) in
    let above = whole_from-above s.first in
    let from : s.first ≤ n = omega arith in
    grind (arith, nat_tests))
    (λ (not_here : holds s x ≡ false). let rest = held-down x c xs whole (grind (arith, nat_tests)) under.1 n low
    high in grind (arith, nat_tests))
    (cases_Bool (holds s x))

-- and no area ends there
clear-down : (x c length : ℕ) (areas : List Bounds) → x % 4096 ≡ 0 → 0 < length → c ≤ x → AreOrdered areas
    → AllUnder x c (map (λ a. whole_from (a.last + 1)) areas)
    → ((n : ℕ) → x ≤ n → n < x + length → in_spans areas n ≡ false) → meets_some areas (span_from c length) ≡ false
clear-down x c length [] whole some low ordered under beside = refl
clear-down x c length (a ∷ areas) whole some low ordered under beside =
    let own = ordered.0 in
    let rest = clear-down x c length areas whole some low ordered.1 under.1
    (λ n from to. (let isnt = beside n from to in grind (arith, nat_tests))) in
    let out : meets a (span_from c length) ≡ false =
    ⊎_elim
    (λ (ended : a.last < x).
    let up = under.0 (whole_from-least (a.last + 1) x (omega arith) whole) in
    let above = whole_from-above (a.last + 1) in
    let behind : a.last < c = omega arith in
    grind (arith, nat_tests))
    (λ (reaches : x ≤ a.last).
    ⊎_elim
    (λ (ahead : x < a.first).
    ⊎_elim
    (λ (inside : a.first < x + length). let isnt = beside a.first (omega arith) inside in absurd
    (grind (arith, nat_tests)))
    (λ (over : x + length ≤ a.first). let far : c + length - 1 < a.first = omega arith in grind (arith, nat_tests))
    (cases_lt a.first (x + length)))
    (λ (begun : a.first ≤ x). let isnt = beside x (omega arith) (omega arith) in absurd (grind (arith, nat_tests)))
    (cases_lt x a.first))
    (cases_lt a.last x) in
    grind (arith, nat_tests)

pub fit-has_fit : (length : ℕ) (spans areas : List Bounds) (x : ℕ) → AreOrdered areas → IsFit length spans areas x
    → has_fit length spans areas ≡ true
fit-has_fit length spans areas x ordered fit =
    let some = fit.some in
    let whole = fit.whole in
    let held = fit.inside x (omega arith) (omega arith) in
    let found = top-exists x (starts_to_try spans areas)
    (held-tried x spans (map (λ a. whole_from (a.last + 1)) areas) whole held) in
    let c = found.0 in
    let is = found.1 in
    let low = is.below in
    let tried_whole = is.whole (wholes-spans spans areas) in
    let inside : AllIn spans (span_from c length) = λ n from to.
    ⊎_elim
    (λ (before : n < x). held-down x c spans whole held (under-spans x c spans areas is.top) n from (omega arith))
    (λ (at : x ≤ n). fit.inside n at (omega arith))
    (cases_lt n x) in
    let covered = all-covered_by spans (span_from c length) (omega arith) inside in
    let clear = clear-down x c length areas whole some low ordered (under-areas x c spans areas is.top) fit.beside in
    is.among (fits length spans areas) (grind (arith, nat_tests))

-- what the test of one start says
clear-beside : (areas : List Bounds) (span : Bounds) (n : ℕ) → meets_some areas span ≡ false → span.first ≤ n
    → n ≤ span.last → in_spans areas n ≡ false
clear-beside [] span n clear low high = refl
clear-beside (a ∷ areas) span n clear low high =
    let own : meets a span ≡ false = grind (arith, nat_tests) in
    let rest = clear-beside areas span n (grind (arith, nat_tests)) low high in
    grind (arith, nat_tests)

fits-fit : (length : ℕ) (spans areas : List Bounds) (x : ℕ) → fits length spans areas x ≡ true
    → IsFit length spans areas x
fits-fit length spans areas x passes =
    let whole : x % 4096 ≡ 0 = grind (arith, nat_tests) in
    let some : 0 < length = grind (arith, nat_tests) in
    let covered : is_covered_by spans (span_from x length) ≡ true = grind (arith, nat_tests) in
    let clear : meets_some areas (span_from x length) ≡ false = grind (arith, nat_tests) in
    record {
      whole = whole;
      some = some;
      inside = λ n low high. covered_by-all spans (span_from x length) covered n low (omega arith);
      beside = λ n low high. clear-beside areas (span_from x length) n clear low (omega arith);
    }

any-one : (p : ℕ → Bool) (cs : List ℕ) → list_any p cs ≡ true → (c : ℕ) × (p c ≡ true)
any-one p [] some = absurd (cc)
any-one p (c ∷ cs) some =
    ⊎_elim (λ (here : p c ≡ true). (c, here)) (λ (not_here : p c ≡ false). any-one p cs (grind (arith, nat_tests)))
    (cases_Bool (p c))

pub has_fit-fit : (length : ℕ) (spans areas : List Bounds) → has_fit length spans areas ≡ true
    → (x : ℕ) × IsFit length spans areas x
has_fit-fit length spans areas some =
    let one = any-one (fits length spans areas) (starts_to_try spans areas) some in
    (one.0, fits-fit length spans areas one.0 one.1)

all-beside : (areas : List Bounds) (span : Bounds) → span.first ≤ span.last → AreOrdered areas
    → ((n : ℕ) → span.first ≤ n → n ≤ span.last → in_spans areas n ≡ false) → meets_some areas span ≡ false
all-beside [] span ordered areas_ordered beside = refl
all-beside (a ∷ areas) span ordered areas_ordered beside =
    let own = areas_ordered.0 in
    let rest = all-beside areas span ordered areas_ordered.1
    (λ n low high. (let isnt = beside n low high in grind (arith, nat_tests))) in
    ⊎_elim
    (λ (met : meets a span ≡ true).
    ⊎_elim
    (λ (before : a.first < span.first). let isnt = beside span.first (omega arith) ordered in absurd
    (grind (arith, nat_tests)))
    (λ (after : span.first ≤ a.first). let isnt = beside a.first after (grind (arith, nat_tests)) in absurd
    (grind (arith, nat_tests)))
    (cases_lt a.first span.first))
    (λ (clear : meets a span ≡ false). grind (arith, nat_tests))
    (cases_Bool (meets a span))

fit-fits : (length : ℕ) (spans areas : List Bounds) (x : ℕ) → AreOrdered areas → IsFit length spans areas x
    → fits length spans areas x ≡ true
fit-fits length spans areas x ordered fit =
    let some = fit.some in
    let whole = fit.whole in
    let covered =
    all-covered_by spans (span_from x length) (omega arith) (λ n low high. fit.inside n low (omega arith)) in
    let clear =
    all-beside areas (span_from x length) (omega arith) ordered (λ n low high. fit.beside n low (omega arith)) in
    grind (arith, nat_tests)

pub fits-tells : (length : ℕ) (spans areas : List Bounds) (x : ℕ) → AreOrdered areas
    → IsTrue (fits length spans areas x) ↔ IsFit length spans areas x
fits-tells length spans areas x ordered = (fits-fit length spans areas x, fit-fits length spans areas x ordered)

pub has_fit-tells : (length : ℕ) (spans areas : List Bounds) → AreOrdered areas
    → IsTrue (has_fit length spans areas) ↔ ((x : ℕ) × IsFit length spans areas x)
has_fit-tells length spans areas ordered =
    (has_fit-fit length spans areas, λ one. fit-has_fit length spans areas one.0 ordered one.1)

-- what fits hangs on which numbers are in the set and in no area, and on nothing else
pub fit-moves : (length : ℕ) (spans areas others beside : List Bounds)
    → ((n : ℕ) → (in_spans spans n && not (in_spans areas n)) ≡ (in_spans others n && not (in_spans beside n)))
    → (x : ℕ) → IsFit length spans areas x → IsFit length others beside x
fit-moves length spans areas others beside same x fit =
    record {
      whole = fit.whole;
      some = fit.some;
      inside = λ n low high. (let is = same n in let held = fit.inside n low high in let clear = fit.beside n low
          high in grind (arith, nat_tests));
      beside = λ n low high. (let is = same n in let held = fit.inside n low high in let clear = fit.beside n low
          high in grind (arith, nat_tests));
    }
