-- Where a length fits from some start on, it fits from one at or below it that has nothing before it.
use Rattle.std.proofs.Common.{◌≡◌, ℕ, zero, suc, ◌+◌, ◌-◌, ◌*◌, ◌%◌, ◌<◌, ◌≤◌, Bool, true, false, eqb, leb, ◌&&◌, ◌||◌}
use Rattle.std.proofs.Common.{List, [], ◌∷◌, map, refl, ap, sym, ◌∙◌, arith, ⊎_elim}
use Rattle.std.specs.List.{list_any}
use Rattle.std.proofs.lemmas.Bool.{cases_Bool, cases_lt, eqb-true}
use Rattle.std.proofs.lemmas.Bool.Decides.{nat_tests}
use Rattle.std.proofs.lemmas.List.Folds.{list_any-append}
use Rattle.iofd_words.specs.Bounds.{Bounds}
use Rattle.iofd_words.specs.Fits.{whole_from}
use Rattle.iofd_words.specs.Ranges.{in_spans, meets_some}
use Rattle.iofd_words.specs.Room.{fits, is_covered_by, starts_to_try}
use Rattle.iofd_words.specs.Span.{holds, meets, span_from}
use Rattle.iova_ranges.proofs.Covering.{all-covered_by, covered_by-all}
use Rattle.iova_ranges.proofs.Fitted.{whole_from-above, whole_from-least, whole_from-whole}

any_weaker : (p q : ℕ → Bool) (xs : List ℕ) → ((x : ℕ) → p x ≡ true → q x ≡ true) → list_any p xs ≡ true
    → list_any q xs ≡ true
any_weaker p q [] weaker some = some
any_weaker p q (x ∷ xs) weaker some =
    ⊎_elim
    (λ (here : p x ≡ true). rw (weaker x here) refl)
    (λ (other : p x ≡ false). let later = any_weaker p q xs weaker (rw other at some) in grind (arith, nat_tests))
    (cases_Bool (p x))

any-map : (p : ℕ → Bool) (h : Bounds → ℕ) (spans : List Bounds)
    → list_any p (map h spans) ≡ list_any (λ s. p (h s)) spans
any-map p h [] = refl
any-map p h (s ∷ spans) = ap (λ b. p (h s) || b) (any-map p h spans)

either_false : (p q : Bool) → (p || q) ≡ false → (p ≡ false) × (q ≡ false)
either_false true q is = cc
either_false false q is = (refl, is)

-- a whole number behind another whole one is a page behind it
page_below : (a x : ℕ) → a % 4096 ≡ 0 → x % 4096 ≡ 0 → a ≤ x → eqb a x ≡ false → a + 4096 ≤ x
page_below a x whole_a whole_x under other =
    let differ : a < x = grind (arith, nat_tests) in
    omega (arith, whole_a, whole_x, differ)

-- the span that holds the number goes on a page below it, where it doesn't begin there
back : (spans : List Bounds) (x : ℕ) → x % 4096 ≡ 0 → in_spans spans x ≡ true
    → list_any (λ s. eqb (whole_from s.first) x) spans ≡ false
    → (4096 ≤ x) × ((n : ℕ) → x ≤ n + 4096 → n ≤ x → in_spans spans n ≡ true)
back [] x whole held none = cc
back (s ∷ spans) x whole held none =
    let parts = either_false (eqb (whole_from s.first) x) (list_any (λ t. eqb (whole_from t.first) x) spans) none in
    ⊎_elim
    (λ (here : holds s x ≡ true).
    let begins : s.first ≤ x = grind (arith, nat_tests) in
    let ends : x ≤ s.last = grind (arith, nat_tests) in
    let page = page_below (whole_from s.first) x (whole_from-whole s.first) whole
    (whole_from-least s.first x begins whole) parts.0 in
    let above = whole_from-above s.first in
    (omega (arith, page), λ n from to. let in_here : holds s n ≡ true = grind (arith, nat_tests) in rw in_here refl))
    (λ (other : holds s x ≡ false).
    let rest = back spans x whole (rw other at held) parts.1 in
    (rest.0, λ n from to. let later = rest.1 n from to in grind (arith, nat_tests)))
    (cases_Bool (holds s x))

-- and nothing that is taken stands in the way a page below, where none ends there
clear : (taken : List Bounds) (x length : ℕ) → x % 4096 ≡ 0 → 4096 ≤ x → 0 < length
    → meets_some taken (span_from x length) ≡ false → list_any (λ t. eqb (whole_from (t.last + 1)) x) taken ≡ false
    → meets_some taken (span_from (x - 4096) length) ≡ false
clear [] x length whole page some none others = refl
clear (t ∷ taken) x length whole page some none others =
    let apart = either_false (meets t (span_from x length)) (meets_some taken (span_from x length)) none in
    let parts =
    either_false (eqb (whole_from (t.last + 1)) x) (list_any (λ o. eqb (whole_from (o.last + 1)) x) taken) others in
    let rest = clear taken x length whole page some apart.1 parts.1 in
    ⊎_elim
    (λ (met : meets t (span_from (x - 4096) length) ≡ true).
    let apart_here = apart.0 in
    let below : t.last < x = grind (arith, nat_tests) in
    let from : x ≤ t.last + 4096 = grind (arith, nat_tests) in
    let least = whole_from-least (t.last + 1) x (omega (arith, below)) whole in
    let lower = page_below (whole_from (t.last + 1)) x (whole_from-whole (t.last + 1)) whole least parts.0 in
    let above = whole_from-above (t.last + 1) in
    absurd (omega (arith, lower, above, from)))
    (λ (free : meets t (span_from (x - 4096) length) ≡ false). rw (free, rest) refl)
    (cases_Bool (meets t (span_from (x - 4096) length)))

-- what a fit says
record IsFound (length : ℕ) (spans taken : List Bounds) (x : ℕ) : Type 0 where
  whole : x % 4096 ≡ 0
  some : 0 < length
  covered : is_covered_by spans (span_from x length) ≡ true
  free : meets_some taken (span_from x length) ≡ false

found : (length : ℕ) (spans taken : List Bounds) (x : ℕ) → fits length spans taken x ≡ true
    → IsFound length spans taken x
found length spans taken x fit =
    record {
      whole = grind (arith, nat_tests);
      some = grind (arith, nat_tests);
      covered = grind (arith, nat_tests);
      free = grind (arith, nat_tests);
    }

fits_there : (length : ℕ) (spans taken : List Bounds) (x : ℕ) → IsFound length spans taken x
    → fits length spans taken x ≡ true
fits_there length spans taken x is = let whole =
    is.whole in let some = is.some in let covered = is.covered in let free = is.free in grind (arith, nat_tests)

-- a fit that isn't one of the starts to try is one a page below
a_page_below : (length : ℕ) (spans taken : List Bounds) (x : ℕ) → fits length spans taken x ≡ true
    → list_any (λ s. eqb s x) (starts_to_try spans taken) ≡ false
    → (4096 ≤ x) × (fits length spans taken (x - 4096) ≡ true)
a_page_below length spans taken x fit untried =
    let is = found length spans taken x fit in
    let some = is.some in
    let whole = is.whole in
    let parts = either_false _ _ (sym (list_any-append (λ s. eqb s x) (map (λ (s : Bounds). whole_from s.first) spans)
    (map (λ (t : Bounds). whole_from (t.last + 1)) taken)) ∙ untried) in
    let all = covered_by-all spans (span_from x length) is.covered in
    let low = back spans x is.whole (all x (omega arith) (omega (arith, some)))
    (sym (any-map (λ s. eqb s x) (λ (s : Bounds). whole_from s.first) spans) ∙ parts.0) in
    let page = low.0 in (
      page,
      fits_there length spans taken (x - 4096) (record {
        whole = omega (arith, whole, page);
        some = some;
        covered = all-covered_by spans (span_from (x - 4096) length) (omega (arith, some)) (λ n from to.
            ⊎_elim
            (λ (above : x < n). all n (omega (arith, above)) (omega (arith, to, page)))
            (λ (under : n ≤ x). low.1 n (omega (arith, from)) under)
            (cases_lt x n));
        free = clear taken x length is.whole page some is.free
            (sym (any-map (λ s. eqb s x) (λ (t : Bounds). whole_from (t.last + 1)) taken) ∙ parts.1);
      }),
    )

-- a start to try at the fit is one
tried_start : (length : ℕ) (spans taken : List Bounds) (x : ℕ) (starts : List ℕ) → fits length spans taken x ≡ true
    → list_any (λ s. eqb s x) starts ≡ true → list_any (λ s. leb s x && fits length spans taken s) starts ≡ true
tried_start length spans taken x starts fit tried =
    any_weaker (λ s. eqb s x) (λ s. leb s x && fits length spans taken s) starts (λ s is. at s is) tried
  where
    low : (s : ℕ) → s ≡ x → leb s x ≡ true
    low s same = grind (arith, nat_tests)

    at : (s : ℕ) → eqb s x ≡ true → (leb s x && fits length spans taken s) ≡ true
    at s is =
        let same : s ≡ x = eqb-true s x is in
        rw (low s same, ap (fits length spans taken) same ∙ fit) refl

page_start : (length : ℕ) (spans taken : List Bounds) (k x : ℕ) → x ≤ k * 4096 → fits length spans taken x ≡ true
    → list_any (λ s. leb s x && fits length spans taken s) (starts_to_try spans taken) ≡ true
page_start length spans taken zero x high fit =
    ⊎_elim
    (λ (tried : list_any (λ s. eqb s x) (starts_to_try spans taken) ≡ true). tried_start length spans taken x
    (starts_to_try spans taken) fit tried)
    (λ (untried : list_any (λ s. eqb s x) (starts_to_try spans taken) ≡ false). let below = a_page_below length spans
    taken x fit untried in absurd (omega (arith, below.0, high)))
    (cases_Bool (list_any (λ s. eqb s x) (starts_to_try spans taken)))
page_start length spans taken (suc k) x high fit =
    ⊎_elim
    (λ (tried : list_any (λ s. eqb s x) (starts_to_try spans taken) ≡ true). tried_start length spans taken x
    (starts_to_try spans taken) fit tried)
    (λ (untried : list_any (λ s. eqb s x) (starts_to_try spans taken) ≡ false).
    let below = a_page_below length spans taken x fit untried in
    let page = below.0 in
    let lower = page_start length spans taken k (x - 4096) (omega (arith, page, high)) below.1 in
    any_weaker (λ s. leb s (x - 4096) && fits length spans taken s) (λ s. leb s x && fits length spans taken s)
    (starts_to_try spans taken) (λ s is. grind (arith, nat_tests)) lower)
    (cases_Bool (list_any (λ s. eqb s x) (starts_to_try spans taken)))

-- the starts to try find a fit at or below each fit
pub start_found : (length : ℕ) (spans taken : List Bounds) (x : ℕ) → fits length spans taken x ≡ true
    → list_any (λ s. leb s x && fits length spans taken s) (starts_to_try spans taken) ≡ true
start_found length spans taken x fit = page_start length spans taken x x (omega arith) fit
