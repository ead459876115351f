-- Where so many addresses are free first.
use Rattle.std.proofs.Common.{◌≡◌, ℕ, suc, ◌+◌, ◌-◌, ◌<◌, ◌≤◌, ◌^◌, true, false, leb, ltb, max, List, [], ◌∷◌, ◌++◌}
use Rattle.std.proofs.Common.{length, get_or, drop, refl, sym, ap, subst, ◌∙◌, arith, ⊎_elim, is_some}
use Rattle.std.specs.List.{prefix_len}
use Rattle.std.proofs.lemmas.Bool.{cases_lt, false≢true}
use Rattle.std.proofs.lemmas.List.{drop_more}
use Rattle.std.proofs.lemmas.Bool.Decides.{nat_tests}
use Rattle.iofd_words.specs.Areas.{areas_meet}
use Rattle.iofd_words.specs.Span.{meets, span_from}
use Rattle.iofd_words.specs.declared.rows.Area.{Area}
use Rattle.area_map_rows.specs.Areas.{AreApartFrom, AreApart, HasNoneFree, IsFirstFree}
use Rattle.area_map_rows.specs.Rows.{first_free, first_of, starts_from, widest_behind, widest_of, end_of, in_rows}
use Rattle.area_map_rows.specs.Rows.{AreRows}
use Rattle.area_map_rows.proofs.Found.{find_none, list_any-find}
use Rattle.area_map_rows.proofs.Rows.{apart_left, apart_right, end-above, AreRows-drop, apart-drop}

-- ---- the place is the least

free-above : (at count : ℕ) (xs : List Area) → at ≤ first_free at count xs
free-above at count [] = omega arith
free-above at count (x ∷ xs) =
    let rest = free-above (max at (x.span.last + 1)) count xs in
    grind (arith, nat_tests)

-- areas behind a span don't meet it
none_meet : (at count low : ℕ) (xs : List Area) → AreApartFrom low xs → 0 < count → at + count ≤ low
    → areas_meet (span_from at count) xs ≡ false
none_meet at count low xs apart some behind =
    list_any-find (λ area. meets area.span (span_from at count)) xs
    ∙ ap is_some (find_none (λ area. meets area.span (span_from at count)) low xs apart
    (λ b after. grind (arith, nat_tests)))

free-meets_none : (at count low : ℕ) (xs : List Area) → AreApartFrom low xs → 0 < count
    → areas_meet (span_from (first_free at count xs) count) xs ≡ false
free-meets_none at count low [] apart some = refl
free-meets_none at count low (x ∷ xs) apart some =
    let own : x.span.first ≤ x.span.last = apart.1 in
    ⊎_elim
    (λ (taken : x.span.first < at + count).
    let test : leb (at + count) x.span.first ≡ false = grind (arith, nat_tests) in
    let is : first_free at count (x ∷ xs) ≡ first_free (max at (x.span.last + 1)) count xs = rw test refl in
    let above = free-above (max at (x.span.last + 1)) count xs in
    let rest = free-meets_none (max at (x.span.last + 1)) count (x.span.last + 1) xs apart.2 some in
    subst (λ (n : ℕ). areas_meet (span_from n count) (x ∷ xs) ≡ false) (sym is) (grind (arith, nat_tests)))
    (λ (fits : at + count ≤ x.span.first).
    let test : leb (at + count) x.span.first ≡ true = grind (arith, nat_tests) in
    let is : first_free at count (x ∷ xs) ≡ at = rw test refl in
    let rest = none_meet at count (x.span.last + 1) xs apart.2 some (omega (arith, fits, own)) in
    subst (λ (n : ℕ). areas_meet (span_from n count) (x ∷ xs) ≡ false) (sym is) (grind (arith, nat_tests)))
    (cases_lt x.span.first (at + count))

free-least : (at count : ℕ) (xs : List Area) → 0 < count → (n : ℕ) → at ≤ n → n < first_free at count xs
    → areas_meet (span_from n count) xs ≡ true
free-least at count [] some n from below = absurd (omega (arith, from, below))
free-least at count (x ∷ xs) some n from below =
    ⊎_elim
    (λ (taken : x.span.first < at + count).
    let test : leb (at + count) x.span.first ≡ false = grind (arith, nat_tests) in
    let less : n < first_free (max at (x.span.last + 1)) count xs = rw test at below in
    ⊎_elim
    (λ (here : n < max at (x.span.last + 1)). grind (arith, nat_tests))
    (λ (later : max at (x.span.last + 1) ≤ n).
    let rest = free-least (max at (x.span.last + 1)) count xs some n later less in
    grind (arith, nat_tests))
    (cases_lt n (max at (x.span.last + 1))))
    (λ (fits : at + count ≤ x.span.first).
    let test : leb (at + count) x.span.first ≡ true = grind (arith, nat_tests) in
    let less : n < at = rw test at below in
    absurd (omega (arith, from, less)))
    (cases_lt x.span.first (at + count))

pub free-is_first : (start count : ℕ) (xs : List Area) → AreApart xs → 0 < count
    → first_free start count xs + count ≤ 2 ^ 64 → IsFirstFree start count xs (first_free start count xs)
free-is_first start count xs apart some within = record {
  from = free-above start count xs;
  within = within;
  free = free-meets_none start count 0 xs apart some;
  least = free-least start count xs some;
}

pub free-none : (start count : ℕ) (xs : List Area) → 0 < count → 2 ^ 64 < first_free start count xs + count
    → HasNoneFree start count xs
free-none start count xs some above =
    λ x from within. free-least start count xs some x from (omega (arith, above, within))

-- ---- some areas, and others behind them

-- a place before all areas stays
free-low : (at count low : ℕ) (xs : List Area) → AreApartFrom low xs → at + count ≤ low → first_free at count xs ≡ at
free-low at count low [] apart before = refl
free-low at count low (x ∷ xs) apart before =
    let above = apart.0 in
    let test : leb (at + count) x.span.first ≡ true = grind (arith, nat_tests) in
    rw test refl

pub free-append : (at count low : ℕ) (xs ys : List Area) → AreApartFrom low (xs ++ ys)
    → first_free at count (xs ++ ys) ≡ first_free (first_free at count xs) count ys
free-append at count low [] ys apart = refl
free-append at count low (x ∷ xs) ys apart =
    let own : x.span.first ≤ x.span.last = apart.1 in
    ⊎_elim
    (λ (taken : x.span.first < at + count).
    let test : leb (at + count) x.span.first ≡ false = grind (arith, nat_tests) in
    rw test (free-append (max at (x.span.last + 1)) count (x.span.last + 1) xs ys apart.2))
    (λ (fits : at + count ≤ x.span.first).
    let test : leb (at + count) x.span.first ≡ true = grind (arith, nat_tests) in
    let above = end-above x.span.first (x ∷ xs) (omega arith)
    (omega arith, own, (apart_left low (x ∷ xs) ys apart).2) in
    let behind = apart_right low (x ∷ xs) ys (omega arith) apart in
    rw test (sym (free-low at count (end_of (x ∷ xs) + 1) ys behind (omega (arith, fits, above)))))
    (cases_lt x.span.first (at + count))

free-in_front : (at count : ℕ) (xs ys : List Area) → 0 < length xs → starts_from (at + count) xs ≡ true
    → first_free at count (xs ++ ys) ≡ at
free-in_front at count [] ys some before = absurd (omega arith)
free-in_front at count (x ∷ xs) ys some before =
    let test : leb (at + count) x.span.first ≡ true = before in rw test refl

-- areas that end below a place leave it
free-passed : (at count low : ℕ) (xs : List Area) → AreApartFrom low xs → end_of xs < at → first_free at count xs ≡ at
free-passed at count low [] apart below = refl
free-passed at count low (x ∷ []) apart below =
    let own : x.span.first ≤ x.span.last = apart.1 in
    let test : leb (at + count) x.span.first ≡ false = grind (arith, nat_tests) in
    let stays : max at (x.span.last + 1) ≡ at = grind (arith, nat_tests) in
    rw (test, stays) refl
free-passed at count low (x ∷ y ∷ xs) apart below =
    let own : x.span.first ≤ x.span.last = apart.1 in
    let above = end-above (x.span.last + 1) (y ∷ xs) (omega arith) apart.2 in
    let test : leb (at + count) x.span.first ≡ false = grind (arith, nat_tests) in
    let stays : max at (x.span.last + 1) ≡ at = grind (arith, nat_tests) in
    let rest = free-passed at count (x.span.last + 1) (y ∷ xs) apart.2 below in
    rw (test, stays) rest

-- where no gap behind the first area is so wide, the place is behind the last
free-narrow : (at count low : ℕ) (x : Area) (xs : List Area) → AreApartFrom low (x ∷ xs) → x.span.first < at + count
    → widest_behind x.span.last xs < count → first_free at count (x ∷ xs) ≡ max at (end_of (x ∷ xs) + 1)
free-narrow at count low x [] apart taken narrow =
    let test : leb (at + count) x.span.first ≡ false = grind (arith, nat_tests) in
    rw test refl
free-narrow at count low x (y ∷ ys) apart taken narrow =
    let test : leb (at + count) x.span.first ≡ false = grind (arith, nat_tests) in
    let above = end-above (x.span.last + 1) (y ∷ ys) (omega arith) apart.2 in
    let gap : y.span.first - x.span.last - 1 < count = grind (arith, nat_tests) in
    let others : widest_behind y.span.last ys < count = grind (arith, nat_tests) in
    let next : y.span.first < max at (x.span.last + 1) + count = grind (arith, nat_tests) in
    let rest = free-narrow (max at (x.span.last + 1)) count (x.span.last + 1) y ys apart.2 next others in
    let same : max (max at (x.span.last + 1)) (end_of (y ∷ ys) + 1) ≡ max at (end_of (y ∷ ys) + 1)
    = grind (arith, nat_tests) in
    rw test (rest ∙ same)

pub free-behind : (at count : ℕ) (xs : List Area) → AreApart xs → starts_from (at + count) xs ≡ false
    → widest_of xs < count → first_free at count xs ≡ max at (end_of xs + 1)
free-behind at count [] apart begun narrow = absurd (false≢true (sym begun))
free-behind at count (x ∷ xs) apart begun narrow =
    let taken : x.span.first < at + count = grind (arith, nat_tests) in
    free-narrow at count 0 x xs apart taken narrow

-- ---- rows

-- rows that end below the place leave it
pub free-rows : (start count low : ℕ) (rows : List (List Area)) → AreRows rows → AreApartFrom low (in_rows rows)
    → first_free start count (in_rows (drop (prefix_len (λ (row : List Area). ltb (end_of row) start) rows) rows))
    ≡ first_free start count (in_rows rows)
free-rows start count low [] each apart = refl
free-rows start count low (row ∷ rows) each apart =
    ⊎_elim
    (λ (below : end_of row < start).
    let test : ltb (end_of row) start ≡ true = grind (arith, nat_tests) in
    let next : prefix_len (λ (r : List Area). ltb (end_of r) start) (row ∷ rows) ≡ suc
    (prefix_len (λ (r : List Area). ltb (end_of r) start) rows) = grind (arith, nat_tests) in
    let rest = free-rows start count (end_of row + 1) rows each.2
    (apart_right low row (in_rows rows) each.0 apart) in
    let both = free-append start count low row (in_rows rows) apart in
    let passed = free-passed start count low row (apart_left low row (in_rows rows) apart) below in
    rw (next, both, passed) rest)
    (λ (reached : start ≤ end_of row).
    let here : prefix_len (λ (r : List Area). ltb (end_of r) start) (row ∷ rows) ≡ 0 = grind (arith, nat_tests) in
    rw here refl)
    (cases_lt (end_of row) start)

-- the first of the rows behind others
pub free-next : (at count low : ℕ) (rows : List (List Area)) (i : ℕ) (d : List Area) → i < length rows → AreRows rows
    → AreApartFrom low (in_rows rows)
    → first_free (first_free at count (get_or rows i d)) count (in_rows (drop (i + 1) rows))
    ≡ first_free at count (in_rows (drop i rows))
free-next at count low rows i d within each apart =
    let is : drop i rows ≡ get_or rows i d ∷ drop (i + 1) rows = drop_more rows i d within in
    let rest : AreApartFrom low (get_or rows i d ++ in_rows (drop (i + 1) rows))
    = rw is at (apart-drop low rows i each apart) in
    rw is (sym (free-append at count low (get_or rows i d) (in_rows (drop (i + 1) rows)) rest))

-- a row before which the place lies is the first of those left
pub free-stops : (at count : ℕ) (rows : List (List Area)) (i : ℕ) (d : List Area) → i < length rows → AreRows rows
    → starts_from (at + count) (get_or rows i d) ≡ true → first_free at count (in_rows (drop i rows)) ≡ at
free-stops at count rows i d within each before =
    let is : drop i rows ≡ get_or rows i d ∷ drop (i + 1) rows = drop_more rows i d within in
    let left : AreRows (get_or rows i d ∷ drop (i + 1) rows) = rw is at (AreRows-drop rows i each) in
    rw is (free-in_front at count (get_or rows i d) (in_rows (drop (i + 1) rows)) left.0 before)

pub starts_from-first : (low : ℕ) (xs : List Area) → 0 < length xs → starts_from low xs ≡ leb low (first_of xs)
starts_from-first low [] some = absurd (omega (arith, some))
starts_from-first low (x ∷ xs) some = refl
