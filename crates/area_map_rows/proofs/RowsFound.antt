-- The first area that reaches an address stands in the first row that reaches it.
use Rattle.std.proofs.Common.{◌≡◌, ℕ, suc, ◌-◌, ◌<◌, ◌≤◌, Bool, true, false, leb, ltb, Option, Some, None, List, []}
use Rattle.std.proofs.Common.{◌∷◌, ◌++◌, length, drop, refl, sym, ap, ◌∙◌, arith, ⊎_elim}
use Rattle.std.specs.List.{filter, find, prefix_len, slice_get}
use Rattle.std.proofs.lemmas.Bool.{cases_lt, cases_Bool}
use Rattle.std.proofs.lemmas.Bool.Decides.{nat_tests}
use Rattle.iofd_words.specs.declared.rows.Area.{Area}
use Rattle.area_map_rows.specs.Areas.{AreApartFrom}
use Rattle.area_map_rows.specs.Rows.{in_rows, AreRows, end_of}
use Rattle.area_map_rows.proofs.RowsWithin.{filter_rows}
use Rattle.area_map_rows.proofs.Rows.{first_fails}

-- the end of the last area
pub end_of-last : (xs : List Area) (a : Area) → slice_get xs (length xs - 1) ≡ Some a → end_of xs ≡ a.span.last
end_of-last [] a is = cc
end_of-last (x ∷ []) a is = let same : Some x ≡ Some a = is in cc
end_of-last (x ∷ y ∷ xs) a is =
    let less : length (x ∷ y ∷ xs) - 1 ≡ suc (length (y ∷ xs) - 1) = omega arith in
    end_of-last (y ∷ xs) a (rw less at is)

find_here : (address : ℕ) (xs ys : List Area) → 0 < length xs → address ≤ end_of xs
    → find (λ (a : Area). leb address a.span.last) (xs ++ ys) ≡ find (λ (a : Area). leb address a.span.last) xs
find_here address [] ys some reached = absurd (omega arith)
find_here address (x ∷ []) ys some reached =
    let passes : leb address x.span.last ≡ true = grind (arith, nat_tests) in rw passes refl
find_here address (x ∷ y ∷ xs) ys some reached =
    let rest = find_here address (y ∷ xs) ys (omega arith) reached in
    ⊎_elim (λ (ended : x.span.last < address). let fails : leb address x.span.last ≡ false =
    grind (arith, nat_tests) in rw fails rest)
    (λ (here : address ≤ x.span.last). let passes : leb address x.span.last ≡ true =
    grind (arith, nat_tests) in rw passes refl)
    (cases_lt x.span.last address)

-- the first one
abbrev first : List Area → Option Area
first [] = None
first (x ∷ xs) = Some x

find-filter : (p : Area → Bool) (xs : List Area) → find p xs ≡ first (filter p xs)
find-filter p [] = refl
find-filter p (x ∷ xs) = let rest = find-filter p xs in ⊎_elim (λ (yes : p x ≡ true). rw yes refl)
    (λ (fails : p x ≡ false). rw fails rest) (cases_Bool (p x))

-- in all rows the same is found as in those from the first on that reaches it
found_from : (address low : ℕ) (rows : List (List Area)) → AreRows rows → AreApartFrom low (in_rows rows)
    → find (λ (a : Area). leb address a.span.last)
    (in_rows (drop (prefix_len (λ (row : List Area). ltb (end_of row) address) rows) rows)) ≡ find
    (λ (a : Area). leb address a.span.last) (in_rows rows)
found_from address low rows each apart =
    let p = λ (a : Area). leb address a.span.last in
    find-filter p _ ∙ ap first (filter_rows p address (λ a ordered below. grind (arith, nat_tests)) low rows each apart)
    ∙ sym (find-filter p (in_rows rows))

pub found_in_row : (address : ℕ) (rows others : List (List Area)) (row : List Area) → AreRows rows
    → AreApartFrom 0 (in_rows rows) → AreRows (row ∷ others)
    → drop (prefix_len (λ (r : List Area). ltb (end_of r) address) rows) rows ≡ row ∷ others
    → find (λ (a : Area). leb address a.span.last) row ≡ find (λ (a : Area). leb address a.span.last) (in_rows rows)
found_in_row address rows others row each apart rest is =
    let same = rw is at (found_from address 0 rows each apart) in
    let stops = first_fails (λ (r : List Area). ltb (end_of r) address) rows others row is in
    let reached : address ≤ end_of row = grind (arith, nat_tests) in
    sym (find_here address row (in_rows others) rest.0 reached) ∙ same

pub found_nowhere : (address : ℕ) (rows : List (List Area)) → AreRows rows → AreApartFrom 0 (in_rows rows)
    → drop (prefix_len (λ (r : List Area). ltb (end_of r) address) rows) rows ≡ []
    → None ≡ find (λ (a : Area). leb address a.span.last) (in_rows rows)
found_nowhere address rows each apart none = rw none at (found_from address 0 rows each apart)
