-- The areas that meet a span are those that reach it, up to where the one ends that holds its last address.
use Rattle.std.proofs.Common.{◌≡◌, ℕ, ◌+◌, ◌<◌, ◌≤◌, Bool, true, false, ◌&&◌, cond, leb, ltb, Some, List, [], ◌∷◌}
use Rattle.std.proofs.Common.{◌++◌, drop, refl, sym, ap, ◌∙◌, arith, ⊎_elim}
use Rattle.std.specs.List.{filter, prefix_len}
use Rattle.std.proofs.lemmas.Bool.{cases_Bool, cases_lt}
use Rattle.std.proofs.lemmas.Bool.Decides.{nat_tests}
use Rattle.iofd_words.specs.Bounds.{Bounds}
use Rattle.iofd_words.specs.declared.rows.Area.{Area}
use Rattle.area_map_rows.specs.Areas.{AreApartFrom, areas_meeting, end_from}
use Rattle.area_map_rows.specs.Rows.{in_rows, AreRows, end_of, up_to}
use Rattle.area_map_rows.proofs.Kept.{apart-filter}
use Rattle.area_map_rows.proofs.RowsWithin.{reaching_rows}
use Rattle.area_map_rows.proofs.Within.{filter_from}

-- it ends at the address or after it
end-above : (address : ℕ) (xs : List Area) → address ≤ end_from address xs
end-above address [] = omega arith
end-above address (x ∷ xs) =
    ⊎_elim
    (λ (before : x.span.last < address).
    let test : leb address x.span.last ≡ false = grind (arith, nat_tests) in
    rw test (end-above address xs))
    (λ (ends : address ≤ x.span.last).
    let test : leb address x.span.last ≡ true = grind (arith, nat_tests) in
    rw test (by_begin (leb x.span.first address) ends))
    (cases_lt x.span.last address)
  where
    by_begin : (b : Bool) → address ≤ x.span.last → address ≤ cond b x.span.last address
    by_begin true ends = ends
    by_begin false ends = omega arith

-- none that begins behind an address ends up to it
none_up_to : (last low : ℕ) (xs : List Area) → last < low → AreApartFrom low xs → up_to (Some last) xs ≡ []
none_up_to last low [] behind apart = refl
none_up_to last low (x ∷ xs) behind apart =
    let first = apart.0 in
    let ordered = apart.1 in
    let test : leb x.span.last last ≡ false = grind (arith, nat_tests) in
    rw test refl

-- those up to that end are those that begin at the address or before it
up_to_end : (address low : ℕ) (xs : List Area) → AreApartFrom low xs
    → up_to (Some (end_from address xs)) xs ≡ filter (λ (a : Area). leb a.span.first address) xs
up_to_end address low [] apart = refl
up_to_end address low (x ∷ xs) apart =
    let ordered = apart.1 in
    let none = filter_from (λ (a : Area). leb a.span.first address) (x.span.last + 1) xs apart.2 in
    ⊎_elim
    (λ (before : x.span.last < address).
    let later : leb address x.span.last ≡ false = grind (arith, nat_tests) in
    let begins : leb x.span.first address ≡ true = grind (arith, nat_tests) in
    let above = end-above address xs in
    let within : leb x.span.last (end_from address xs) ≡ true = grind (arith, nat_tests) in
    let rest = ap (λ ys. x ∷ ys) (up_to_end address (x.span.last + 1) xs apart.2) in
    let end : end_from address (x ∷ xs) ≡ end_from address xs = rw later refl in
    ap (λ (e : ℕ). up_to (Some e) (x ∷ xs)) end ∙ rw (begins, within) rest)
    (λ (ends : address ≤ x.span.last).
    let here : leb address x.span.last ≡ true = grind (arith, nat_tests) in
    let rest = none (λ b after right. grind (arith, nat_tests)) in
    ⊎_elim
    (λ (behind : address < x.span.first).
    let begins : leb x.span.first address ≡ false = grind (arith, nat_tests) in
    let beyond : leb x.span.last address ≡ false = grind (arith, nat_tests) in
    let end : end_from address (x ∷ xs) ≡ address = rw (here, begins) refl in
    ap (λ (e : ℕ). up_to (Some e) (x ∷ xs)) end ∙ rw (begins, beyond) (sym rest))
    (λ (holds : x.span.first ≤ address).
    let begins : leb x.span.first address ≡ true = grind (arith, nat_tests) in
    let own : leb x.span.last x.span.last ≡ true = grind (arith, nat_tests) in
    let end : end_from address (x ∷ xs) ≡ x.span.last = rw (here, begins) refl in
    ap (λ (e : ℕ). up_to (Some e) (x ∷ xs)) end ∙ rw (begins, own, rest)
    (ap (λ ys. x ∷ ys) (none_up_to x.span.last (x.span.last + 1) xs (omega arith) apart.2)))
    (cases_lt address x.span.first))
    (cases_lt x.span.last address)

-- what passes two tests passes one of what passes the other
filter_both : (p q : Area → Bool) (xs : List Area) → filter p (filter q xs) ≡ filter (λ a. p a && q a) xs
filter_both p q [] = refl
filter_both p q (x ∷ xs) =
    let rest = filter_both p q xs in
    ⊎_elim
    (λ (passes : q x ≡ true).
    ⊎_elim
    (λ (both : p x ≡ true). rw (passes, both) (ap (λ ys. x ∷ ys) rest))
    (λ (one : p x ≡ false). rw (passes, one) rest)
    (cases_Bool (p x)))
    (λ (fails : q x ≡ false). rw (fails, and_false (p x)) rest)
    (cases_Bool (q x))
  where
    and_false : (b : Bool) → (b && false) ≡ false
    and_false true = refl
    and_false false = refl

pub meeting_rows : (span : Bounds) (rows others : List (List Area)) (row : List Area) → AreRows rows
    → AreApartFrom 0 (in_rows rows)
    → drop (prefix_len (λ (r : List Area). ltb (end_of r) span.first) rows) rows ≡ row ∷ others
    → up_to (Some (end_from span.last
    (drop (prefix_len (λ (a : Area). ltb a.span.last span.first) row) row ++ in_rows others)))
    (drop (prefix_len (λ (a : Area). ltb a.span.last span.first) row) row ++ in_rows others)
    ≡ areas_meeting span (in_rows rows)
meeting_rows span rows others row each apart is =
    let reaches = λ (a : Area). leb span.first a.span.last in
    let begins = λ (a : Area). leb a.span.first span.last in
    ap (λ (xs : List Area). up_to (Some (end_from span.last xs)) xs)
    (reaching_rows span.first rows others row each apart is)
    ∙ up_to_end span.last 0 (filter reaches (in_rows rows)) (apart-filter reaches 0 (in_rows rows) apart)
    ∙ filter_both begins reaches (in_rows rows)
