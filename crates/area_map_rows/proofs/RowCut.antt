-- The areas of one row that lie in a span stand side by side.
use Rattle.std.proofs.Common.{◌≡◌, ℕ, suc, ◌+◌, ◌<◌, ◌≤◌, true, false, leb, ltb, List, [], ◌∷◌, ◌++◌}
use Rattle.std.proofs.Common.{take, drop, refl, sym, ap, arith, ⊎_elim}
use Rattle.std.specs.List.{prefix_len}
use Rattle.std.proofs.lemmas.Bool.{cases_lt}
use Rattle.std.proofs.lemmas.Bool.Decides.{nat_tests}
use Rattle.iofd_words.specs.Bounds.{Bounds}
use Rattle.iofd_words.specs.Span.{lies_in}
use Rattle.iofd_words.specs.declared.rows.Area.{Area}
use Rattle.area_map_rows.specs.Areas.{AreApartFrom, areas_outside}
use Rattle.area_map_rows.proofs.RowsChanged.{outside_between}
use Rattle.area_map_rows.proofs.Within.{filter_from}

-- of those that begin in a span or behind it, the ones that end in it go
outside_ends : (span : Bounds) (low : ℕ) (xs : List Area) → AreApartFrom low xs → span.first ≤ low
    → drop (prefix_len (λ (a : Area). leb a.span.last span.last) xs) xs ≡ areas_outside span xs
outside_ends span low [] apart from = refl
outside_ends span low (x ∷ xs) apart from =
    let above = apart.0 in
    let own = apart.1 in
    ⊎_elim
    (λ (beyond : span.last < x.span.last).
    let none = filter_from (λ a. lies_in a.span span) (x.span.last + 1) xs apart.2
    (λ b after ordered. grind (arith, nat_tests)) in
    let outside : lies_in x.span span ≡ false = grind (arith, nat_tests) in
    let here : prefix_len (λ (a : Area). leb a.span.last span.last) (x ∷ xs) ≡ 0 = grind (arith, nat_tests) in
    rw here (sym (outside_between span (x ∷ xs) tt (rw outside none))))
    (λ (ends : x.span.last ≤ span.last).
    let next : prefix_len (λ (a : Area). leb a.span.last span.last) (x ∷ xs) ≡ suc
    (prefix_len (λ (a : Area). leb a.span.last span.last) xs) = grind (arith, nat_tests) in
    let inside : lies_in x.span span ≡ true = grind (arith, nat_tests) in
    rw (next, inside) (outside_ends span (x.span.last + 1) xs apart.2 (omega (arith, from, above, own))))
    (cases_lt span.last x.span.last)

pub outside_from : (span : Bounds) (low : ℕ) (xs : List Area) (f : ℕ) → AreApartFrom low xs
    → f ≡ prefix_len (λ (a : Area). ltb a.span.first span.first) xs
    → take f xs ++ drop (prefix_len (λ (a : Area). leb a.span.last span.last) (drop f xs))
    (drop f xs) ≡ areas_outside span xs
outside_from span low [] f apart is = rw is refl
outside_from span low (x ∷ xs) f apart is =
    ⊎_elim
    (λ (before : x.span.first < span.first).
    let next : f ≡ suc (prefix_len (λ (a : Area). ltb a.span.first span.first) xs) = grind (arith, nat_tests) in
    let outside : lies_in x.span span ≡ false = grind (arith, nat_tests) in
    rw (next, outside) (ap (λ zs. x ∷ zs) (outside_from span (x.span.last + 1) xs
    (prefix_len (λ (a : Area). ltb a.span.first span.first) xs) apart.2 refl)))
    (λ (inside : span.first ≤ x.span.first).
    let none : f ≡ 0 = grind (arith, nat_tests) in
    rw none (outside_ends span x.span.first (x ∷ xs) (omega arith, apart.1, apart.2) inside))
    (cases_lt x.span.first span.first)
