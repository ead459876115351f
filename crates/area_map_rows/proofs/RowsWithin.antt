-- The areas that reach an address, and those that lie in a span, from the first row on that reaches it.
use Rattle.std.proofs.Common.{◌≡◌, ℕ, suc, ◌+◌, ◌<◌, ◌≤◌, Bool, true, false, leb, ltb, Option, Some, None}
use Rattle.std.proofs.Common.{List, [], ◌∷◌, ◌++◌, length, drop, refl, sym, ap, ◌∙◌, arith, ⊎_elim}
use Rattle.std.specs.List.{filter, prefix_len}
use Rattle.std.proofs.lemmas.Bool.{cases_lt}
use Rattle.std.proofs.lemmas.Bool.Decides.{nat_tests}
use Rattle.iofd_words.specs.Bounds.{Bounds}
use Rattle.iofd_words.specs.Span.{lies_in}
use Rattle.iofd_words.specs.declared.rows.Area.{Area}
use Rattle.area_map_rows.specs.Areas.{AreApartFrom, areas_within}
use Rattle.area_map_rows.specs.Rows.{in_rows, AreRows, end_of, up_to}
use Rattle.area_map_rows.proofs.Kept.{apart-lower}
use Rattle.area_map_rows.proofs.Covers.{reaching_all, reaching_from, drop_behind}
use Rattle.area_map_rows.proofs.Within.{filter_from}
use Rattle.std.proofs.lemmas.List.Elements.{filter-append}
use Rattle.area_map_rows.proofs.Rows.{apart_left, apart_right, end-above, AreRows-drop, apart-drop, first_fails}

-- a test that fails below an address keeps nothing of a row that ends below it
pub filter_below : (p : Area → Bool) (address : ℕ)
    → ((a : Area) → a.span.first ≤ a.span.last → a.span.last < address → p a ≡ false)
    → (low : ℕ) (xs : List Area) → AreApartFrom low xs → end_of xs < address → filter p xs ≡ []
filter_below p address fails low [] apart below = refl
filter_below p address fails low (x ∷ []) apart below = let here = fails x apart.1 below in rw here refl
filter_below p address fails low (x ∷ y ∷ xs) apart below =
    let above = end-above (x.span.last + 1) (y ∷ xs) (omega arith) apart.2 in
    let here = fails x apart.1 (omega (arith, above, below)) in
    rw here (filter_below p address fails (x.span.last + 1) (y ∷ xs) apart.2 below)

-- so it keeps the same of all rows and of the rows from the first on that reaches it
pub filter_rows : (p : Area → Bool) (address : ℕ)
    → ((a : Area) → a.span.first ≤ a.span.last → a.span.last < address → p a ≡ false)
    → (low : ℕ) (rows : List (List Area)) → AreRows rows → AreApartFrom low (in_rows rows)
    → filter p (in_rows (drop (prefix_len (λ (row : List Area). ltb (end_of row) address) rows) rows))
    ≡ filter p (in_rows rows)
filter_rows p address fails low [] each apart = refl
filter_rows p address fails low (row ∷ rows) each apart =
    ⊎_elim
    (λ (below : end_of row < address).
    let test : ltb (end_of row) address ≡ true = grind (arith, nat_tests) in
    let next : prefix_len (λ (r : List Area). ltb (end_of r) address) (row ∷ rows) ≡ suc
    (prefix_len (λ (r : List Area). ltb (end_of r) address) rows) = grind (arith, nat_tests) in
    let rest =
    filter_rows p address fails (end_of row + 1) rows each.2 (apart_right low row (in_rows rows) each.0 apart) in
    let none = filter_below p address fails low row (apart_left low row (in_rows rows) apart) below in
    rw (next, filter-append p row (in_rows rows), none) rest)
    (λ (reached : address ≤ end_of row).
    let here : prefix_len (λ (r : List Area). ltb (end_of r) address) (row ∷ rows) ≡ 0 = grind (arith, nat_tests) in
    rw here refl)
    (cases_lt (end_of row) address)

-- ---- the areas that reach an address

pub reaching_rows : (address : ℕ) (rows others : List (List Area)) (row : List Area) → AreRows rows
    → AreApartFrom 0 (in_rows rows)
    → drop (prefix_len (λ (r : List Area). ltb (end_of r) address) rows) rows ≡ row ∷ others
    → drop (prefix_len (λ (a : Area). ltb a.span.last address) row) row
    ++ in_rows others ≡ filter (λ (a : Area). leb address a.span.last) (in_rows rows)
reaching_rows address rows others row each apart is =
    let rest : AreRows (row ∷ others) =
    rw is at (AreRows-drop rows (prefix_len (λ (r : List Area). ltb (end_of r) address) rows) each) in
    let rest_apart : AreApartFrom 0 (row ++ in_rows others) =
    rw is at (apart-drop 0 rows (prefix_len (λ (r : List Area). ltb (end_of r) address) rows) each apart) in
    let stops = first_fails (λ (r : List Area). ltb (end_of r) address) rows others row is in
    let reached : address ≤ end_of row = grind (arith, nat_tests) in
    let all = reaching_all address (end_of row + 1) (in_rows others)
    (apart_right 0 row (in_rows others) rest.0 rest_apart) (omega (arith, reached)) in
    let own = reaching_from address 0 row (apart_left 0 row (in_rows others) rest_apart) in
    let same : filter (λ (a : Area). leb address a.span.last) (row ++ in_rows others) ≡ filter
    (λ (a : Area). leb address a.span.last) (in_rows rows)
    = rw is at (filter_rows (λ (a : Area). leb address a.span.last) address
    (λ a ordered below. grind (arith, nat_tests)) 0 rows each apart) in
    rw (own, ← same, filter-append (λ (a : Area). leb address a.span.last) row (in_rows others), all) refl

-- where no row reaches it no area does
pub reaching_none : (p : Area → Bool) (address : ℕ)
    → ((a : Area) → a.span.first ≤ a.span.last → a.span.last < address → p a ≡ false)
    → (rows : List (List Area)) → AreRows rows → AreApartFrom 0 (in_rows rows)
    → drop (prefix_len (λ (r : List Area). ltb (end_of r) address) rows) rows ≡ [] → [] ≡ filter p (in_rows rows)
reaching_none p address fails rows each apart none =
    let same = filter_rows p address fails 0 rows each apart in
    rw none at same

-- ---- the areas that lie in a span

pub up_to_none : (last : Option ℕ) → up_to last [] ≡ []
up_to_none None = refl
up_to_none (Some last) = refl

-- from its first address on they are those that end in it
up_to_last : (span : Bounds) (low : ℕ) (xs : List Area) → span.first ≤ low → AreApartFrom low xs
    → up_to (Some span.last) xs ≡ areas_within span xs
up_to_last span low [] from apart = refl
up_to_last span low (x ∷ xs) from apart =
    let low_first = apart.0 in
    let own = apart.1 in
    ⊎_elim
    (λ (beyond : span.last < x.span.last).
    let none = filter_from (λ a. lies_in a.span span) (x.span.last + 1) xs apart.2
    (λ b after ordered. grind (arith, nat_tests)) in
    let test : leb x.span.last span.last ≡ false = grind (arith, nat_tests) in
    let outside : lies_in x.span span ≡ false = grind (arith, nat_tests) in
    rw (outside, test) (sym none))
    (λ (ends : x.span.last ≤ span.last).
    let test : leb x.span.last span.last ≡ true = grind (arith, nat_tests) in
    let inside : lies_in x.span span ≡ true = grind (arith, nat_tests) in
    rw (inside, test) (ap (λ zs. x ∷ zs) (up_to_last span (x.span.last + 1) xs
    (omega (arith, from, low_first, own)) apart.2)))
    (cases_lt span.last x.span.last)

-- those of a row that begin below the span don't lie in it, and what is left begins from its first address on
inside_row : (span : Bounds) (low : ℕ) (row ys : List Area) → 0 < length row → AreApartFrom low (row ++ ys)
    → span.first ≤ end_of row
    → (areas_within span (drop (prefix_len (λ (a : Area). ltb a.span.first span.first) row) row ++ ys)
    ≡ areas_within span (row ++ ys))
    × AreApartFrom span.first (drop (prefix_len (λ (a : Area). ltb a.span.first span.first) row) row ++ ys)
inside_row span low [] ys some apart reached = absurd (omega arith)
inside_row span low (x ∷ []) ys some apart reached =
    ⊎_elim
    (λ (before : x.span.first < span.first).
    let test : ltb x.span.first span.first ≡ true = grind (arith, nat_tests) in
    let outside : lies_in x.span span ≡ false = grind (arith, nat_tests) in
    rw (test, outside) (refl, apart-lower (x.span.last + 1) span.first ys (omega (arith, reached)) apart.2))
    (λ (inside : span.first ≤ x.span.first).
    let test : ltb x.span.first span.first ≡ false = grind (arith, nat_tests) in
    rw test (refl, (inside, apart.1, apart.2)))
    (cases_lt x.span.first span.first)
inside_row span low (x ∷ y ∷ xs) ys some apart reached =
    ⊎_elim
    (λ (before : x.span.first < span.first).
    let test : ltb x.span.first span.first ≡ true = grind (arith, nat_tests) in
    let outside : lies_in x.span span ≡ false = grind (arith, nat_tests) in
    let rest = inside_row span (x.span.last + 1) (y ∷ xs) ys (omega arith) apart.2 reached in
    let next = drop_behind x (y ∷ xs) (prefix_len (λ (a : Area). ltb a.span.first span.first) (y ∷ xs)) in
    rw (test, outside, next) rest)
    (λ (inside : span.first ≤ x.span.first).
    let test : ltb x.span.first span.first ≡ false = grind (arith, nat_tests) in
    rw test (refl, (inside, apart.1, apart.2)))
    (cases_lt x.span.first span.first)

pub within_rows : (span : Bounds) (rows others : List (List Area)) (row : List Area) → AreRows rows
    → AreApartFrom 0 (in_rows rows)
    → drop (prefix_len (λ (r : List Area). ltb (end_of r) span.first) rows) rows ≡ row ∷ others
    → up_to (Some span.last) (drop (prefix_len (λ (a : Area). ltb a.span.first span.first) row) row ++ in_rows others)
    ≡ areas_within span (in_rows rows)
within_rows span rows others row each apart is =
    let rest : AreRows (row ∷ others) =
    rw is at (AreRows-drop rows (prefix_len (λ (r : List Area). ltb (end_of r) span.first) rows) each) in
    let rest_apart : AreApartFrom 0 (row ++ in_rows others) =
    rw is at (apart-drop 0 rows (prefix_len (λ (r : List Area). ltb (end_of r) span.first) rows) each apart) in
    let stops = first_fails (λ (r : List Area). ltb (end_of r) span.first) rows others row is in
    let reached : span.first ≤ end_of row = grind (arith, nat_tests) in
    let inside = inside_row span 0 row (in_rows others) rest.0 rest_apart reached in
    let same : areas_within span (row ++ in_rows others) ≡ areas_within span (in_rows rows)
    = rw is at (filter_rows (λ (a : Area). lies_in a.span span) span.first
    (λ a ordered below. grind (arith, nat_tests)) 0 rows each apart) in
    up_to_last span span.first (drop (prefix_len (λ (a : Area). ltb a.span.first span.first) row) row ++ in_rows others)
    (omega arith) inside.1 ∙ inside.0 ∙ same
