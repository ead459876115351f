-- Areas in rows: where a row begins and ends, and what stands before and behind it.
use Rattle.std.proofs.Common.{◌≡◌, ℕ, suc, zero, ◌+◌, ◌*◌, ◌<◌, ◌≤◌, Bool, true, false, ltb, List, [], ◌∷◌, ◌++◌}
use Rattle.std.proofs.Common.{length, get_or, take, drop, map, refl, sym, ap, ◌∙◌, append_assoc, append-nil, arith}
use Rattle.std.proofs.Common.{⊎_elim}
use Rattle.std.specs.List.{prefix_len}
use Rattle.std.proofs.lemmas.Bool.{cases_Bool, cases_lt}
use Rattle.std.proofs.lemmas.Bool.Decides.{nat_tests}
use Rattle.std.proofs.lemmas.List.Sums.{prefix_len_passes, prefix_len_stops}
use Rattle.std.proofs.lemmas.List.{map-append, take_at, take_all, drop_all, get_or-drop, length-drop}
use Rattle.iofd_words.specs.declared.rows.Area.{Area}
use Rattle.area_map_rows.specs.Areas.{AreApartFrom}
use Rattle.area_map_rows.specs.Rows.{in_rows, AreRows, end_of}
use Rattle.area_map_rows.proofs.Kept.{apart-lower}

-- ---- lists of areas

pub apart_left : (low : ℕ) (xs ys : List Area) → AreApartFrom low (xs ++ ys) → AreApartFrom low xs
apart_left low [] ys apart = tt
apart_left low (x ∷ xs) ys apart = (apart.0, apart.1, apart_left (x.span.last + 1) xs ys apart.2)

-- what follows begins above their end
pub apart_right : (low : ℕ) (xs ys : List Area) → 0 < length xs → AreApartFrom low (xs ++ ys)
    → AreApartFrom (end_of xs + 1) ys
apart_right low [] ys some apart = absurd (omega arith)
apart_right low (x ∷ []) ys some apart = apart.2
apart_right low (x ∷ y ∷ xs) ys some apart = apart_right (x.span.last + 1) (y ∷ xs) ys (omega arith) apart.2

pub end-above : (low : ℕ) (xs : List Area) → 0 < length xs → AreApartFrom low xs → low ≤ end_of xs
end-above low [] some apart = absurd (omega arith)
end-above low (x ∷ []) some apart = omega (arith, apart.0, apart.1)
end-above low (x ∷ y ∷ xs) some apart =
    let rest = end-above (x.span.last + 1) (y ∷ xs) (omega arith) apart.2 in
    omega (arith, apart.0, apart.1, rest)

-- ---- rows

pub in_rows-append : (xs ys : List (List Area)) → in_rows (xs ++ ys) ≡ in_rows xs ++ in_rows ys
in_rows-append [] ys = refl
in_rows-append (x ∷ xs) ys = ap (λ zs. x ++ zs) (in_rows-append xs ys) ∙ sym (append_assoc x (in_rows xs) (in_rows ys))

-- what is done to each row is done to all areas
pub in_rows-map : (h : List Area → List Area) → h [] ≡ [] → ((xs ys : List Area) → h (xs ++ ys) ≡ h xs ++ h ys)
    → (rows : List (List Area)) → in_rows (map h rows) ≡ h (in_rows rows)
in_rows-map h none both [] = sym none
in_rows-map h none both (row ∷ rows) =
    ap (λ zs. h row ++ zs) (in_rows-map h none both rows) ∙ sym (both row (in_rows rows))

pub in_rows-map_map : (f : Area → Area) (rows : List (List Area)) → in_rows (map (map f) rows) ≡ map f (in_rows rows)
in_rows-map_map f rows = in_rows-map (map f) refl (λ xs ys. map-append f xs ys) rows

pub AreRows-drop : (rows : List (List Area)) (k : ℕ) → AreRows rows → AreRows (drop k rows)
AreRows-drop rows zero each = each
AreRows-drop [] (suc k) each = tt
AreRows-drop (row ∷ rows) (suc k) each = AreRows-drop rows k each.2

pub AreRows-take : (rows : List (List Area)) (k : ℕ) → AreRows rows → AreRows (take k rows)
AreRows-take rows zero each = tt
AreRows-take [] (suc k) each = tt
AreRows-take (row ∷ rows) (suc k) each = (each.0, each.1, AreRows-take rows k each.2)

pub AreRows-append : (xs ys : List (List Area)) → AreRows xs → AreRows ys → AreRows (xs ++ ys)
AreRows-append [] ys first second = second
AreRows-append (x ∷ xs) ys first second = (first.0, first.1, AreRows-append xs ys first.2 second)

-- rows whose areas are apart, from the k-th on
pub apart-drop : (low : ℕ) (rows : List (List Area)) (k : ℕ) → AreRows rows → AreApartFrom low (in_rows rows)
    → AreApartFrom low (in_rows (drop k rows))
apart-drop low rows zero each apart = apart
apart-drop low [] (suc k) each apart = apart
apart-drop low (row ∷ rows) (suc k) each apart =
    let above = end-above low row each.0 (apart_left low row (in_rows rows) apart) in
    apart-lower (end_of row + 1) low (in_rows (drop k rows)) (omega (arith, above))
    (apart-drop (end_of row + 1) rows k each.2 (apart_right low row (in_rows rows) each.0 apart))

row_above : (low : ℕ) (rows : List (List Area)) → AreRows rows → AreApartFrom low (in_rows rows)
    → (j : ℕ) (d : List Area) → j < length rows → low ≤ end_of (get_or rows j d)
row_above low [] each apart j d within = absurd (omega arith)
row_above low (row ∷ rows) each apart zero d within = end-above low row each.0 (apart_left low row (in_rows rows) apart)
row_above low (row ∷ rows) each apart (suc j) d within =
    let above = end-above low row each.0 (apart_left low row (in_rows rows) apart) in
    let later =
    row_above (end_of row + 1) rows each.2 (apart_right low row (in_rows rows) each.0 apart) j d (omega arith) in
    omega (arith, above, later)

-- behind those that pass, the first fails
pub first_fails : {X : Type 0} (p : X → Bool) (xs others : List X) (x : X) → drop (prefix_len p xs) xs ≡ x ∷ others
    → p x ≡ false
first_fails p xs others x is =
    let n = prefix_len p xs in
    let at : get_or xs n x ≡ x =
    sym (ap (λ k. get_or xs k x) (omega arith)) ∙ sym (get_or-drop n xs 0 x) ∙ ap (λ ys. get_or ys 0 x) is in
    let long = length-drop n xs in
    let more = ap length is in
    ap p (sym at) ∙ prefix_len_stops p xs x (omega (arith, long, more))

-- no more pass than stand before one that fails
pub prefix_len-below : {X : Type 0} (p : X → Bool) (xs : List X) (i : ℕ) (d : X) → p (get_or xs i d) ≡ false
    → prefix_len p xs ≤ i
prefix_len-below p xs i d fails =
    ⊎_elim (λ (more : i < prefix_len p xs). let passes = prefix_len_passes p xs i d more in cc)
    (λ (fewer : prefix_len p xs ≤ i). fewer) (cases_lt i (prefix_len p xs))

-- a row that ends below the address is one of the first that do
pub rows-below : (address low : ℕ) (rows : List (List Area)) → AreRows rows → AreApartFrom low (in_rows rows)
    → (j : ℕ) (d : List Area) → j < length rows → end_of (get_or rows j d) < address
    → j < prefix_len (λ (row : List Area). ltb (end_of row) address) rows
rows-below address low [] each apart j d within below = absurd (omega arith)
rows-below address low (row ∷ rows) each apart zero d within below =
    let here : prefix_len (λ (r : List Area). ltb (end_of r) address) (row ∷ rows) ≡ suc
    (prefix_len (λ (r : List Area). ltb (end_of r) address) rows) = grind (arith, nat_tests) in
    omega (arith, here)
rows-below address low (row ∷ rows) each apart (suc j) d within below =
    let others = apart_right low row (in_rows rows) each.0 apart in
    let above = row_above (end_of row + 1) rows each.2 others j d (omega arith) in
    let first : end_of row < address = omega (arith, above, below) in
    let here : prefix_len (λ (r : List Area). ltb (end_of r) address) (row ∷ rows) ≡ suc
    (prefix_len (λ (r : List Area). ltb (end_of r) address) rows) = grind (arith, nat_tests) in
    let rest = rows-below address (end_of row + 1) rows each.2 others j d (omega arith) below in
    omega (arith, here, rest)

-- from a place up to which all pass
pub prefix_len-behind : {X : Type 0} (p : X → Bool) (xs : List X) (n : ℕ) → n ≤ prefix_len p xs
    → n + prefix_len p (drop n xs) ≡ prefix_len p xs
prefix_len-behind p xs zero passed = omega arith
prefix_len-behind p [] (suc n) passed = absurd (omega arith)
prefix_len-behind p (x ∷ xs) (suc n) passed =
    ⊎_elim
    (λ (passes : p x ≡ true). let next : prefix_len p (x ∷ xs) ≡ suc (prefix_len p xs) = grind (arith, nat_tests) in
    let rest = prefix_len-behind p xs n (omega (arith, passed, next)) in omega (arith, rest, next))
    (λ (stops : p x ≡ false). let here : prefix_len p (x ∷ xs) ≡ 0 = grind (arith, nat_tests) in absurd
    (omega (arith, passed, here)))
    (cases_Bool (p x))

-- as many parts are passed as of their last rows pass, for a later one passes only where it and those before it are
-- passed
pub parts_passed : (place part n a b c : ℕ) → a ≤ 1 → b ≤ 1 → c ≤ 1 → place ≤ n → (0 < a → place + part ≤ n)
    → (0 < b → place + part * 2 ≤ n) → (0 < c → place + part * 3 ≤ n) → place + part * (a + b + c) ≤ n
parts_passed place part n zero zero zero one two three passed first second third = omega (arith, passed)
parts_passed place part n (suc zero) zero zero one two three passed first second third =
    let far = first (omega arith) in omega (arith, far)
parts_passed place part n zero (suc zero) zero one two three passed first second third =
    let far = second (omega arith) in omega (arith, far)
parts_passed place part n (suc zero) (suc zero) zero one two three passed first second third =
    let far = second (omega arith) in omega (arith, far)
parts_passed place part n zero zero (suc zero) one two three passed first second third =
    let far = third (omega arith) in omega (arith, far)
parts_passed place part n (suc zero) zero (suc zero) one two three passed first second third =
    let far = third (omega arith) in omega (arith, far)
parts_passed place part n zero (suc zero) (suc zero) one two three passed first second third =
    let far = third (omega arith) in omega (arith, far)
parts_passed place part n (suc zero) (suc zero) (suc zero) one two three passed first second third =
    let far = third (omega arith) in omega (arith, far)
parts_passed place part n (suc (suc a)) b c one two three passed first second third = absurd (omega (arith, one))
parts_passed place part n a (suc (suc b)) c one two three passed first second third = absurd (omega (arith, two))
parts_passed place part n a b (suc (suc c)) one two three passed first second third = absurd (omega (arith, three))

-- what stands in a vector of rows after they were written as a slice
pub written_back : (rows new is : List (List Area)) (n : ℕ) → new ≡ is → length is ≡ n
    → take n (new ++ drop (length new) rows) ≡ is
written_back rows new is n same long = take_at new (drop (length new) rows) n (ap length same ∙ long) ∙ same

-- each row changed, once all have been passed
pub map_over_all : (f : List Area → List Area) (xs ys : List (List Area)) (i : ℕ) → length xs ≤ i
    → ys ≡ map f (take i xs) ++ drop i xs → ys ≡ map f xs
map_over_all f xs ys i long is = is ∙ rw (take_all i xs long, drop_all i xs long) (append-nil (map f xs))

-- a row of all rows
pub row-apart : (low : ℕ) (rows : List (List Area)) (i : ℕ) → i < length rows → AreRows rows
    → AreApartFrom low (in_rows rows) → AreApartFrom low (get_or rows i [])
row-apart low [] i within each apart = absurd (omega arith)
row-apart low (row ∷ rows) zero within each apart = apart_left low row (in_rows rows) apart
row-apart low (row ∷ rows) (suc i) within each apart =
    let above = end-above low row each.0 (apart_left low row (in_rows rows) apart) in
    apart-lower (end_of row + 1) low (get_or rows i []) (omega arith)
    (row-apart (end_of row + 1) rows i (omega arith) each.2 (apart_right low row (in_rows rows) each.0 apart))

pub row-few : (rows : List (List Area)) (i : ℕ) → i < length rows → AreRows rows → (0 < length (get_or rows i []))
    × (length (get_or rows i []) < 32)
row-few [] i within each = absurd (omega arith)
row-few (row ∷ rows) zero within each = (each.0, each.1)
row-few (row ∷ rows) (suc i) within each = row-few rows i (omega arith) each.2
