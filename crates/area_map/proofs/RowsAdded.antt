-- An area added in the row where it belongs, and a row that is made two.
use Rattle.std.proofs.Common.{◌≡◌, ℕ, suc, zero, ◌+◌, ◌-◌, ◌<◌, ◌≤◌, min, true, false, leb, ltb, List, [], ◌∷◌, ◌++◌}
use Rattle.std.proofs.Common.{length, get_or, take, drop, set, refl, sym, ap, ◌∙◌, append_assoc, arith, ⊎_elim}
use Rattle.std.specs.List.{insert, remove, prefix_len}
use Rattle.std.proofs.lemmas.Bool.{cases_lt}
use Rattle.std.proofs.lemmas.Bool.Decides.{nat_tests}
use Rattle.std.proofs.lemmas.List.Folds.{list_any-append}
use Rattle.std.proofs.lemmas.List.{append-nil, take-append-drop, get_or_default, get_or-set_same, take-set, drop-set-lt}
use Rattle.std.proofs.lemmas.List.{length-set, length-take-le, length-drop, length-append}
use Rattle.iofd_words.specs.Bounds.{Bounds}
use Rattle.iofd_words.specs.Span.{meets}
use Rattle.iofd_words.specs.declared.rows.Area.{Area}
use Rattle.iofd_words.specs.Areas.{areas_meet}
use Rattle.area_map_rows.specs.Areas.{AreApartFrom, with_area}
use Rattle.area_map_rows.specs.Rows.{in_rows, AreRows, end_of}
use Rattle.area_map_rows.proofs.Added.{length-with_area}
use Rattle.area_map_rows.proofs.Rows.{row-few, apart_left, apart_right, end-above, AreRows-take, AreRows-drop}
use Rattle.area_map_rows.proofs.Rows.{written_back}

pub meet_left : (span : Bounds) (xs ys : List Area) → areas_meet span (xs ++ ys) ≡ false → areas_meet span xs ≡ false
meet_left span xs ys alone =
    let both = list_any-append (λ (a : Area). meets a.span span) xs ys in grind (arith, nat_tests)

pub meet_right : (span : Bounds) (xs ys : List Area) → areas_meet span (xs ++ ys) ≡ false → areas_meet span ys ≡ false
meet_right span xs ys alone =
    let both = list_any-append (λ (a : Area). meets a.span span) xs ys in grind (arith, nat_tests)

-- behind areas that end below it
with_area-behind : (a : Area) (low : ℕ) (xs ys : List Area) → AreApartFrom low xs → end_of xs < a.span.first
    → with_area a (xs ++ ys) ≡ xs ++ with_area a ys
with_area-behind a low [] ys apart below = refl
with_area-behind a low (x ∷ []) ys apart below =
    let own : x.span.first ≤ x.span.last = apart.1 in
    let test : ltb a.span.first x.span.first ≡ false = grind (arith, nat_tests) in
    rw test refl
with_area-behind a low (x ∷ y ∷ xs) ys apart below =
    let own : x.span.first ≤ x.span.last = apart.1 in
    let above = end-above (x.span.last + 1) (y ∷ xs) (omega arith) apart.2 in
    let test : ltb a.span.first x.span.first ≡ false = grind (arith, nat_tests) in
    rw test (ap (λ zs. x ∷ zs) (with_area-behind a (x.span.last + 1) (y ∷ xs) ys apart.2 below))

-- among areas of which the last ends behind its beginning
with_area-among : (a : Area) (low : ℕ) (xs ys : List Area) → 0 < length xs → AreApartFrom low xs
    → a.span.first ≤ a.span.last → areas_meet a.span xs ≡ false → a.span.first ≤ end_of xs
    → with_area a (xs ++ ys) ≡ with_area a xs ++ ys
with_area-among a low [] ys some apart ordered alone reached = absurd (omega arith)
with_area-among a low (x ∷ []) ys some apart ordered alone reached =
    let own : x.span.first ≤ x.span.last = apart.1 in
    let test : ltb a.span.first x.span.first ≡ true = grind (arith, nat_tests) in
    rw test refl
with_area-among a low (x ∷ y ∷ xs) ys some apart ordered alone reached =
    let own : x.span.first ≤ x.span.last = apart.1 in
    ⊎_elim
    (λ (before : a.span.first < x.span.first).
    let test : ltb a.span.first x.span.first ≡ true = grind (arith, nat_tests) in
    rw test refl)
    (λ (behind : x.span.first ≤ a.span.first).
    let test : ltb a.span.first x.span.first ≡ false = grind (arith, nat_tests) in
    let others : areas_meet a.span (y ∷ xs) ≡ false = meet_right a.span (x ∷ []) (y ∷ xs) alone in
    rw test (ap (λ zs. x ∷ zs) (with_area-among a (x.span.last + 1) (y ∷ xs) ys (omega arith) apart.2
    ordered others reached)))
    (cases_lt a.span.first x.span.first)

-- an area that is added in the row where it belongs is added among all areas
pub added_in_row : (a : Area) (low : ℕ) (rows : List (List Area)) (i : ℕ) → 0 < length rows → AreRows rows
    → AreApartFrom low (in_rows rows) → a.span.first ≤ a.span.last
    → areas_meet a.span (in_rows rows) ≡ false
    → i ≡ min (prefix_len (λ (row : List Area). ltb (end_of row) a.span.first) rows) (length rows - 1)
    → in_rows (set rows i (with_area a (get_or rows i []))) ≡ with_area a (in_rows rows)
added_in_row a low [] i some each apart ordered alone place = absurd (omega arith)
added_in_row a low (row ∷ []) zero some each apart ordered alone place =
    rw (append-nil row, append-nil (with_area a row)) refl
added_in_row a low (row ∷ []) (suc i) some each apart ordered alone place = absurd (omega arith)
added_in_row a low (row ∷ next ∷ rows) zero some each apart ordered alone place =
    let own = apart_left low row (in_rows (next ∷ rows)) apart in
    let reached : a.span.first ≤ end_of row = grind (arith, nat_tests) in
    sym (with_area-among a low row (in_rows (next ∷ rows)) each.0 own ordered
    (meet_left a.span row (in_rows (next ∷ rows)) alone) reached)
added_in_row a low (row ∷ next ∷ rows) (suc i) some each apart ordered alone place =
    let own = apart_left low row (in_rows (next ∷ rows)) apart in
    let others = apart_right low row (in_rows (next ∷ rows)) each.0 apart in
    let below : end_of row < a.span.first = grind (arith, nat_tests) in
    let later : i ≡ min (prefix_len (λ (row : List Area). ltb (end_of row) a.span.first) (next ∷ rows))
    (length (next ∷ rows) - 1) = grind (arith, nat_tests) in
    let rest = added_in_row a (end_of row + 1) (next ∷ rows) i (omega arith) each.2 others ordered
    (meet_right a.span row (in_rows (next ∷ rows)) alone) later in
    ap (λ zs. row ++ zs) rest ∙ sym (with_area-behind a low row (in_rows (next ∷ rows)) own below)

pub row-alone : (span : Bounds) (rows : List (List Area)) (i : ℕ) → i < length rows
    → areas_meet span (in_rows rows) ≡ false → areas_meet span (get_or rows i []) ≡ false
row-alone span [] i within alone = absurd (omega arith)
row-alone span (row ∷ rows) zero within alone = meet_left span row (in_rows rows) alone
row-alone span (row ∷ rows) (suc i) within alone =
    row-alone span rows i (omega arith) (meet_right span row (in_rows rows) alone)

pub AreRows-set : (rows : List (List Area)) (i : ℕ) (row : List Area) → AreRows rows → 0 < length row → length row < 32
    → AreRows (set rows i row)
AreRows-set [] i row each some few = tt
AreRows-set (x ∷ rows) zero row each some few = (some, few, each.2)
AreRows-set (x ∷ rows) (suc i) row each some few = (each.0, each.1, AreRows-set rows i row each.2 some few)

-- a row in two parts
pub in_rows-split : (rows : List (List Area)) (i n : ℕ) → i < length rows
    → in_rows (insert (set rows i (take n (get_or rows i []))) (suc i) (drop n (get_or rows i []))) ≡ in_rows rows
in_rows-split [] i n within = absurd (omega arith)
in_rows-split (row ∷ rows) zero n within =
    sym (append_assoc (take n row) (drop n row) (in_rows rows)) ∙ ap (λ zs. zs ++ in_rows rows) (take-append-drop n row)
in_rows-split (row ∷ rows) (suc i) n within = ap (λ zs. row ++ zs) (in_rows-split rows i n (omega arith))

pub AreRows-split : (rows : List (List Area)) (i : ℕ) (lower upper : List Area) → i < length rows
    → AreRows (take i rows) → AreRows (drop (suc i) rows) → 0 < length lower → length lower < 32 → 0 < length upper
    → length upper < 32
    → AreRows (insert (set rows i lower) (suc i) upper)
AreRows-split [] i lower upper within before behind some few some_too few_too = absurd (omega arith)
AreRows-split (row ∷ rows) zero lower upper within before behind some few some_too few_too =
    (some, few, (some_too, few_too, behind))
AreRows-split (row ∷ rows) (suc i) lower upper within before behind some few some_too few_too =
    (before.0, before.1, AreRows-split rows i lower upper (omega arith) before.2 behind some few some_too few_too)

-- ---- what a row has after an area was added to it

-- the vector of the rows after the area was added in their slice
pub back_with : (a : Area) (rows new : List (List Area)) (i n : ℕ) → new ≡ set rows i (with_area a (get_or rows i []))
    → length rows ≡ n
    → take n (new ++ drop (length new) rows) ≡ set rows i (with_area a (get_or rows i []))
back_with a rows new i n same long = written_back rows new (set rows i (with_area a (get_or rows i []))) n same
    (length-set rows i (with_area a (get_or rows i [])) ∙ long)

pub length-added : (a : Area) (rows : List (List Area)) (i : ℕ) (row : List Area) → i < length rows
    → length (with_area a (get_or rows i row)) ≡ length (get_or rows i []) + 1
length-added a rows i row within =
    length-with_area a (get_or rows i row) ∙ ap (λ (r : List Area). length r + 1) (get_or_default rows i row [] within)

pub full_row : (a : Area) (rows : List (List Area)) (i : ℕ) → i < length rows → AreRows rows
    → leb 32 (length (get_or rows i []) + 1) ≡ true
    → length (get_or (set rows i (with_area a (get_or rows i []))) i []) ≡ 32
full_row a rows i within each full =
    let few = (row-few rows i within each).1 in
    let at = get_or-set_same rows i (with_area a (get_or rows i [])) [] within in
    let more = length-added a rows i [] within in
    let all : length (get_or rows i []) + 1 ≡ 32 = grind (arith, nat_tests) in
    ap length at ∙ more ∙ all

pub added_row : (a : Area) (rows : List (List Area)) (i : ℕ) → i < length rows → AreRows rows
    → leb 32 (length (get_or rows i []) + 1) ≡ false
    → AreRows (set rows i (with_area a (get_or rows i [])))
added_row a rows i within each more =
    let longer = length-added a rows i [] within in
    let few : length (with_area a (get_or rows i [])) < 32 = grind (arith, nat_tests) in
    AreRows-set rows i (with_area a (get_or rows i [])) each (omega (arith, longer)) few

pub rows-before : (rows : List (List Area)) (i : ℕ) (row : List Area) → AreRows rows → AreRows (take i (set rows i row))
rows-before rows i row each = rw (take-set rows i row) (AreRows-take rows i each)

pub rows-behind : (rows : List (List Area)) (i : ℕ) (row : List Area) → AreRows rows
    → AreRows (drop (i + 1) (set rows i row))
rows-behind rows i row each = rw (drop-set-lt (i + 1) rows i row (omega arith)) (AreRows-drop rows (i + 1) each)

-- ---- a full row in two parts

pub parts_in_rows : (rows : List (List Area)) (i n : ℕ) → i < length rows
    → in_rows (insert (set rows i (take n (get_or rows i []))) (i + 1) (drop n (get_or rows i []))) ≡ in_rows rows
parts_in_rows rows i n within = let next : i + 1 ≡ suc i = omega arith in rw next (in_rows-split rows i n within)

pub parts_are_rows : (rows : List (List Area)) (i n : ℕ) → i < length rows → length (get_or rows i []) ≡ 32 → 0 < n
    → n < 32 → AreRows (take i rows) → AreRows (drop (i + 1) rows)
    → AreRows (insert (set rows i (take n (get_or rows i []))) (i + 1) (drop n (get_or rows i [])))
parts_are_rows rows i n within full some few before behind =
    let next : i + 1 ≡ suc i = omega arith in
    let lower = length-take-le n (get_or rows i []) (omega (arith, full, few)) in
    let upper = length-drop n (get_or rows i []) in
    rw next (AreRows-split rows i (take n (get_or rows i [])) (drop n (get_or rows i [])) within
    before (rw next at behind)
    (omega (arith, lower, some)) (omega (arith, lower, few)) (omega (arith, upper, full, few))
    (omega (arith, upper, full, some)))

-- ---- two rows that become one

pub in_rows-join : (rows : List (List Area)) (i : ℕ) → i + 1 < length rows
    → in_rows (set (remove rows (i + 1)) i (get_or rows i [] ++ get_or rows (i + 1) [])) ≡ in_rows rows
in_rows-join [] i within = absurd (omega arith)
in_rows-join (row ∷ []) i within = absurd (omega arith)
in_rows-join (row ∷ next ∷ rows) zero within = append_assoc row next (in_rows rows)
in_rows-join (row ∷ next ∷ rows) (suc i) within =
    let behind : suc i + 1 ≡ suc (i + 1) = omega arith in
    rw behind (ap (λ zs. row ++ zs) (in_rows-join (next ∷ rows) i (omega arith)))

pub AreRows-join : (rows : List (List Area)) (i : ℕ) → i + 1 < length rows
    → length (get_or rows i []) + length (get_or rows (i + 1) []) ≤ 16 → AreRows rows
    → AreRows (set (remove rows (i + 1)) i (get_or rows i [] ++ get_or rows (i + 1) []))
AreRows-join [] i within few each = absurd (omega arith)
AreRows-join (row ∷ []) i within few each = absurd (omega arith)
AreRows-join (row ∷ next ∷ rows) zero within few each =
    let both = length-append row next in
    (omega (arith, both, each.0), omega (arith, both, few), each.2.2)
AreRows-join (row ∷ next ∷ rows) (suc i) within few each =
    let behind : suc i + 1 ≡ suc (i + 1) = omega arith in
    rw behind (each.0, each.1, AreRows-join (next ∷ rows) i (omega arith) (rw behind at few) each.2)
