-- Rows of which areas are taken away.
use Rattle.std.proofs.Common.{◌≡◌, ℕ, suc, zero, ◌+◌, ◌-◌, ◌<◌, ◌≤◌, ◌==◌, false, not, List, [], ◌∷◌}
use Rattle.std.proofs.Common.{◌++◌, length, get_or, take, drop, set, map, refl, sym, ap, ◌∙◌, arith}
use Rattle.std.specs.List.{filter, list_any, between}
use Rattle.std.proofs.lemmas.Bool.Decides.{nat_tests}
use Rattle.std.proofs.lemmas.List.{length-append, drop-drop, take-append-drop}
use Rattle.std.proofs.lemmas.List.Edits.{split_between}
use borrow.Rule.Slice.PartMut.{put_mid}
use Rattle.iofd_words.specs.Bounds.{Bounds}
use Rattle.iofd_words.specs.Span.{lies_in}
use Rattle.iofd_words.specs.declared.rows.Area.{Area}
use Rattle.area_map_rows.specs.Areas.{AreKept, areas_outside}
use Rattle.area_map_rows.specs.Rows.{in_rows, AreRows}
use Rattle.area_map_rows.proofs.Kept.{length-filter-le}
use Rattle.std.proofs.lemmas.List.Elements.{filter-append}
use Rattle.area_map_rows.proofs.Rows.{in_rows-append, in_rows-map, AreRows-take, AreRows-drop, AreRows-append}
use Rattle.area_map_rows.proofs.Rows.{apart_left}
use Rattle.area_map_rows.proofs.Rows.{apart-drop}

pub outside_in_rows : (span : Bounds) (rows : List (List Area))
    → in_rows (map (areas_outside span) rows) ≡ areas_outside span (in_rows rows)
outside_in_rows span rows =
    in_rows-map (areas_outside span) refl (λ xs ys. filter-append (λ a. not (lies_in a.span span)) xs ys) rows

-- each row has place for one more area, and may have none
abbrev pub AreFew : List (List Area) → Type 0
AreFew [] = Unit {0}
AreFew (row ∷ rows) = (length row < 32) × AreFew rows

pub few_outside : (span : Bounds) (rows : List (List Area)) → AreRows rows → AreFew (map (areas_outside span) rows)
few_outside span [] each = tt
few_outside span (row ∷ rows) each =
    let fewer = length-filter-le (λ (a : Area). not (lies_in a.span span)) row in
    (omega (arith, each.1), few_outside span rows each.2)

-- rows without areas have no part in all areas
pub nonempty_in_rows : (rows : List (List Area))
    → in_rows (filter (λ (row : List Area). not (length row == 0)) rows) ≡ in_rows rows
nonempty_in_rows [] = refl
nonempty_in_rows ([] ∷ rows) = nonempty_in_rows rows
nonempty_in_rows ((x ∷ row) ∷ rows) =
    let test : (length (x ∷ row) == 0) ≡ false = grind (arith, nat_tests) in
    rw test (ap (λ zs. (x ∷ row) ++ zs) (nonempty_in_rows rows))

pub nonempty_rows : (rows : List (List Area)) → AreFew rows
    → AreRows (filter (λ (row : List Area). not (length row == 0)) rows)
nonempty_rows [] few = tt
nonempty_rows ([] ∷ rows) few = nonempty_rows rows few.1
nonempty_rows ((x ∷ row) ∷ rows) few =
    let test : (length (x ∷ row) == 0) ≡ false = grind (arith, nat_tests) in
    rw test (omega arith, few.0, nonempty_rows rows few.1)

pub none_empty : (rows : List (List Area)) → AreFew rows → list_any (λ (row : List Area). length row == 0) rows ≡ false
    → AreRows rows
none_empty [] few none = tt
none_empty ([] ∷ rows) few none = cc
none_empty ((x ∷ row) ∷ rows) few none =
    let test : (length (x ∷ row) == 0) ≡ false = grind (arith, nat_tests) in
    (omega arith, few.0, none_empty rows few.1 (rw test at none))

few_between : (span : Bounds) (rows : List (List Area)) (from to : ℕ) → AreRows rows
    → AreFew (map (areas_outside span) (between from to rows))
few_between span rows from to each =
    few_outside span (between from to rows) (AreRows-take (drop from rows) (to - from) (AreRows-drop rows from each))

-- rows of which those between have areas left
pub rows_around : (span : Bounds) (rows mid : List (List Area)) (from to : ℕ) → AreRows rows
    → mid ≡ map (areas_outside span) (between from to rows)
    → list_any (λ (row : List Area). length row == 0) mid ≡ false → AreRows (put_mid from (to - from) rows mid)
rows_around span rows mid from to each is none =
    let few : AreFew mid = rw is (few_between span rows from to each) in
    AreRows-append (take from rows) (mid ++ drop (to - from) (drop from rows)) (AreRows-take rows from each)
    (AreRows-append mid (drop (to - from) (drop from rows)) (none_empty mid few none)
    (AreRows-drop (drop from rows) (to - from) (AreRows-drop rows from each)))

length_parts : (xs ys zs : List (List Area))
    → length (in_rows (xs ++ (ys ++ zs))) ≡ length (in_rows xs) + (length (in_rows ys) + length (in_rows zs))
length_parts xs ys zs =
    ap length (in_rows-append xs (ys ++ zs)) ∙ length-append (in_rows xs) (in_rows (ys ++ zs))
    ∙ ap (λ n. length (in_rows xs) + n) (ap length (in_rows-append ys zs) ∙ length-append (in_rows ys) (in_rows zs))

length_whole : (rows : List (List Area)) (from to : ℕ) → from ≤ to
    → length (in_rows rows) ≡ length (in_rows (take from rows))
    + (length (in_rows (between from to rows)) + length (in_rows (drop to rows)))
length_whole rows from to order = ap (λ (rs : List (List Area)). length (in_rows rs)) (split_between rows from to order)
    ∙ length_parts (take from rows) (between from to rows) (drop to rows)

pub length_between : (rows : List (List Area)) (from to : ℕ) → from ≤ to
    → length (in_rows (between from to rows)) ≤ length (in_rows rows)
length_between rows from to order = let whole = length_whole rows from to order in omega (arith, whole)

-- what goes of the rows between goes of all
pub count_around : (rows mid : List (List Area)) (from to n : ℕ) → from ≤ to
    → n + length (in_rows mid) ≡ length (in_rows (between from to rows))
    → n + length (in_rows (put_mid from (to - from) rows mid)) ≡ length (in_rows rows)
count_around rows mid from to n order count =
    let whole = length_whole rows from to order in
    let same : from + (to - from) ≡ to = omega arith in
    let behind : drop (to - from) (drop from rows) ≡ drop to rows =
    drop-drop (to - from) from rows ∙ ap (λ k. drop k rows) same in
    let parts = length_parts (take from rows) mid (drop (to - from) (drop from rows)) in
    let last : length (in_rows (drop (to - from) (drop from rows))) ≡ length (in_rows (drop to rows)) =
    ap (λ (rs : List (List Area)). length (in_rows rs)) behind in
    omega (arith, whole, parts, last, count)

-- one row is exchanged
pub length-set_row : (rows : List (List Area)) (i : ℕ) (row d : List Area) → i < length rows
    → length (in_rows (set rows i row)) + length (get_or rows i d) ≡ length (in_rows rows) + length row
length-set_row [] i row d within = absurd (omega arith)
length-set_row (x ∷ rows) zero row d within =
    let new = length-append row (in_rows rows) in
    let old = length-append x (in_rows rows) in
    omega (arith, new, old)
length-set_row (x ∷ rows) (suc i) row d within =
    let rest = length-set_row rows i row d (omega arith) in
    let new = length-append x (in_rows (set rows i row)) in
    let old = length-append x (in_rows rows) in
    omega (arith, new, old, rest)

-- the next row hasn't changed yet
pub row_ahead : (f : List Area → List Area) (rows : List (List Area)) (i : ℕ) (d : List Area) → i < length rows
    → get_or (map f (take i rows) ++ drop i rows) i d ≡ get_or rows i d
row_ahead f [] i d within = absurd (omega arith)
row_ahead f (row ∷ rows) zero d within = refl
row_ahead f (row ∷ rows) (suc i) d within = row_ahead f rows i d (omega arith)

-- the areas of the rows between are kept as all are
pub kept_between : (rows : List (List Area)) (from to : ℕ) → AreRows rows → AreKept (in_rows rows) → from ≤ to
    → AreKept (in_rows (between from to rows))
kept_between rows from to each kept order =
    let rest = apart-drop 0 rows from each kept.apart in
    let fewer = length_between rows from to order in
    let most = kept.few in
    let parts : in_rows (drop from rows) ≡ in_rows (between from to rows) ++ in_rows (drop (to - from) (drop from rows))
    = ap in_rows (sym (take-append-drop (to - from) (drop from rows)))
    ∙ in_rows-append (between from to rows) (drop (to - from) (drop from rows)) in
    record {
      apart = apart_left 0 (in_rows (between from to rows))
          (in_rows (drop (to - from) (drop from rows))) (rw parts at rest);
      few = omega (arith, fewer, most);
    }
