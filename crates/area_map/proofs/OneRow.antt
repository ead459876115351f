-- Which gaps are in a block's rows after a change in one of them.
use Rattle.std.proofs.Common.{◌≡◌, ◌∙◌, ℕ, suc, zero, ◌+◌, ◌-◌, ◌*◌, ◌<◌, ◌≤◌, max, List, [], ◌∷◌, ◌++◌}
use Rattle.std.proofs.Common.{length, get_or, take, drop, refl, sym, ap, append-nil, arith, ⊎_elim}
use Rattle.std.proofs.lemmas.Bool.{cases_lt}
use Rattle.std.proofs.lemmas.List.{take-append-drop, take-take, take_all, drop-drop, drop-take, length-append}
use Rattle.iofd_words.specs.declared.rows.Area.{Area}
use Rattle.area_map_rows.specs.Rows.{in_rows, AreRows, end_of, first_of, widest_behind, widest_of}
use Rattle.area_map.specs.Blocks.{IsSameBut, gap_before, rows_of, widest_around}
use Rattle.area_map_rows.proofs.Rows.{in_rows-append}
use Rattle.area_map.proofs.RowsInBlocks.{same_before, same_behind, widest_of-append}

-- ---- the gap before a row

pub gap-none : (place : ℕ) (rows : List (List Area)) → place ≡ 0 → gap_before place rows ≡ 0
gap-none zero [] is = refl
gap-none zero (row ∷ rows) is = refl
gap-none (suc place) rows is = absurd (omega (arith, is))

pub gap-past : (place : ℕ) (rows : List (List Area)) → length rows ≤ place → gap_before place rows ≡ 0
gap-past place [] past = refl
gap-past zero (row ∷ rows) past = refl
gap-past (suc zero) (row ∷ []) past = refl
gap-past (suc zero) (row ∷ next ∷ rows) past = absurd (omega (arith, past))
gap-past (suc (suc place)) (row ∷ rows) past = gap-past (suc place) rows (omega (arith, past))

gap_from : (place : ℕ) (rows : List (List Area)) (d : List Area) → suc place < length rows
    → gap_before (suc place) rows ≡ first_of (get_or rows (suc place) d) - end_of (get_or rows place d) - 1
gap_from place [] d within = absurd (omega (arith, within))
gap_from zero (row ∷ []) d within = absurd (omega (arith, within))
gap_from zero (row ∷ next ∷ rows) d within = refl
gap_from (suc place) (row ∷ rows) d within = gap_from place rows d (omega (arith, within))

pub gap_between : (place : ℕ) (rows : List (List Area)) (d : List Area) → 0 < place → place < length rows
    → gap_before place rows ≡ first_of (get_or rows place d) - end_of (get_or rows (place - 1) d) - 1
gap_between zero rows d some within = absurd (omega (arith, some))
gap_between (suc place) rows d some within =
    let same : suc place - 1 ≡ place = omega arith in
    rw same (gap_from place rows d within)

-- ---- some of the areas have no wider gap than all

behind-front : (last : ℕ) (xs ys : List Area) → widest_behind last xs ≤ widest_behind last (xs ++ ys)
behind-front last [] ys = omega arith
behind-front last (x ∷ xs) ys = let rest = behind-front x.span.last xs ys in omega (arith, rest)

narrow-front : (xs ys : List Area) → widest_of xs ≤ widest_of (xs ++ ys)
narrow-front [] ys = omega arith
narrow-front (x ∷ xs) ys = behind-front x.span.last xs ys

behind-own : (last : ℕ) (xs : List Area) → widest_of xs ≤ widest_behind last xs
behind-own last [] = omega arith
behind-own last (x ∷ xs) = omega arith

behind-rest : (last : ℕ) (xs ys : List Area) → widest_of ys ≤ widest_behind last (xs ++ ys)
behind-rest last [] ys = behind-own last ys
behind-rest last (x ∷ xs) ys = let rest = behind-rest x.span.last xs ys in omega (arith, rest)

narrow-rest : (xs ys : List Area) → widest_of ys ≤ widest_of (xs ++ ys)
narrow-rest [] ys = omega arith
narrow-rest (x ∷ xs) ys = behind-rest x.span.last xs ys

narrow-take : (n : ℕ) (rows : List (List Area)) → widest_of (in_rows (take n rows)) ≤ widest_of (in_rows rows)
narrow-take n rows =
    let parts : in_rows rows ≡ in_rows (take n rows) ++ in_rows (drop n rows) =
    ap in_rows (sym (take-append-drop n rows)) ∙ in_rows-append (take n rows) (drop n rows) in
    rw parts (narrow-front (in_rows (take n rows)) (in_rows (drop n rows)))

narrow-drop : (n : ℕ) (rows : List (List Area)) → widest_of (in_rows (drop n rows)) ≤ widest_of (in_rows rows)
narrow-drop n rows =
    let parts : in_rows rows ≡ in_rows (take n rows) ++ in_rows (drop n rows) =
    ap in_rows (sym (take-append-drop n rows)) ∙ in_rows-append (take n rows) (drop n rows) in
    rw parts (narrow-rest (in_rows (take n rows)) (in_rows (drop n rows)))

-- ---- the gaps of all rows are those at one and those before and behind it

one_row : (row : List Area) → widest_of (in_rows (row ∷ [])) ≡ widest_of row
one_row row = ap widest_of (append-nil row)

first-append : (xs ys : List Area) → 0 < length xs → first_of (xs ++ ys) ≡ first_of xs
first-append [] ys some = absurd (omega (arith, some))
first-append (x ∷ xs) ys some = refl

behind-first : (last : ℕ) (xs : List Area) → 0 < length xs
    → widest_behind last xs ≡ max (first_of xs - last - 1) (widest_of xs)
behind-first last [] some = absurd (omega (arith, some))
behind-first last (x ∷ xs) some = refl

two_rows : (row next : List Area) (rows : List (List Area)) → 0 < length row → 0 < length next
    → widest_of (in_rows (row ∷ next ∷ rows))
    ≡ max (widest_of row) (max (first_of next - end_of row - 1) (widest_of (in_rows (next ∷ rows))))
two_rows row next rows some more =
    let all = widest_of-append row (in_rows (next ∷ rows)) some in
    let long = length-append next (in_rows rows) in
    let first = first-append next (in_rows rows) more in
    let behind = behind-first (end_of row) (in_rows (next ∷ rows)) (omega (arith, long, more)) in
    omega (arith, all, first, behind)

pub around : (place : ℕ) (rows : List (List Area)) → AreRows rows → place < length rows
    → widest_of (in_rows rows) ≤ max
    (max (widest_of (in_rows (take place rows))) (widest_of (in_rows (drop (suc place) rows))))
    (widest_around place rows)
around place [] each within = absurd (omega (arith, within))
around zero (row ∷ []) each within = let own = one_row row in omega (arith, own)
around (suc place) (row ∷ []) each within = absurd (omega (arith, within))
around zero (row ∷ next ∷ rows) each within =
    let both = two_rows row next rows each.0 each.2.0 in
    omega (arith, both)
around (suc zero) (row ∷ next ∷ rows) each within =
    let both = two_rows row next rows each.0 each.2.0 in
    let own = one_row row in
    let rest = around zero (next ∷ rows) each.2 (omega arith) in
    omega (arith, both, own, rest)
around (suc (suc place)) (row ∷ next ∷ rows) each within =
    let both = two_rows row next rows each.0 each.2.0 in
    let front = two_rows row next (take place rows) each.0 each.2.0 in
    let rest = around (suc place) (next ∷ rows) each.2 (omega (arith, within)) in
    omega (arith, both, front, rest)

-- ---- a row has changed

pub changed_row : (before rows : List (List Area)) (place widest : ℕ) → AreRows rows
    → IsSameBut place (place + 1) before rows → widest_of (in_rows before) ≤ widest
    → widest_of (in_rows rows) ≤ max widest (widest_around place rows)
changed_row before rows place widest each same narrow =
    let front = ap (λ (rs : List (List Area)). widest_of (in_rows rs)) same.before in
    let next : place + 1 ≡ suc place = omega arith in
    let rest : widest_of (in_rows (drop (suc place) rows)) ≡ widest_of (in_rows (drop (suc place) before)) =
    ap (λ (n : ℕ). widest_of (in_rows (drop n rows))) (sym next)
    ∙ ap (λ (rs : List (List Area)). widest_of (in_rows rs)) same.behind
    ∙ ap (λ (n : ℕ). widest_of (in_rows (drop n before))) next in
    let front_narrow = narrow-take place before in
    let rest_narrow = narrow-drop (suc place) before in
    ⊎_elim
    (λ (within : place < length rows).
    let all = around place rows each within in
    omega (arith, front, rest, front_narrow, rest_narrow, all, narrow))
    (λ (past : length rows ≤ place).
    let all = ap (λ (rs : List (List Area)). widest_of (in_rows rs)) (take_all place rows past) in
    omega (arith, front, front_narrow, all, narrow)) (cases_lt place (length rows))

-- the rows of its block
pub same_block : (before rows : List (List Area)) (index number place : ℕ) → index ≡ 32 * number + place → place < 32
    → IsSameBut index (index + 1) before rows
    → IsSameBut place (place + 1) (rows_of number before) (rows_of number rows)
same_block before rows index number place is low same =
    let own = same_before (32 * number) place index before rows same.before (omega (arith, is)) in
    let left : 32 ≡ (place + 1) + (31 - place) = omega (arith, low) in
    let next : 32 * number + (place + 1) ≡ index + 1 = omega (arith, is) in
    let front = λ (rs : List (List Area)). take-take place 32 (drop (32 * number) rs) (omega (arith, low)) in
    let behind : (rs : List (List Area)) → drop (place + 1) (rows_of number rs)
    ≡ take (31 - place) (drop (index + 1) rs) =
    λ (rs : List (List Area)).
    ap (λ (n : ℕ). drop (place + 1) (take n (drop (32 * number) rs))) left
    ∙ drop-take (place + 1) (31 - place) (drop (32 * number) rs)
    ∙ ap (take (31 - place)) (drop-drop (place + 1) (32 * number) rs ∙ ap (λ (n : ℕ). drop n rs) next) in
    record {
      before = front rows ∙ own ∙ sym (front before);
      behind = behind rows ∙ ap (take (31 - place)) same.behind ∙ sym (behind before);
    }

-- no row has changed, or one
pub same_one : (before rows : List (List Area)) (from to : ℕ) → to ≤ from + 1 → IsSameBut from to before rows
    → IsSameBut from (from + 1) before rows
same_one before rows from to less same = record {
  before = same.before;
  behind = same_behind (from + 1) to before rows same.behind less;
}
