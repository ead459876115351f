-- Rows of which no two neighbours fill half a row at most.
use Rattle.std.proofs.Common.{◌≡◌, ℕ, suc, zero, ◌+◌, ◌-◌, ◌*◌, ◌<◌, ◌≤◌, List, [], ◌∷◌, ◌++◌, length, get_or, take}
use Rattle.std.proofs.Common.{drop}
use Rattle.std.proofs.Common.{set, map, arith}
use Rattle.std.specs.List.{insert, remove}
use Rattle.std.proofs.lemmas.List.{length-append, length-map}
use Rattle.iofd_words.specs.declared.rows.Area.{Area}
use Rattle.area_map_rows.specs.Rows.{in_rows, AreRows}
use Rattle.area_map.specs.Kept.{AreJoined, AreJoinedBut, FillsHalf}

more_fills : (row bigger : List Area) (rows : List (List Area)) → length row ≤ length bigger → FillsHalf row rows
    → FillsHalf bigger rows
more_fills row bigger [] more fills = tt
more_fills row bigger (next ∷ rows) more fills = omega (arith, more, fills)

-- ---- some of them

take_fills : (row : List Area) (rows : List (List Area)) (n : ℕ) → FillsHalf row rows → FillsHalf row (take n rows)
take_fills row [] zero fills = tt
take_fills row [] (suc n) fills = tt
take_fills row (next ∷ rows) zero fills = tt
take_fills row (next ∷ rows) (suc n) fills = fills

pub joined-take : (rows : List (List Area)) (n : ℕ) → AreJoined rows → AreJoined (take n rows)
joined-take [] zero joined = tt
joined-take [] (suc n) joined = tt
joined-take (row ∷ rows) zero joined = tt
joined-take (row ∷ rows) (suc n) joined = (take_fills row rows n joined.0, joined-take rows n joined.1)

pub joined-drop : (rows : List (List Area)) (n : ℕ) → AreJoined rows → AreJoined (drop n rows)
joined-drop [] zero joined = tt
joined-drop [] (suc n) joined = tt
joined-drop (row ∷ rows) zero joined = joined
joined-drop (row ∷ rows) (suc n) joined = joined-drop rows n joined.1

one_joined : (rows : List (List Area)) → AreJoined (take (suc zero) rows)
one_joined [] = tt
one_joined (row ∷ rows) = (tt, tt)

-- all of them, where those up to one and those from it on are
from_taken : (row : List Area) (rows : List (List Area)) (n : ℕ) → FillsHalf row (take (suc n) rows) → FillsHalf row
    rows
from_taken row [] n fills = tt
from_taken row (next ∷ rows) n fills = fills

pub joined_whole : (rows : List (List Area)) (low : ℕ) → AreJoined (take (suc low) rows) → AreJoined (drop low rows)
    → AreJoined rows
joined_whole [] low front back = tt
joined_whole (row ∷ rows) zero front back = back
joined_whole (row ∷ rows) (suc low) front back =
    (from_taken row rows low front.0, joined_whole rows low front.1 back)

-- the rows before a place stay, and so do those from another on
pub joined_but : (old new : List (List Area)) (from to place : ℕ) → AreJoined old → take from new ≡ take from old
    → drop to new ≡ drop place old → AreJoinedBut (from - 1) to new
joined_but old new zero to place joined before behind = record {
  front = one_joined new;
  back = rw behind (joined-drop old place joined);
}
joined_but old new (suc from) to place joined before behind = record {
  front =
      let less : suc from - 1 ≡ from = omega arith in
      rw (less, before) (joined-take old (suc from) joined);
  back = rw behind (joined-drop old place joined);
}

-- ---- a change of rows that keeps their lengths, or makes one longer

map_fills : (f : Area → Area) (row : List Area) (rows : List (List Area)) → FillsHalf row rows
    → FillsHalf (map f row) (map (map f) rows)
map_fills f row [] fills = tt
map_fills f row (next ∷ rows) fills =
    let one = length-map row f in
    let two = length-map next f in
    omega (arith, one, two, fills)

pub joined-map : (f : Area → Area) (rows : List (List Area)) → AreJoined rows → AreJoined (map (map f) rows)
joined-map f [] joined = tt
joined-map f (row ∷ rows) joined = (map_fills f row rows joined.0, joined-map f rows joined.1)

set_fills : (row : List Area) (rows : List (List Area)) (i : ℕ) (x : List Area) → length (get_or rows i []) ≤ length x
    → FillsHalf row rows → FillsHalf row (set rows i x)
set_fills row [] i x more fills = tt
set_fills row (next ∷ rows) zero x more fills = omega (arith, more, fills)
set_fills row (next ∷ rows) (suc i) x more fills = fills

pub joined-set : (rows : List (List Area)) (i : ℕ) (x : List Area) → length (get_or rows i []) ≤ length x
    → AreJoined rows → AreJoined (set rows i x)
joined-set [] i x more joined = tt
joined-set (row ∷ rows) zero x more joined = (more_fills row x rows more joined.0, joined.1)
joined-set (row ∷ rows) (suc i) x more joined = (
  set_fills row rows i x more joined.0,
  joined-set rows i x more
      joined.1,
)

-- ---- a full row becomes two

first_fills : (upper : List Area) (rows : List (List Area)) → AreRows rows → (0 < length rows → 16 ≤ length upper)
    → FillsHalf upper rows
first_fills upper [] each many = tt
first_fills upper (next ∷ rows) each many = let half = many (omega arith) in omega (arith, half, each.0)

split_fills : (row : List Area) (rows : List (List Area)) (i : ℕ) (lower upper : List Area) → i < length rows
    → 0 < length row → 16 ≤ length lower → FillsHalf row rows → FillsHalf row (insert (set rows i lower) (suc i) upper)
split_fills row [] i lower upper within some half fills = absurd (omega arith)
split_fills row (next ∷ rows) zero lower upper within some half fills = omega (arith, some, half)
split_fills row (next ∷ rows) (suc i) lower upper within some half fills = fills

pub joined-split : (rows : List (List Area)) (i : ℕ) (lower upper : List Area) → i < length rows
    → AreRows (take i rows) → AreRows (drop (suc i) rows) → length lower + length upper ≡ 32 → 16 ≤ length lower
    → (suc i < length rows → 16 ≤ length upper) → AreJoined rows
    → AreJoined (insert (set rows i lower) (suc i) upper)
joined-split [] i lower upper within before behind all half many joined = absurd (omega arith)
joined-split (row ∷ rows) zero lower upper within before behind all half many joined =
    (omega (arith, all), (first_fills upper rows behind (λ some. many (omega (arith, some))), joined.1))
joined-split (row ∷ rows) (suc i) lower upper within before behind all half many joined = (
  split_fills row rows i lower upper (omega arith) before.0 half joined.0,
  joined-split rows i lower upper (omega arith) before.2 behind all half (λ some. many (omega (arith, some))) joined.1,
)

-- ---- two rows become one

abbrev pub rows_joined : List (List Area) → ℕ → List (List Area)
rows_joined rows i = set (remove rows (suc i)) i (get_or rows i [] ++ get_or rows (suc i) [])

join_fills : (row next : List Area) (rows : List (List Area)) (i low : ℕ) → suc i < length (next ∷ rows)
    → FillsHalf row (take (suc low) (next ∷ rows)) → FillsHalf row (take (suc low) (rows_joined (next ∷ rows) i))
join_fills row next [] i low within fills = absurd (omega arith)
join_fills row next (third ∷ rows) zero low within fills =
    let long = length-append next third in
    omega (arith, long, fills)
join_fills row next (third ∷ rows) (suc i) low within fills = fills

pub join_front : (rows : List (List Area)) (i low : ℕ) → low ≤ i → suc i < length rows → AreJoined (take (suc low) rows)
    → AreJoined (take (suc low) (rows_joined rows i))
join_front [] i low order within front = absurd (omega arith)
join_front (row ∷ []) i low order within front = absurd (omega arith)
join_front (row ∷ next ∷ rows) zero zero order within front = (tt, tt)
join_front (row ∷ next ∷ rows) zero (suc low) order within front = absurd (omega arith)
join_front (row ∷ next ∷ rows) (suc i) zero order within front = (tt, tt)
join_front (row ∷ next ∷ rows) (suc i) (suc low) order within front = (
  join_fills row next rows i low (omega arith) front.0,
  join_front (next ∷ rows) i low (omega arith) (omega arith) front.1,
)

pub join_back : (rows : List (List Area)) (i : ℕ) → suc i < length rows → AreJoined (drop (suc i) rows)
    → AreJoined (drop i (rows_joined rows i))
join_back [] i within back = absurd (omega arith)
join_back (row ∷ []) i within back = absurd (omega arith)
join_back (row ∷ next ∷ rows) zero within back =
    let long = length-append row next in
    (more_fills next (row ++ next) rows (omega (arith, long)) back.0, back.1)
join_back (row ∷ next ∷ rows) (suc i) within back = join_back (next ∷ rows) i (omega arith) back

-- two that stay apart
pub apart_back : (rows : List (List Area)) (i : ℕ) → AreJoined (drop (suc i) rows)
    → (suc i < length rows → 16 < length (get_or rows i []) + length (get_or rows (suc i) [])) → AreJoined (drop i rows)
apart_back [] zero back many = tt
apart_back [] (suc i) back many = tt
apart_back (row ∷ []) zero back many = (tt, tt)
apart_back (row ∷ next ∷ rows) zero back many = (many (omega arith), back)
apart_back (row ∷ rows) (suc i) back many = apart_back rows i back (λ within. many (omega (arith, within)))

-- ---- so there are few rows

pub few_rows : (rows : List (List Area)) → AreJoined rows → 17 * length rows ≤ 2 * length (in_rows rows) + 17
few_rows [] joined = omega arith
few_rows (row ∷ []) joined = omega arith
few_rows (row ∷ next ∷ rows) joined =
    let rest = few_rows rows joined.1.1 in
    let one = length-append row (in_rows (next ∷ rows)) in
    let two = length-append next (in_rows rows) in
    omega (arith, rest, one, two, joined.0)
