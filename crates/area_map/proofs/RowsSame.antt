-- Which rows a change leaves as they are.
use Rattle.std.proofs.Common.{◌≡◌, ◌∙◌, ◌==◌, ℕ, suc, zero, ◌+◌, ◌-◌, ◌<◌, ◌≤◌, false, not, List, [], ◌∷◌, ◌++◌}
use Rattle.std.proofs.Common.{length, set, take, drop, refl, sym, ap, arith}
use Rattle.std.specs.List.{filter, insert, remove}
use Rattle.std.proofs.lemmas.Bool.Decides.{nat_tests}
use Rattle.std.proofs.lemmas.List.{drop_all, drop-set-lt, length-append, length-drop, length-set, length-take}
use Rattle.std.proofs.lemmas.List.{length-take-le, take_at, take-append-drop, take-append-le, take-set, take-take}
use Rattle.std.proofs.lemmas.List.Elements.{filter-append}
use Rattle.std.proofs.lemmas.Slice.{take-put_mid_below, drop-put_mid}
use borrow.Rule.Slice.PartMut.{put_mid}
use Rattle.iofd_words.specs.declared.rows.Area.{Area}
use Rattle.area_map_rows.specs.Rows.{AreRows}
use Rattle.area_map_rows.proofs.Rows.{AreRows-drop}
use Rattle.area_map.specs.Blocks.{IsSameBut}

pub same_less : (m n : ℕ) (xs ys : List (List Area)) → m ≤ n → take n xs ≡ take n ys → take m xs ≡ take m ys
same_less m n xs ys less same = sym (take-take m n xs less) ∙ ap (take m) same ∙ take-take m n ys less

-- behind all rows
pub same_past : (n : ℕ) (xs ys : List (List Area)) → length xs ≤ n → length ys ≤ n → drop n ys ≡ drop n xs
same_past n xs ys few fewer = drop_all n ys fewer ∙ sym (drop_all n xs few)

-- the vector of the rows after they were written as a slice
pub slice_back : (rows new : List (List Area)) (n : ℕ) → length new ≡ n → take n (new ++ drop (length new) rows) ≡ new
slice_back rows new n long = take_at new (drop (length new) rows) n long

pub same_set : (rows : List (List Area)) (i : ℕ) (row : List Area) → IsSameBut i (i + 1) rows (set rows i row)
same_set rows i row = record {
  before = take-set rows i row;
  behind = drop-set-lt (i + 1) rows i row (omega arith);
}

pub same_mid : (rows mid : List (List Area)) (from to : ℕ) → from ≤ to → to ≤ length rows → length mid ≡ to - from
    → IsSameBut from to rows (put_mid from (to - from) rows mid)
same_mid rows mid from to order within long = record {
  before = take-put_mid_below from (to - from) rows mid from (omega arith) (omega arith);
  behind = drop-put_mid from (to - from) rows mid to (omega arith) (omega arith) long;
}

-- rows without areas go, but none of those that haven't changed
same_filled : (n : ℕ) (rows new : List (List Area)) → AreRows rows → take n new ≡ take n rows
    → take n (filter (λ (row : List Area). not (length row == 0)) new) ≡ take n rows
same_filled zero rows new each same = refl
same_filled (suc n) [] [] each same = refl
same_filled (suc n) [] (x ∷ new) each same = cc
same_filled (suc n) (row ∷ rows) [] each same = cc
same_filled (suc n) (row ∷ rows) (x ∷ new) each same =
    let first : x ≡ row = cc in
    let rest : take n new ≡ take n rows = cc in
    let some : 0 < length x = rw first each.0 in
    let test : (length x == 0) ≡ false = grind (arith, nat_tests) in
    let others = same_filled n rows new each.2 rest in
    rw test (cc)

filled-length : (rows : List (List Area)) → length (filter (λ (row : List Area). not (length row == 0)) rows)
    ≤ length rows
filled-length [] = omega arith
filled-length ([] ∷ rows) = let rest = filled-length rows in omega (arith, rest)
filled-length ((x ∷ row) ∷ rows) =
    let rest = filled-length rows in
    let test : (length (x ∷ row) == 0) ≡ false = grind (arith, nat_tests) in
    rw test (omega (arith, rest))

pub same_dropped : (from count : ℕ) (rows new : List (List Area)) → AreRows rows → length rows ≤ count
    → length new ≤ count → take from new ≡ take from rows
    → IsSameBut from count rows (filter (λ (row : List Area). not (length row == 0)) new)
same_dropped from count rows new each few fewer same =
    let less = filled-length new in
    record {
      before = same_filled from rows new each same;
      behind = same_past count rows (filter (λ (row : List Area). not (length row == 0)) new) few
          (omega (arith, less, fewer));
    }

-- those from a place on stay, at the end
filled_all : (rows : List (List Area)) → AreRows rows → filter (λ (row : List Area). not (length row == 0)) rows ≡ rows
filled_all [] each = refl
filled_all (row ∷ rows) each =
    let some = each.0 in
    let test : (length row == 0) ≡ false = grind (arith, nat_tests) in
    rw test (ap (λ zs. row ∷ zs) (filled_all rows each.2))

pub filled_parts : (n : ℕ) (rows new : List (List Area)) → AreRows rows → drop n new ≡ drop n rows
    → filter (λ (row : List Area). not (length row == 0)) new
    ≡ filter (λ (row : List Area). not (length row == 0)) (take n new) ++ drop n rows
filled_parts n rows new each behind =
    let filled = λ (row : List Area). not (length row == 0) in
    ap (filter filled) (sym (take-append-drop n new)) ∙ filter-append filled (take n new) (drop n new)
    ∙ ap (λ zs. filter filled (take n new) ++ zs)
    (ap (filter filled) behind ∙ filled_all (drop n rows) (AreRows-drop rows n each))

pub filled_count : (n : ℕ) (rows new : List (List Area)) → AreRows rows → drop n new ≡ drop n rows
    → length (filter (λ (row : List Area). not (length row == 0)) new)
    ≡ length (filter (λ (row : List Area). not (length row == 0)) (take n new)) + (length rows - n)
filled_count n rows new each behind =
    let front = filter (λ (row : List Area). not (length row == 0)) (take n new) in
    ap length (filled_parts n rows new each behind) ∙ length-append front (drop n rows)
    ∙ ap (λ k. length front + k) (length-drop n rows)

-- and so do those before one
pub filled_front : (from to : ℕ) (rows new : List (List Area)) → AreRows rows → take from new ≡ take from rows
    → from ≤ to → from ≤ length rows
    → from ≤ length (filter (λ (row : List Area). not (length row == 0)) (take to new))
filled_front from to rows new each same order within =
    let front = filter (λ (row : List Area). not (length row == 0)) (take to new) in
    let kept = same_filled from rows (take to new) each (take-take from to new order ∙ same) in
    let whole = length-take from front in
    let long = ap length kept ∙ length-take-le from rows within in
    omega (arith, whole, long)

-- two rows become one
pub before_join : (rows : List (List Area)) (i : ℕ) (row : List Area) → i + 1 < length rows
    → take i (set (remove rows (i + 1)) i row) ≡ take i rows
before_join rows i row within =
    let long = length-take-le (i + 1) rows (omega arith) in
    take-set (remove rows (i + 1)) i row
    ∙ take-append-le i (take (i + 1) rows) (drop (suc (i + 1)) rows) (omega (arith, long))
    ∙ take-take i (i + 1) rows (omega arith)

-- a row becomes two
pub before_split : (rows : List (List Area)) (i : ℕ) (lower upper : List Area) → i < length rows
    → take i (insert (set rows i lower) (i + 1) upper) ≡ take i rows
before_split rows i lower upper within =
    let long = length-take-le (i + 1) (set rows i lower) (omega (arith, length-set rows i lower)) in
    take-append-le i (take (i + 1) (set rows i lower)) (upper ∷ drop (i + 1) (set rows i lower)) (omega (arith, long))
    ∙ take-take i (i + 1) (set rows i lower) (omega arith) ∙ take-set rows i lower
