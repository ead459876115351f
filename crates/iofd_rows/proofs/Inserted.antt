-- A list of rows with one more, before the first that it comes before: where that is, and what is found in the list.
use Rattle.std.proofs.Common.{◌≡◌, ℕ, suc, ◌+◌, ◌<◌, ◌≤◌, Bool, true, false, cond, ◌||◌, not, ltb, Some, None, List, []}
use Rattle.std.proofs.Common.{◌∷◌, length, map, refl, ap, sym, ◌∙◌, arith}
use Rattle.std.specs.List.{count_by, filter, find, insert, list_all, list_any, position, position_or_len}
use Rattle.std.proofs.lemmas.Bool.Decides.{nat_tests}
use Rattle.std.proofs.lemmas.List.Sums.{prefix_len-le-length}
use Rattle.iofd_words.specs.Sorted.{inserted}
use Rattle.iofd_rows.proofs.Bools.{and_true, both_true, or_false, swapped}
use Rattle.iofd_rows.proofs.PageCounts.{count-cons}

-- ---- the first row that passes a test

first_is : (n length place : ℕ) → cond (ltb n length) (Some n) None ≡ Some place → (n ≡ place) × (n < length)
first_is n length place found = by_test (ltb n length) refl found
  where
    by_test : (b : Bool) → ltb n length ≡ b → cond b (Some n) None ≡ Some place → (n ≡ place) × (n < length)
    by_test true is found = (cc, grind (arith, nat_tests))
    by_test false is found = absurd cc

none_is : (n length : ℕ) → n ≤ length → cond (ltb n length) (Some n) None ≡ None → n ≡ length
none_is n length within none = by_test (ltb n length) refl none
  where
    by_test : (b : Bool) → ltb n length ≡ b → cond b (Some n) None ≡ None → n ≡ length
    by_test true is none = cc
    by_test false is none = grind (arith, nat_tests)

module _ {T : Type 0} (p : T → Bool) (rows : List T) where
  -- where one is found
  pub place_found : (place : ℕ) → position p rows ≡ Some place
      → (position_or_len p rows ≡ place) × (position_or_len p rows < length rows)
  place_found place found = first_is (position_or_len p rows) (length rows) place found

  -- and where none is
  pub place_none : position p rows ≡ None → position_or_len p rows ≡ length rows
  place_none none =
      none_is (position_or_len p rows) (length rows) (prefix_len-le-length (λ (r : T). not (p r)) rows) none

insert_behind : {T : Type 0} (first : T) (rows : List T) (n : ℕ) (row : T)
    → insert (first ∷ rows) (1 + n) row ≡ first ∷ insert rows n row
insert_behind first rows n row = let next : 1 + n ≡ suc n = omega arith in rw next refl

module _ {T : Type 0} (comes_before : T → T → Bool) where
  -- ---- where one more is put

  pub placed : (row : T) (rows : List T)
      → insert rows (position_or_len (comes_before row) rows) row ≡ inserted comes_before row rows
  placed row [] = refl
  placed row (r ∷ rows) = by_order (comes_before row r) refl (placed row rows)
    where
      by_order : (b : Bool) → comes_before row r ≡ b
          → insert rows (position_or_len (comes_before row) rows) row ≡ inserted comes_before row rows
          → insert (r ∷ rows) (position_or_len (comes_before row) (r ∷ rows)) row
          ≡ inserted comes_before row (r ∷ rows)
      by_order true is rest = rw is refl
      by_order false is rest = rw (is, insert_behind r rows (position_or_len (comes_before row) rows) row)
          (ap (λ (others : List T). r ∷ others) rest)

  -- ---- what is said of all

  pub any-inserted : (p : T → Bool) (row : T) (rows : List T)
      → list_any p (inserted comes_before row rows) ≡ (p row || list_any p rows)
  any-inserted p row [] = refl
  any-inserted p row (r ∷ rows) = by_order (comes_before row r) (any-inserted p row rows)
    where
      by_order : (b : Bool) → list_any p (inserted comes_before row rows) ≡ (p row || list_any p rows)
          → list_any p (cond b (row ∷ r ∷ rows) (r ∷ inserted comes_before row rows))
          ≡ (p row || list_any p (r ∷ rows))
      by_order true rest = refl
      by_order false rest = rw rest (swapped (p row) (p r) (list_any p rows))

  pub all-inserted : (p : T → Bool) (row : T) (rows : List T) → p row ≡ true → list_all p rows ≡ true
      → list_all p (inserted comes_before row rows) ≡ true
  all-inserted p row [] here all = both_true _ _ here refl
  all-inserted p row (r ∷ rows) here all =
      let parts = and_true (p r) (list_all p rows) all in
      by_order (comes_before row r) (both_true _ _ here all)
      (both_true _ _ parts.0 (all-inserted p row rows here parts.1))
    where
      by_order : (b : Bool) → list_all p (row ∷ r ∷ rows) ≡ true
          → list_all p (r ∷ inserted comes_before row rows) ≡ true
          → list_all p (cond b (row ∷ r ∷ rows) (r ∷ inserted comes_before row rows)) ≡ true
      by_order true first later = first
      by_order false first later = later

  pub count-inserted : (p : T → Bool) (row : T) (rows : List T)
      → count_by p (inserted comes_before row rows) ≡ cond (p row) 1 0 + count_by p rows
  count-inserted p row [] = count-cons p row []
  count-inserted p row (r ∷ rows) = by_order (comes_before row r) (count-inserted p row rows)
    where
      by_order : (b : Bool) → count_by p (inserted comes_before row rows) ≡ cond (p row) 1 0 + count_by p rows
          → count_by p (cond b (row ∷ r ∷ rows) (r ∷ inserted comes_before row rows))
          ≡ cond (p row) 1 0 + count_by p (r ∷ rows)
      by_order true rest = count-cons p row (r ∷ rows)
      by_order false rest =
          let here = count-cons p r (inserted comes_before row rows) in
          let before = count-cons p r rows in
          omega (arith, rest, here, before)

  -- ---- what is found

  -- one that fails a test is passed over
  pub find-inserted : (p : T → Bool) (row : T) (rows : List T) → p row ≡ false
      → find p (inserted comes_before row rows) ≡ find p rows
  find-inserted p row [] fails = rw fails refl
  find-inserted p row (r ∷ rows) fails = by_order (comes_before row r) (find-inserted p row rows fails)
    where
      by_order : (b : Bool) → find p (inserted comes_before row rows) ≡ find p rows
          → find p (cond b (row ∷ r ∷ rows) (r ∷ inserted comes_before row rows)) ≡ find p (r ∷ rows)
      by_order true rest = rw fails refl
      by_order false rest = ap (cond (p r) (Some r)) rest

  pub filter-inserted : (p : T → Bool) (row : T) (rows : List T) → p row ≡ false
      → filter p (inserted comes_before row rows) ≡ filter p rows
  filter-inserted p row [] fails = rw fails refl
  filter-inserted p row (r ∷ rows) fails = by_order (comes_before row r) (filter-inserted p row rows fails)
    where
      by_order : (b : Bool) → filter p (inserted comes_before row rows) ≡ filter p rows
          → filter p (cond b (row ∷ r ∷ rows) (r ∷ inserted comes_before row rows)) ≡ filter p (r ∷ rows)
      by_order true rest = rw fails refl
      by_order false rest = ap (λ (kept : List T). cond (p r) (r ∷ kept) kept) rest

  -- one that passes is found where no other does
  pub found-inserted : (p : T → Bool) (row : T) (rows : List T) → p row ≡ true → list_any p rows ≡ false
      → find p (inserted comes_before row rows) ≡ Some row
  found-inserted p row [] passes none = rw passes refl
  found-inserted p row (r ∷ rows) passes none =
      let parts = or_false (p r) (list_any p rows) none in
      by_order (comes_before row r) parts.0 (found-inserted p row rows passes parts.1)
    where
      by_order : (b : Bool) → p r ≡ false → find p (inserted comes_before row rows) ≡ Some row
          → find p (cond b (row ∷ r ∷ rows) (r ∷ inserted comes_before row rows)) ≡ Some row
      by_order true other rest = rw passes refl
      by_order false other rest = rw other rest

-- ---- rows in the order of a part of each

module _ {S T : Type 0} (part : S → T) (comes_before : T → T → Bool) where
  abbrev before : S → S → Bool
  before row r = comes_before (part row) (part r)

  pub map-inserted : (row : S) (rows : List S)
      → map part (inserted before row rows) ≡ inserted comes_before (part row) (map part rows)
  map-inserted row [] = refl
  map-inserted row (r ∷ rows) = by_order (before row r) (map-inserted row rows)
    where
      by_order : (b : Bool) → map part (inserted before row rows) ≡ inserted comes_before (part row) (map part rows)
          → map part (cond b (row ∷ r ∷ rows) (r ∷ inserted before row rows))
          ≡ cond b (part row ∷ part r ∷ map part rows) (part r ∷ inserted comes_before (part row) (map part rows))
      by_order true rest = refl
      by_order false rest = ap (λ (others : List T). part r ∷ others) rest
