-- Where a page table stands among all, from where it stands among those of its file.
use Rattle.std.proofs.Common.{◌≡◌, ℕ, suc, ◌+◌, ◌≤◌, ◌<◌, Bool, true, false, cond, ◌&&◌, not, eqb, ltb, Some, None}
use Rattle.std.proofs.Common.{List, [], ◌∷◌, length, refl, ap, arith, ⊎_elim}
use Rattle.std.specs.List.{position, position_or_len}
use Rattle.std.proofs.lemmas.Bool.{cases_Bool}
use Rattle.std.proofs.lemmas.Bool.Decides.{nat_tests}
use Rattle.iofd_rows.proofs.Inserted.{place_found, place_none}
use Rattle.iofd_words.specs.Objects.{comes_before}
use Rattle.iofd_words.specs.declared.rows.Object.{Object}
use Rattle.page_table_set.specs.PageTables.{Hwpt, are_by_file}
use Rattle.page_table_set.proofs.ByFile.{below, by_file_parts, file_of, none_below, none_of, of_file}

fewer_of : (file : ℕ) (tables : List Hwpt) → length (of_file file tables) ≤ length tables
fewer_of file [] = omega arith
fewer_of file (h ∷ tables) =
    let rest = fewer_of file tables in
    ⊎_elim
    (λ (is : eqb (file_of h) file ≡ true). rw is (omega (arith, rest)))
    (λ (other : eqb (file_of h) file ≡ false). rw other (omega (arith, rest)))
    (cases_Bool (eqb (file_of h) file))

pub behind_below : (file : ℕ) (tables : List Hwpt)
    → below file tables + length (of_file file tables) ≤ length tables
behind_below file [] = omega arith
behind_below file (h ∷ tables) =
    let rest = behind_below file tables in
    ⊎_elim
    (λ (lower : ltb (file_of h) file ≡ true).
    let other : eqb (file_of h) file ≡ false = grind (arith, nat_tests) in
    rw (lower, other) (omega (arith, rest)))
    (λ (reached : ltb (file_of h) file ≡ false).
    let all = fewer_of file (h ∷ tables) in
    let none : below file (h ∷ tables) ≡ 0 = rw reached refl in
    omega (arith, all, none))
    (cases_Bool (ltb (file_of h) file))

-- ---- one of the file that passes a test

module _ (file : ℕ) (q : Hwpt → Bool) where
  abbrev passes : Hwpt → Bool
  passes h = eqb (file_of h) file && q h

  own_list : (h : Hwpt) (tables : List Hwpt) → eqb (file_of h) file ≡ true
      → of_file file (h ∷ tables) ≡ h ∷ of_file file tables
  own_list h tables is = ap (λ (b : Bool). cond b (h ∷ of_file file tables) (of_file file tables)) is

  same_head : (h : Hwpt) (xs ys : List Hwpt)
      → (position_or_len passes ys < length ys → position_or_len passes xs ≡ position_or_len passes ys)
      → position_or_len passes (h ∷ ys) < suc (length ys)
      → position_or_len passes (h ∷ xs) ≡ position_or_len passes (h ∷ ys)
  same_head h xs ys rest within = by_test (passes h) within
    where
      by_test : (b : Bool) → cond (not b) (1 + position_or_len passes ys) 0 < suc (length ys)
          → cond (not b) (1 + position_or_len passes xs) 0 ≡ cond (not b) (1 + position_or_len passes ys) 0
      by_test true within = refl
      by_test false within = let same = rest (omega (arith, within)) in omega (arith, same)

  none_head : (h : Hwpt) (xs ys : List Hwpt)
      → (position_or_len passes ys ≡ length ys → position_or_len passes xs ≡ length xs)
      → position_or_len passes (h ∷ ys) ≡ suc (length ys) → position_or_len passes (h ∷ xs) ≡ suc (length xs)
  none_head h xs ys rest at = by_test (passes h) at
    where
      by_test : (b : Bool) → cond (not b) (1 + position_or_len passes ys) 0 ≡ suc (length ys)
          → cond (not b) (1 + position_or_len passes xs) 0 ≡ suc (length xs)
      by_test true at = absurd (omega (arith, at))
      by_test false at = let same = rest (omega (arith, at)) in omega (arith, same)

  found_at : (tables : List Hwpt) → are_by_file tables ≡ true
      → position_or_len passes (of_file file tables) < length (of_file file tables)
      → position_or_len passes tables ≡ below file tables + position_or_len passes (of_file file tables)
  found_at [] rising within = absurd (omega (arith, within))
  found_at (h ∷ tables) rising within =
      let parts = by_file_parts h tables rising in
      ⊎_elim
      (λ (lower : ltb (file_of h) file ≡ true).
      let other : eqb (file_of h) file ≡ false = grind (arith, nat_tests) in
      let rest = found_at tables parts.1 (rw other at within) in
      rw (lower, other) (omega (arith, rest)))
      (λ (reached : ltb (file_of h) file ≡ false).
      let first : below file (h ∷ tables) ≡ 0 = rw reached refl in
      ⊎_elim
      (λ (is : eqb (file_of h) file ≡ true).
      let next : below file tables ≡ 0 = none_below file (file_of h) tables parts.0 (grind (arith, nat_tests)) in
      let own = own_list h tables is in
      let long = ap (λ (list : List Hwpt). length list) own in
      let place = ap (λ (list : List Hwpt). position_or_len passes list) own in
      let head = same_head h tables (of_file file tables)
      (λ (few : position_or_len passes (of_file file tables) < length (of_file file tables)).
      let rest = found_at tables parts.1 few in omega (arith, rest, next))
      (omega (arith, within, long, place)) in
      omega (arith, first, head, place))
      (λ (other : eqb (file_of h) file ≡ false).
      let none : of_file file tables ≡ [] = none_of file (file_of h) tables parts.0 (grind (arith, nat_tests)) in
      let all : of_file file (h ∷ tables) ≡ [] = rw other none in
      let long = ap (λ (list : List Hwpt). length list) all in
      absurd (omega (arith, within, long)))
      (cases_Bool (eqb (file_of h) file)))
      (cases_Bool (ltb (file_of h) file))

  none_at : (tables : List Hwpt) → position_or_len passes (of_file file tables) ≡ length (of_file file tables)
      → position_or_len passes tables ≡ length tables
  none_at [] at = refl
  none_at (h ∷ tables) at =
      ⊎_elim
      (λ (is : eqb (file_of h) file ≡ true).
      let own = own_list h tables is in
      let long = ap (λ (list : List Hwpt). length list) own in
      let place = ap (λ (list : List Hwpt). position_or_len passes list) own in
      none_head h tables (of_file file tables) (none_at tables) (omega (arith, at, long, place)))
      (λ (other : eqb (file_of h) file ≡ false).
      let rest = none_at tables (rw other at at) in rw other (omega (arith, rest)))
      (cases_Bool (eqb (file_of h) file))

  pub place_of : (tables : List Hwpt) (k : ℕ) → are_by_file tables ≡ true
      → position (λ h. eqb (file_of h) file && q h) (of_file file tables) ≡ Some k
      → (position (λ h. eqb (file_of h) file && q h) tables ≡ Some (below file tables + k))
      × (below file tables + k < length tables)
  place_of tables k rising found =
      let at = place_found passes (of_file file tables) k found in
      let all = found_at tables rising at.1 in
      let few = behind_below file tables in
      let within : below file tables + k < length tables = omega (arith, at.0, at.1, few) in
      let here : position_or_len passes tables ≡ below file tables + k = omega (arith, all, at.0) in
      let test : ltb (below file tables + k) (length tables) ≡ true = grind (arith, nat_tests) in
      (rw (here, test) refl, within)

  pub no_place : (tables : List Hwpt)
      → position (λ h. eqb (file_of h) file && q h) (of_file file tables) ≡ None
      → position (λ h. eqb (file_of h) file && q h) tables ≡ None
  no_place tables none =
      let all = none_at tables (place_none passes (of_file file tables) none) in
      let test : ltb (length tables) (length tables) ≡ false = grind (arith, nat_tests) in
      rw (all, test) refl

-- ---- one that comes after an object of the file

abbrev pub is_after : Object → Hwpt → Bool
is_after object h = comes_before object h.object

module _ (object : Object) where
  abbrev file : ℕ
  file = object.file.0

  head_after : (h : Hwpt) (xs ys : List Hwpt)
      → position_or_len (is_after object) xs ≡ position_or_len (is_after object) ys
      → position_or_len (is_after object) (h ∷ xs) ≡ position_or_len (is_after object) (h ∷ ys)
  head_after h xs ys rest = ap (λ (n : ℕ). cond (not (is_after object h)) (1 + n) 0) rest

  pub place_after : (tables : List Hwpt) → are_by_file tables ≡ true
      → position_or_len (is_after object) tables
      ≡ below object.file.0 tables + position_or_len (is_after object) (of_file object.file.0 tables)
  place_after [] rising = refl
  place_after (h ∷ tables) rising =
      let parts = by_file_parts h tables rising in
      let rest = place_after tables parts.1 in
      ⊎_elim
      (λ (lower : ltb (file_of h) file ≡ true).
      let other : eqb (file_of h) file ≡ false = grind (arith, nat_tests) in
      let before : comes_before object h.object ≡ false = grind (arith, nat_tests) in
      rw (lower, other, before) (omega (arith, rest)))
      (λ (reached : ltb (file_of h) file ≡ false).
      let first : below file (h ∷ tables) ≡ 0 = rw reached refl in
      ⊎_elim
      (λ (is : eqb (file_of h) file ≡ true).
      let next : below file tables ≡ 0 = none_below file (file_of h) tables parts.0 (grind (arith, nat_tests)) in
      let own : of_file file (h ∷ tables) ≡ h ∷ of_file file tables =
      ap (λ (b : Bool). cond b (h ∷ of_file file tables) (of_file file tables)) is in
      let place = ap (λ (list : List Hwpt). position_or_len (is_after object) list) own in
      let head = head_after h tables (of_file file tables) (omega (arith, rest, next)) in
      omega (arith, first, head, place))
      (λ (other : eqb (file_of h) file ≡ false).
      let none : of_file file tables ≡ [] = none_of file (file_of h) tables parts.0 (grind (arith, nat_tests)) in
      let all : of_file file (h ∷ tables) ≡ [] = rw other none in
      let place = ap (λ (list : List Hwpt). position_or_len (is_after object) list) all in
      let after : comes_before object h.object ≡ true = grind (arith, nat_tests) in
      let here : position_or_len (is_after object) (h ∷ tables) ≡ 0 = rw after refl in
      omega (arith, first, place, here))
      (cases_Bool (eqb (file_of h) file)))
      (cases_Bool (ltb (file_of h) file))
