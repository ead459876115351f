-- What is found in a list after rows came or went, and what holds of each row.
use Rattle.std.proofs.Common.{◌≡◌, Bool, true, false, cond, ◌&&◌, ◌||◌, not, Some, List, [], ◌∷◌, map, refl}
use Rattle.std.specs.List.{filter, find, list_all, list_any}
use Rattle.iofd_words.specs.Objects.{comes_before, with_object}
use Rattle.iofd_words.specs.declared.rows.Object.{Object}
use Rattle.iofd_rows.proofs.Bools.{or_false, and_true, both_true}
use Rattle.iofd_rows.proofs.Inserted.{find-inserted}

-- ---- each row

pub all_weaker : {X : Type 0} (p q : X → Bool) (xs : List X) → ((x : X) → p x ≡ true → q x ≡ true)
    → list_all p xs ≡ true → list_all q xs ≡ true
all_weaker p q [] weaker all = refl
all_weaker p q (x ∷ xs) weaker all =
    let parts = and_true (p x) (list_all p xs) all in
    both_true _ _ (weaker x parts.0) (all_weaker p q xs weaker parts.1)

pub all_filter : {X : Type 0} (p q : X → Bool) (xs : List X) → list_all p xs ≡ true → list_all p (filter q xs) ≡ true
all_filter p q [] all = refl
all_filter p q (x ∷ xs) all =
    let parts = and_true (p x) (list_all p xs) all in
    kept (q x) parts.0 (all_filter p q xs parts.1)
  where
    kept : (b : Bool) → p x ≡ true → list_all p (filter q xs) ≡ true
        → list_all p (cond b (x ∷ filter q xs) (filter q xs)) ≡ true
    kept true here rest = both_true _ _ here rest
    kept false here rest = rest

pub all_map : {X Y : Type 0} (p : Y → Bool) (q : X → Bool) (h : X → Y) (xs : List X)
    → ((x : X) → q x ≡ true → p (h x) ≡ true) → list_all q xs ≡ true → list_all p (map h xs) ≡ true
all_map p q h [] weaker all = refl
all_map p q h (x ∷ xs) weaker all =
    let parts = and_true (q x) (list_all q xs) all in
    both_true _ _ (weaker x parts.0) (all_map p q h xs weaker parts.1)

-- ---- the first row that passes

pub find-with_object : (p : Object → Bool) (object : Object) (objects : List Object) → p object ≡ false
    → find p (with_object object objects) ≡ find p objects
find-with_object = find-inserted comes_before

-- rows that don't pass may go
pub find-filter : {X : Type 0} (p q : X → Bool) (xs : List X) → list_any (λ x. p x && not (q x)) xs ≡ false
    → find p (filter q xs) ≡ find p xs
find-filter p q [] keeps = refl
find-filter p q (x ∷ xs) keeps =
    let parts = or_false (p x && not (q x)) (list_any (λ y. p y && not (q y)) xs) keeps in
    by_tests (p x) (q x) refl parts.0 (find-filter p q xs parts.1)
  where
    by_tests : (a b : Bool) → p x ≡ a → (a && not b) ≡ false → find p (filter q xs) ≡ find p xs
        → find p (cond b (x ∷ filter q xs) (filter q xs)) ≡ cond a (Some x) (find p xs)
    by_tests true true is here rest = rw is refl
    by_tests true false is here rest = cc
    by_tests false true is here rest = rw is rest
    by_tests false false is here rest = rest

-- no row is both
pub none_both : {X : Type 0} (p q : X → Bool) (xs : List X) → ((x : X) → p x ≡ true → q x ≡ true)
    → list_any (λ x. p x && not (q x)) xs ≡ false
none_both p q [] keeps = refl
none_both p q (x ∷ xs) keeps = rw (none_both p q xs keeps) (by_test (p x) (q x) (keeps x))
  where
    by_test : (a b : Bool) → (a ≡ true → b ≡ true) → ((a && not b) || false) ≡ false
    by_test true true keep = refl
    by_test true false keep = let is = keep refl in cc
    by_test false b keep = refl

-- what is found holds as each row does, and passes
pub found_passes : {X : Type 0} (p q : X → Bool) (xs : List X) (x : X) → list_all p xs ≡ true → find q xs ≡ Some x
    → (p x ≡ true) × (q x ≡ true)
found_passes p q [] x all found = cc
found_passes p q (y ∷ xs) x all found =
    let parts = and_true (p y) (list_all p xs) all in
    by_test (q y) refl parts.0 found (λ later. found_passes p q xs x parts.1 later)
  where
    by_test : (b : Bool) → q y ≡ b → p y ≡ true → cond b (Some y) (find q xs) ≡ Some x
        → (find q xs ≡ Some x → (p x ≡ true) × (q x ≡ true)) → (p x ≡ true) × (q x ≡ true)
    by_test true passes here found later = let same : y ≡ x = cc in (rw same at here, rw same at passes)
    by_test false passes here found later = later found
