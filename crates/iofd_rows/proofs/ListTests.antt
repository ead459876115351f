-- Tests of all rows and of some row, and what filters keep.
use Rattle.std.proofs.Common.{◌≡◌, suc, Bool, true, false, cond, ◌&&◌, ◌||◌, not, List, [], ◌∷◌, Contains, refl, ap}
use Rattle.std.proofs.Common.{arith}
use Rattle.std.specs.List.{filter, list_all, list_any}
use Rattle.iofd_rows.proofs.Bools.{or_false, and_true, both_true}

-- ---- what a list contains

pub contains_first : {X : Type 0} (x : X) (xs : List X) → Contains (x ∷ xs) x
contains_first x xs = (0, omega arith, refl)

pub contains_later : {X : Type 0} (x y : X) (xs : List X) → Contains xs x → Contains (y ∷ xs) x
contains_later x y xs (k, within, is) = (suc k, omega (arith, within), is)

-- ---- tests joined

pub or_left : (a b : Bool) → a ≡ true → (a || b) ≡ true
or_left a b is = rw is refl

pub or_right : (a b : Bool) → b ≡ true → (a || b) ≡ true
or_right true b is = refl
or_right false b is = is

pub false_else : (a : Bool) → (a ≡ true → ⊥) → a ≡ false
false_else true never = absurd (never refl)
false_else false never = refl

-- each true where the other is
pub alike : (a b : Bool) → (a ≡ true → b ≡ true) → (b ≡ true → a ≡ true) → a ≡ b
alike true b to from = let is = to refl in cc
alike false true to from = from refl
alike false false to from = refl

-- ---- some row

pub any_weaker : {X : Type 0} (p q : X → Bool) (xs : List X) → ((x : X) → p x ≡ true → q x ≡ true)
    → list_any p xs ≡ true → list_any q xs ≡ true
any_weaker p q [] weaker any = any
any_weaker p q (x ∷ xs) weaker any = by_test (p x) refl any (any_weaker p q xs weaker)
  where
    by_test : (b : Bool) → p x ≡ b → (b || list_any p xs) ≡ true → (list_any p xs ≡ true → list_any q xs ≡ true)
        → (q x || list_any q xs) ≡ true
    by_test true passes here later = or_left (q x) (list_any q xs) (weaker x passes)
    by_test false fails here later = or_right (q x) (list_any q xs) (later here)

pub none_stronger : {X : Type 0} (p q : X → Bool) (xs : List X) → ((x : X) → p x ≡ true → q x ≡ true)
    → list_any q xs ≡ false → list_any p xs ≡ false
none_stronger p q xs weaker none = false_else (list_any p xs) (λ any. let some = any_weaker p q xs weaker any in cc)

-- some row passes the first test and none the second
pub any_apart : {X : Type 0} (p q r : X → Bool) (xs : List X) → ((x : X) → p x ≡ true → q x ≡ false → r x ≡ true)
    → list_any p xs ≡ true → list_any q xs ≡ false → list_any r xs ≡ true
any_apart p q r [] both any none = any
any_apart p q r (x ∷ xs) both any none =
    let parts = or_false (q x) (list_any q xs) none in
    by_test (p x) refl any parts.0 (λ later. any_apart p q r xs both later parts.1)
  where
    by_test : (b : Bool) → p x ≡ b → (b || list_any p xs) ≡ true → q x ≡ false
        → (list_any p xs ≡ true → list_any r xs ≡ true) → (r x || list_any r xs) ≡ true
    by_test true passes here other later = or_left (r x) (list_any r xs) (both x passes other)
    by_test false fails here other later = or_right (r x) (list_any r xs) (later here)

-- of rows of which each has h
pub any_of_all : {X : Type 0} (h p q : X → Bool) (xs : List X) → ((x : X) → h x ≡ true → p x ≡ true → q x ≡ true)
    → list_all h xs ≡ true → list_any p xs ≡ true → list_any q xs ≡ true
any_of_all h p q [] weaker all any = any
any_of_all h p q (x ∷ xs) weaker all any =
    let parts = and_true (h x) (list_all h xs) all in
    by_test (p x) refl any parts.0 (any_of_all h p q xs weaker parts.1)
  where
    by_test : (b : Bool) → p x ≡ b → (b || list_any p xs) ≡ true → h x ≡ true
        → (list_any p xs ≡ true → list_any q xs ≡ true) → (q x || list_any q xs) ≡ true
    by_test true passes here has later = or_left (q x) (list_any q xs) (weaker x has passes)
    by_test false fails here has later = or_right (q x) (list_any q xs) (later here)

-- of the rows that a filter keeps
pub any-filter : {X : Type 0} (p q : X → Bool) (xs : List X) → list_any p (filter q xs) ≡ list_any (λ x. q x && p x) xs
any-filter p q [] = refl
any-filter p q (x ∷ xs) = by_test (q x) (any-filter p q xs)
  where
    by_test : (b : Bool) → list_any p (filter q xs) ≡ list_any (λ x. q x && p x) xs
        → list_any p (cond b (x ∷ filter q xs) (filter q xs)) ≡ ((b && p x) || list_any (λ x. q x && p x) xs)
    by_test true rest = ap (λ b. p x || b) rest
    by_test false rest = rest

-- ---- what a filter keeps

pub filter_all : {X : Type 0} (p : X → Bool) (xs : List X) → list_all p xs ≡ true → filter p xs ≡ xs
filter_all p [] all = refl
filter_all p (x ∷ xs) all =
    let parts = and_true (p x) (list_all p xs) all in
    rw (parts.0, filter_all p xs parts.1) refl

pub filter_nothing : {X : Type 0} (p : X → Bool) (xs : List X) → list_all (λ x. not (p x)) xs ≡ true → filter p xs ≡ []
filter_nothing p [] all = refl
filter_nothing p (x ∷ xs) all =
    let parts = and_true (not (p x)) (list_all (λ x. not (p x)) xs) all in
    by_test (p x) parts.0 (filter_nothing p xs parts.1)
  where
    by_test : (b : Bool) → not b ≡ true → filter p xs ≡ [] → cond b (x ∷ filter p xs) (filter p xs) ≡ []
    by_test true never rest = cc
    by_test false none rest = rest

-- two tests that agree on the rows of which a third is true
pub filter_alike_on : {X : Type 0} (h p q : X → Bool) (xs : List X) → list_all h xs ≡ true
    → ((x : X) → h x ≡ true → p x ≡ q x) → filter p xs ≡ filter q xs
filter_alike_on h p q [] all same = refl
filter_alike_on h p q (x ∷ xs) all same =
    let parts = and_true (h x) (list_all h xs) all in
    rw (same x parts.0, filter_alike_on h p q xs parts.1 same) refl

-- each row that it keeps passes
pub all_pass : {X : Type 0} (p : X → Bool) (xs : List X) → list_all p (filter p xs) ≡ true
all_pass p [] = refl
all_pass p (x ∷ xs) = by_test (p x) refl (all_pass p xs)
  where
    by_test : (b : Bool) → p x ≡ b → list_all p (filter p xs) ≡ true
        → list_all p (cond b (x ∷ filter p xs) (filter p xs)) ≡ true
    by_test true passes rest = both_true _ _ passes rest
    by_test false fails rest = rest
