-- A loop that asks one row after the other: what is left of the rows answers as all of them do.
use Rattle.std.proofs.Common.{◌≡◌, ◌<◌, ◌≤◌, ◌+◌, ◌∙◌, ◌&&◌, ◌||◌, ℕ, Bool, true, false, cond, Option, Some, None, List}
use Rattle.std.proofs.Common.{[], ◌∷◌, length, find, get_or, drop, refl, ap, sym, arith}
use Rattle.std.proofs.lemmas.List.{at_drop_all, at_drop_more}
use Rattle.std.specs.List.{count_by, filter, list_all, list_any}

-- ---- whether some row passes

pub any_on : {X : Type 0} (p : X → Bool) (xs : List X) (i : ℕ) (d : X) (b all : Bool) → i < length xs
    → b ≡ p (get_or xs i d) → b ≡ false → list_any p (drop i xs) ≡ all → list_any p (drop (i + 1) xs) ≡ all
any_on p xs i d b all within tests fails before =
    ap (λ c. c || list_any p (drop (i + 1) xs)) (sym fails ∙ tests) ∙ sym (at_drop_more (list_any p) xs i d within)
    ∙ before

pub any_here : {X : Type 0} (p : X → Bool) (xs : List X) (i : ℕ) (d : X) (b all : Bool) → i < length xs
    → b ≡ p (get_or xs i d) → b ≡ true → list_any p (drop i xs) ≡ all → true ≡ all
any_here p xs i d b all within tests passes before =
    ap (λ c. c || list_any p (drop (i + 1) xs)) (sym passes ∙ tests) ∙ sym (at_drop_more (list_any p) xs i d within)
    ∙ before

pub any_none : {X : Type 0} (p : X → Bool) (xs : List X) (i : ℕ) (all : Bool) → length xs ≤ i
    → list_any p (drop i xs) ≡ all → false ≡ all
any_none p xs i all past before = sym (at_drop_all (list_any p) xs i past) ∙ before

-- ---- what is told of the first that passes

pub first_on : {X Y : Type 0} (f : Option X → Y) (p : X → Bool) (xs : List X) (i : ℕ) (d : X) (b : Bool) (all : Y)
    → i < length xs → b ≡ p (get_or xs i d) → b ≡ false → f (find p (drop i xs)) ≡ all
    → f (find p (drop (i + 1) xs)) ≡ all
first_on f p xs i d b all within tests fails before =
    ap (λ c. f (cond c (Some (get_or xs i d)) (find p (drop (i + 1) xs)))) (sym fails ∙ tests)
    ∙ sym (at_drop_more (λ l. f (find p l)) xs i d within) ∙ before

pub first_here : {X Y : Type 0} (f : Option X → Y) (p : X → Bool) (xs : List X) (i : ℕ) (d : X) (b : Bool) (all : Y)
    → i < length xs → b ≡ p (get_or xs i d) → b ≡ true → f (find p (drop i xs)) ≡ all → f (Some (get_or xs i d)) ≡ all
first_here f p xs i d b all within tests passes before =
    ap (λ c. f (cond c (Some (get_or xs i d)) (find p (drop (i + 1) xs)))) (sym passes ∙ tests)
    ∙ sym (at_drop_more (λ l. f (find p l)) xs i d within) ∙ before

pub first_none : {X Y : Type 0} (f : Option X → Y) (p : X → Bool) (xs : List X) (i : ℕ) (all : Y) → length xs ≤ i
    → f (find p (drop i xs)) ≡ all → f None ≡ all
first_none f p xs i all past before = sym (at_drop_all (λ l. f (find p l)) xs i past) ∙ before

-- the first that passes both tests is the first that passes one of those that pass the other
pub first_of_those : {X : Type 0} (p q : X → Bool) (xs : List X) → find (λ x. p x && q x) xs ≡ find q (filter p xs)
first_of_those p q [] = refl
first_of_those p q (x ∷ xs) = by_test (p x) (first_of_those p q xs)
  where
    by_test : (b : Bool) → find (λ x. p x && q x) xs ≡ find q (filter p xs)
        → cond (b && q x) (Some x) (find (λ y. p y && q y) xs) ≡ find q (cond b (x ∷ filter p xs) (filter p xs))
    by_test true rest = ap (λ o. cond (q x) (Some x) o) rest
    by_test false rest = rest

-- ---- under a condition that no row has a part in

pub any_under : {X : Type 0} (h : Bool) (p : X → Bool) (xs : List X) → h ≡ true
    → list_any p xs ≡ list_any (λ x. h && p x) xs
any_under h p xs is = sym (ap (λ b. list_any (λ x. b && p x) xs) is)

pub none_under : {X : Type 0} (h : Bool) (p : X → Bool) (xs : List X) → h ≡ false
    → false ≡ list_any (λ x. h && p x) xs
none_under h p xs is = nothing xs ∙ sym (ap (λ b. list_any (λ x. b && p x) xs) is)
  where
    nothing : {Y : Type 0} (ys : List Y) → false ≡ list_any (λ y. false) ys
    nothing [] = refl
    nothing (y ∷ ys) = nothing ys

-- ---- whether all rows pass

pub all_on : {X : Type 0} (p : X → Bool) (xs : List X) (i : ℕ) (d : X) (b all : Bool) → i < length xs
    → b ≡ p (get_or xs i d) → b ≡ true → list_all p (drop i xs) ≡ all → list_all p (drop (i + 1) xs) ≡ all
all_on p xs i d b all within tests passes before =
    ap (λ c. c && list_all p (drop (i + 1) xs)) (sym passes ∙ tests) ∙ sym (at_drop_more (list_all p) xs i d within)
    ∙ before

pub all_but : {X : Type 0} (p : X → Bool) (xs : List X) (i : ℕ) (d : X) (b all : Bool) → i < length xs
    → b ≡ p (get_or xs i d) → b ≡ false → list_all p (drop i xs) ≡ all → false ≡ all
all_but p xs i d b all within tests fails before =
    ap (λ c. c && list_all p (drop (i + 1) xs)) (sym fails ∙ tests) ∙ sym (at_drop_more (list_all p) xs i d within)
    ∙ before

pub all_done : {X : Type 0} (p : X → Bool) (xs : List X) (i : ℕ) (all : Bool) → length xs ≤ i
    → list_all p (drop i xs) ≡ all → true ≡ all
all_done p xs i all past before = sym (at_drop_all (list_all p) xs i past) ∙ before

-- ---- how many pass

pub counted_all : {X : Type 0} (p : X → Bool) (xs : List X) (i count all : ℕ) → length xs ≤ i
    → count + count_by p (drop i xs) ≡ all → count ≡ all
counted_all p xs i count all past before =
    let none : count_by p (drop i xs) ≡ 0 = at_drop_all (count_by p) xs i past in omega (arith, none, before)
