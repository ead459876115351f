-- What rows give, gathered row by row.
use Rattle.std.proofs.Common.{◌≡◌, ◌∙◌, ℕ, ◌+◌, ◌<◌, ◌≤◌, Bool, true, false, cond, List, [], ◌∷◌, ◌++◌, length, get_or}
use Rattle.std.proofs.Common.{drop, map, ap, sym, append_assoc, append-nil}
use Rattle.std.proofs.lemmas.List.{at_drop_all, at_drop_more, get_or_default}
use Rattle.std.specs.List.{filter, flat_map}

-- one more row is gathered
pub row_added : {X Y : Type 0} (all : List X → List Y) (xs : List X) (i : ℕ) (x : X) (part old new total : List Y)
    → i < length xs → x ≡ get_or xs i x → all (x ∷ drop (i + 1) xs) ≡ part ++ all (drop (i + 1) xs)
    → new ≡ old ++ part → old ++ all (drop i xs) ≡ total → new ++ all (drop (i + 1) xs) ≡ total
row_added all xs i x part old new total within is first more before =
    ap (λ l. l ++ all (drop (i + 1) xs)) more
    ∙ append_assoc old part (all (drop (i + 1) xs))
    ∙ ap (λ l. old ++ l) (sym first ∙ ap (λ y. all (y ∷ drop (i + 1) xs)) is)
    ∙ sym (at_drop_more (λ l. old ++ all l) xs i x within)
    ∙ before

-- one more row gives nothing
pub row_passed : {X Y : Type 0} (all : List X → List Y) (xs : List X) (i : ℕ) (x : X) (old new total : List Y)
    → i < length xs → x ≡ get_or xs i x → all (x ∷ drop (i + 1) xs) ≡ all (drop (i + 1) xs) → new ≡ old
    → old ++ all (drop i xs) ≡ total → new ++ all (drop (i + 1) xs) ≡ total
row_passed all xs i x old new total within is first same before =
    row_added all xs i x [] old new total within is first (same ∙ sym (append-nil old)) before

-- all rows are gathered
pub none_left : {X Y : Type 0} (all : List X → List Y) (xs : List X) (i : ℕ) (old total : List Y)
    → all [] ≡ [] → length xs ≤ i → old ++ all (drop i xs) ≡ total → old ≡ total
none_left all xs i old total none past before =
    sym (append-nil old) ∙ ap (λ l. old ++ l) (sym none) ∙ sym (at_drop_all (λ l. old ++ all l) xs i past) ∙ before

-- a row that passes the test is the first of those that do, and one that doesn't is none of them
pub passes : {X : Type 0} (p : X → Bool) (x : X) (xs : List X) → p x ≡ true → filter p (x ∷ xs) ≡ x ∷ filter p xs
passes p x xs is = ap (λ b. cond b (x ∷ filter p xs) (filter p xs)) is

pub fails : {X : Type 0} (p : X → Bool) (x : X) (xs : List X) → p x ≡ false → filter p (x ∷ xs) ≡ filter p xs
fails p x xs is = ap (λ b. cond b (x ∷ filter p xs) (filter p xs)) is

-- ---- of those that pass a test

pub kept_added : {X Y : Type 0} (f : X → List Y) (p : X → Bool) (xs : List X) (i : ℕ) (d : X) (old new total : List Y)
    → i < length xs → p (get_or xs i d) ≡ true → new ≡ old ++ f (get_or xs i d)
    → old ++ flat_map f (filter p (drop i xs)) ≡ total → new ++ flat_map f (filter p (drop (i + 1) xs)) ≡ total
kept_added f p xs i d old new total within is more before =
    row_added (λ l. flat_map f (filter p l)) xs i (get_or xs i d) (f (get_or xs i d)) old new total within
    (get_or_default xs i d (get_or xs i d) within)
    (ap (λ l. flat_map f l) (passes p (get_or xs i d) (drop (i + 1) xs) is)) more before

pub kept_passed : {X Y : Type 0} (f : X → List Y) (p : X → Bool) (xs : List X) (i : ℕ) (d : X)
    (old new total : List Y) → i < length xs → p (get_or xs i d) ≡ false → new ≡ old
    → old ++ flat_map f (filter p (drop i xs)) ≡ total → new ++ flat_map f (filter p (drop (i + 1) xs)) ≡ total
kept_passed f p xs i d old new total within is same before =
    row_passed (λ l. flat_map f (filter p l)) xs i (get_or xs i d) old new total within
    (get_or_default xs i d (get_or xs i d) within)
    (ap (λ l. flat_map f l) (fails p (get_or xs i d) (drop (i + 1) xs) is)) same before

-- what was pushed, by another name
pub one_more : {X : Type 0} (old new : List X) (x y : X) → new ≡ old ++ x ∷ [] → x ≡ y → new ≡ old ++ y ∷ []
one_more old new x y pushed is = pushed ∙ ap (λ z. old ++ z ∷ []) is

-- ---- just those that pass a test

pub picked_added : {X : Type 0} (p : X → Bool) (xs : List X) (i : ℕ) (d : X) (old new total : List X) → i < length xs
    → p (get_or xs i d) ≡ true → new ≡ old ++ get_or xs i d ∷ [] → old ++ filter p (drop i xs) ≡ total
    → new ++ filter p (drop (i + 1) xs) ≡ total
picked_added p xs i d old new total within is more before =
    row_added (filter p) xs i (get_or xs i d) (get_or xs i d ∷ []) old new total within
    (get_or_default xs i d (get_or xs i d) within) (passes p (get_or xs i d) (drop (i + 1) xs) is) more before

pub picked_passed : {X : Type 0} (p : X → Bool) (xs : List X) (i : ℕ) (d : X) (old new total : List X) → i < length xs
    → p (get_or xs i d) ≡ false → new ≡ old → old ++ filter p (drop i xs) ≡ total
    → new ++ filter p (drop (i + 1) xs) ≡ total
picked_passed p xs i d old new total within is same before =
    row_passed (filter p) xs i (get_or xs i d) old new total within
    (get_or_default xs i d (get_or xs i d) within) (fails p (get_or xs i d) (drop (i + 1) xs) is) same before

-- ---- what those give that pass one

pub mapped_added : {X Y : Type 0} (f : X → Y) (p : X → Bool) (xs : List X) (i : ℕ) (d : X) (old new total : List Y)
    → i < length xs → p (get_or xs i d) ≡ true → new ≡ old ++ f (get_or xs i d) ∷ []
    → old ++ map f (filter p (drop i xs)) ≡ total → new ++ map f (filter p (drop (i + 1) xs)) ≡ total
mapped_added f p xs i d old new total within is more before =
    row_added (λ l. map f (filter p l)) xs i (get_or xs i d) (f (get_or xs i d) ∷ []) old new total within
    (get_or_default xs i d (get_or xs i d) within)
    (ap (λ l. map f l) (passes p (get_or xs i d) (drop (i + 1) xs) is)) more before

pub mapped_passed : {X Y : Type 0} (f : X → Y) (p : X → Bool) (xs : List X) (i : ℕ) (d : X) (old new total : List Y)
    → i < length xs → p (get_or xs i d) ≡ false → new ≡ old → old ++ map f (filter p (drop i xs)) ≡ total
    → new ++ map f (filter p (drop (i + 1) xs)) ≡ total
mapped_passed f p xs i d old new total within is same before =
    row_passed (λ l. map f (filter p l)) xs i (get_or xs i d) old new total within
    (get_or_default xs i d (get_or xs i d) within)
    (ap (λ l. map f l) (fails p (get_or xs i d) (drop (i + 1) xs) is)) same before

-- ---- what each gives

pub each_added : {X Y : Type 0} (all : List X → List Y) (part : X → List Y) (xs : List X) (i : ℕ) (d : X)
    (old new total : List Y) → i < length xs → ((x : X) (rest : List X) → all (x ∷ rest) ≡ part x ++ all rest)
    → new ≡ old ++ part (get_or xs i d) → old ++ all (drop i xs) ≡ total → new ++ all (drop (i + 1) xs) ≡ total
each_added all part xs i d old new total within gives more before =
    row_added all xs i (get_or xs i d) (part (get_or xs i d)) old new total within
    (get_or_default xs i d (get_or xs i d) within) (gives (get_or xs i d) (drop (i + 1) xs)) more before
