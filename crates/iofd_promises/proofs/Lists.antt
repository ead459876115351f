-- Where a row of a joined list is, and lists in which no two rows are alike.
use Rattle.std.proofs.Common.{◌≡◌, ℕ, zero, suc, Bool, true, false, cond, ◌&&◌, not, Option, Some, None, List, [], ◌∷◌}
use Rattle.std.proofs.Common.{◌++◌, refl, ap, ◌∙◌, ◌⊎◌, inl, inr, ⊎_elim}
use Rattle.std.specs.List.{cons_option, filter, filter_map, flat_map, list_any, slice_get}
use Rattle.iofd_rows.proofs.Bools.{and_true, both_false, both_true, clash, not_false, not_true, or_false}
use Rattle.iofd_rows.proofs.Each.{IsIn, of_any}

-- ---- where a row is

pub in_append : {X : Type 0} (xs ys : List X) (x : X) → IsIn (xs ++ ys) x → IsIn xs x ⊎ IsIn ys x
in_append [] ys x within = inr within
in_append (y ∷ xs) ys x (inl same) = inl (inl same)
in_append (y ∷ xs) ys x (inr later) =
    ⊎_elim (λ (first : IsIn xs x). inl (inr first)) (λ (second : IsIn ys x). inr second) (in_append xs ys x later)

pub in_flat_map : {X Y : Type 0} (f : X → List Y) (xs : List X) (y : Y) → IsIn (flat_map f xs) y
    → (x : X) × IsIn xs x × IsIn (f x) y
in_flat_map f [] y within = absurd within
in_flat_map {X = X} f (x ∷ xs) y within =
    ⊎_elim (λ (first : IsIn (f x) y). (x, inl refl, first)) (λ (later : IsIn (flat_map f xs) y). let (
      z,
      there,
      has,
    ) = in_flat_map f xs y later in (z, inr there, has)) (in_append (f x) (flat_map f xs) y within)

pub in_filter_map : {X Y : Type 0} (f : X → Option Y) (xs : List X) (y : Y) → IsIn (filter_map f xs) y
    → (x : X) × IsIn xs x × (f x ≡ Some y)
in_filter_map f [] y within = absurd within
in_filter_map {X = X} {Y = Y} f (x ∷ xs) y within = by_value (f x) refl within (in_filter_map f xs y)
  where
    by_value : (o : Option Y) → f x ≡ o → IsIn (cons_option o (filter_map f xs)) y
        → (IsIn (filter_map f xs) y → (z : X) × IsIn xs z × (f z ≡ Some y)) → (z : X) × IsIn (x ∷ xs) z × (f z ≡ Some y)
    by_value None is within later = let (z, there, has) = later within in (z, inr there, has)
    by_value (Some z) is (inl same) later = (x, inl refl, is ∙ ap Some same)
    by_value (Some z) is (inr rest) later = let (v, there, has) = later rest in (v, inr there, has)

pub is_at : {X : Type 0} (xs : List X) (i : ℕ) (x : X) → slice_get xs i ≡ Some x → IsIn xs x
is_at [] i x is = cc
is_at (y ∷ xs) zero x is = let same : y ≡ x = cc in inl same
is_at (y ∷ xs) (suc i) x is = inr (is_at xs i x is)

-- ---- no two alike

-- no row is like a later one
abbrev pub all_apart : {X : Type 0} → (X → X → Bool) → List X → Bool
all_apart alike [] = true
all_apart alike (x ∷ xs) = not (list_any (alike x) xs) && all_apart alike xs

none_left : {X : Type 0} (p stays : X → Bool) (xs : List X) → list_any p xs ≡ false
    → list_any p (filter stays xs) ≡ false
none_left p stays [] none = refl
none_left p stays (x ∷ xs) none =
    let parts = or_false (p x) (list_any p xs) none in
    by_test (stays x) parts.0 (none_left p stays xs parts.1)
  where
    by_test : (b : Bool) → p x ≡ false → list_any p (filter stays xs) ≡ false
        → list_any p (cond b (x ∷ filter stays xs) (filter stays xs)) ≡ false
    by_test true here rest = both_false _ _ here rest
    by_test false here rest = rest

pub apart-filter : {X : Type 0} (alike : X → X → Bool) (stays : X → Bool) (xs : List X) → all_apart alike xs ≡ true
    → all_apart alike (filter stays xs) ≡ true
apart-filter alike stays [] apart = refl
apart-filter alike stays (x ∷ xs) apart =
    let parts = and_true (not (list_any (alike x) xs)) (all_apart alike xs) apart in
    by_test (stays x) (none_left (alike x) stays xs (not_true _ parts.0)) (apart-filter alike stays xs parts.1)
  where
    by_test : (b : Bool) → list_any (alike x) (filter stays xs) ≡ false → all_apart alike (filter stays xs) ≡ true
        → all_apart alike (cond b (x ∷ filter stays xs) (filter stays xs)) ≡ true
    by_test true none rest = both_true _ _ (not_false _ none) rest
    by_test false none rest = rest

pub any_last : {X : Type 0} (p : X → Bool) (xs : List X) (x : X) → list_any p xs ≡ false → p x ≡ false
    → list_any p (xs ++ x ∷ []) ≡ false
any_last p [] x none last = both_false _ _ last refl
any_last p (y ∷ xs) x none last =
    let parts = or_false (p y) (list_any p xs) none in both_false _ _ parts.0 (any_last p xs x parts.1 last)

-- one more row, like none before it
pub apart-more : {X : Type 0} (alike : X → X → Bool) (xs : List X) (x : X) → list_any (λ y. alike y x) xs ≡ false
    → all_apart alike xs ≡ true → all_apart alike (xs ++ x ∷ []) ≡ true
apart-more alike [] x free apart = refl
apart-more alike (y ∷ xs) x free apart =
    let frees = or_false (alike y x) (list_any (λ z. alike z x) xs) free in
    let parts = and_true (not (list_any (alike y) xs)) (all_apart alike xs) apart in
    both_true _ _ (not_false _ (any_last (alike y) xs x (not_true _ parts.0) frees.0))
    (apart-more alike xs x frees.1 parts.1)

-- so rows that are alike are at one place
pub one_place : {X : Type 0} (alike : X → X → Bool) (xs : List X) (i j : ℕ) (x y : X) → all_apart alike xs ≡ true
    → slice_get xs i ≡ Some x → slice_get xs j ≡ Some y → alike x y ≡ true → alike y x ≡ true → i ≡ j
one_place alike [] i j x y apart first second same back = cc
one_place alike (z ∷ xs) zero zero x y apart first second same back = refl
one_place alike (z ∷ xs) zero (suc j) x y apart first second same back =
    let parts = and_true (not (list_any (alike z) xs)) (all_apart alike xs) apart in
    let is : z ≡ x = cc in
    absurd (clash _ (not_true _ parts.0) (of_any (alike z) xs y (is_at xs j y second) (ap (λ v. alike v y) is ∙ same)))
one_place alike (z ∷ xs) (suc i) zero x y apart first second same back =
    let parts = and_true (not (list_any (alike z) xs)) (all_apart alike xs) apart in
    let is : z ≡ y = cc in
    absurd (clash _ (not_true _ parts.0) (of_any (alike z) xs x (is_at xs i x first) (ap (λ v. alike v x) is ∙ back)))
one_place alike (z ∷ xs) (suc i) (suc j) x y apart first second same back =
    ap suc (one_place alike xs i j x y (and_true (not (list_any (alike z) xs)) (all_apart alike xs) apart).1 first
    second same back)
