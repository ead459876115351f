-- What a filter, a map or a search does to a list of which something is known of each element.
use Rattle.std.proofs.Common.{◌≡◌, Bool, true, false, cond, List, [], ◌∷◌, ◌++◌, None, map, refl, ap}
use Rattle.std.specs.List.{filter, find, list_any, AllByRecursion}

module _ {X : Type 0} where
  pub Each-weaken : (P Q : X → Type 0) → ((x : X) → P x → Q x) → (xs : List X) → AllByRecursion P xs
      → AllByRecursion Q xs
  Each-weaken P Q weaker [] all = tt
  Each-weaken P Q weaker (x ∷ xs) all = (weaker x all.0, Each-weaken P Q weaker xs all.1)

  pub Each-append : (P : X → Type 0) (xs ys : List X) → AllByRecursion P xs → AllByRecursion P ys
      → AllByRecursion P (xs ++ ys)
  Each-append P [] ys first second = second
  Each-append P (x ∷ xs) ys first second = (first.0, Each-append P xs ys first.1 second)

  pub filter_all : (p : X → Bool) (xs : List X) → AllByRecursion (λ x. p x ≡ true) xs → filter p xs ≡ xs
  filter_all p [] all = refl
  filter_all p (x ∷ xs) all = rw all.0 (ap (λ ys. x ∷ ys) (filter_all p xs all.1))

  pub filter_none : (p : X → Bool) (xs : List X) → AllByRecursion (λ x. p x ≡ false) xs → filter p xs ≡ []
  filter_none p [] all = refl
  filter_none p (x ∷ xs) all = rw all.0 (filter_none p xs all.1)

  pub map_same : (f : X → X) (xs : List X) → AllByRecursion (λ x. f x ≡ x) xs → map f xs ≡ xs
  map_same f [] all = refl
  map_same f (x ∷ xs) all = rw (all.0, map_same f xs all.1)

  pub find_none : (p : X → Bool) (xs : List X) → AllByRecursion (λ x. p x ≡ false) xs → find p xs ≡ None
  find_none p [] all = refl
  find_none p (x ∷ xs) all = rw all.0 (find_none p xs all.1)

  -- the list with one more, before the first of which the test holds
  abbrev pub put_before : (X → Bool) → X → List X → List X
  put_before test x [] = x ∷ []
  put_before test x (next ∷ xs) = cond (test next) (x ∷ next ∷ xs) (next ∷ put_before test x xs)

  pub put_before_all : (test : X → Bool) (x : X) (xs : List X) → AllByRecursion (λ next. test next ≡ true) xs
      → put_before test x xs ≡ x ∷ xs
  put_before_all test x [] all = refl
  put_before_all test x (next ∷ xs) all = rw all.0

  pub put_before_none : (test : X → Bool) (x : X) (xs ys : List X) → AllByRecursion (λ next. test next ≡ false) xs
      → put_before test x (xs ++ ys) ≡ xs ++ put_before test x ys
  put_before_none test x [] ys none = refl
  put_before_none test x (next ∷ xs) ys none = rw (none.0, put_before_none test x xs ys none.1)

  -- what stands after the new one stays behind
  pub put_before-append : (test : X → Bool) (x : X) (xs ys : List X) → AllByRecursion (λ next. test next ≡ true) ys
      → put_before test x (xs ++ ys) ≡ put_before test x xs ++ ys
  put_before-append test x [] ys all = put_before_all test x ys all
  put_before-append test x (next ∷ xs) ys all = rw (put_before-append test x xs ys all) (by_test (test next))
    where
      by_test : (b : Bool) → cond b (x ∷ next ∷ (xs ++ ys)) (next ∷ (put_before test x xs ++ ys)) ≡ cond b
          (x ∷ next ∷ xs) (next ∷ put_before test x xs) ++ ys
      by_test true = refl
      by_test false = refl

pub Each-map : {X Y : Type 0} (P : Y → Type 0) (f : X → Y) → ((x : X) → P (f x)) → (xs : List X)
    → AllByRecursion P (map f xs)
Each-map P f holds [] = tt
Each-map P f holds (x ∷ xs) = (holds x, Each-map P f holds xs)

pub list_any-map : {X Y : Type 0} (p : Y → Bool) (f : X → Y) (xs : List X)
    → list_any p (map f xs) ≡ list_any (λ x. p (f x)) xs
list_any-map p f [] = refl
list_any-map p f (x ∷ xs) = rw (list_any-map p f xs)
