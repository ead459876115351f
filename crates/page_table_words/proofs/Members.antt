-- The rows of tables, one by one.
use Rattle.std.proofs.Common.{◌≡◌, ℕ, ◌+◌, ◌≤◌, Bool, true, false, cond, ◌&&◌, ◌||◌, Option, Some, None, List, [], ◌∷◌}
use Rattle.std.proofs.Common.{◌++◌, refl, sym, ◌∙◌, ap, subst, arith, ⊎_elim}
use Rattle.std.specs.List.{AllByRecursion, count_by, filter, find}
use Rattle.std.specs.List.Sorted.{IsPermutation}
use Rattle.std.proofs.lemmas.Bool.{cases_Bool}
use Rattle.std.proofs.lemmas.List.Sorted.{IsPermutation-cons, IsPermutation-middle, IsPermutation-refl}
use Rattle.std.proofs.lemmas.List.Sorted.{IsPermutation-trans}
use Rattle.std.proofs.lemmas.List.Sums.{sum_by-cons}
use Rattle.page_table_words.proofs.Lookups.{none_or_some}

-- ---- lists

module _ {X : Type 0} where
  pub count_first : (p : X → Bool) (x : X) (xs : List X) → p x ≡ true → count_by p (x ∷ xs) ≡ 1 + count_by p xs
  count_first p x xs is =
      sum_by-cons (λ (y : X). cond (p y) 1 0) x xs ∙ ap {B = ℕ} (λ (b : Bool). cond b 1 0 + count_by p xs) is

  pub count_other : (p : X → Bool) (x : X) (xs : List X) → p x ≡ false → count_by p (x ∷ xs) ≡ count_by p xs
  count_other p x xs is = sum_by-cons (λ (y : X). cond (p y) 1 0) x xs
      ∙ ap {B = ℕ} (λ (b : Bool). cond b 1 0 + count_by p xs) is
      ∙ (let same : 0 + count_by p xs ≡ count_by p xs = omega arith in same)

  filter_first : (p : X → Bool) (x : X) (xs : List X) → p x ≡ true → filter p (x ∷ xs) ≡ x ∷ filter p xs
  filter_first p x xs is = ap (λ (b : Bool). cond b (x ∷ filter p xs) (filter p xs)) is

  filter_other : (p : X → Bool) (x : X) (xs : List X) → p x ≡ false → filter p (x ∷ xs) ≡ filter p xs
  filter_other p x xs is = ap (λ (b : Bool). cond b (x ∷ filter p xs) (filter p xs)) is

  pub filter_none : (p : X → Bool) (xs : List X) → AllByRecursion (λ x. p x ≡ false) xs → filter p xs ≡ []
  filter_none p [] all = refl
  filter_none p (x ∷ xs) all = filter_other p x xs all.0 ∙ filter_none p xs all.1

  pub filter_all : (p : X → Bool) (xs : List X) → AllByRecursion (λ x. p x ≡ true) xs → filter p xs ≡ xs
  filter_all p [] all = refl
  filter_all p (x ∷ xs) all = filter_first p x xs all.0 ∙ ap (λ (ys : List X). x ∷ ys) (filter_all p xs all.1)

  pub filter_alike : (p q : X → Bool) (xs : List X) → AllByRecursion (λ x. p x ≡ q x) xs → filter p xs ≡ filter q xs
  filter_alike p q [] all = refl
  filter_alike p q (x ∷ xs) all = ap (λ (b : Bool). cond b (x ∷ filter p xs) (filter p xs)) all.0
      ∙ ap (λ (ys : List X). cond (q x) (x ∷ ys) ys) (filter_alike p q xs all.1)

  no_more : (p : X → Bool) (xs : List X) → count_by p xs ≡ 0 → filter p xs ≡ []
  no_more p [] none = refl
  no_more p (x ∷ xs) none =
      ⊎_elim (λ (yes : p x ≡ true). absurd (let more = count_first p x xs yes in omega (arith, more, none)))
      (λ (no : p x ≡ false). filter_other p x xs no ∙ no_more p xs (sym (count_other p x xs no) ∙ none))
      (cases_Bool (p x))

  -- the one element that passes
  pub filter_one : (p : X → Bool) (xs : List X) (x : X) → find p xs ≡ Some x → count_by p xs ≤ 1 → filter p xs ≡ x ∷ []
  filter_one p [] x is few = none_or_some None x refl is
  filter_one p (y ∷ ys) x is few =
      ⊎_elim
      (λ (yes : p y ≡ true).
      let more = count_first p y ys yes in
      let none : count_by p ys ≡ 0 = omega (arith, more, few) in
      let found : ◌≡◌ {A = Option X} (Some y) (Some x) =
      sym (ap (λ (b : Bool). cond b (Some y) (find p ys)) yes) ∙ is in
      filter_first p y ys yes ∙ ap (λ (zs : List X). y ∷ zs) (no_more p ys none)
      ∙ ap (λ (z : X). z ∷ []) (the_same y x found))
      (λ (no : p y ≡ false). filter_other p y ys no
      ∙ filter_one p ys x (sym (ap (λ (b : Bool). cond b (Some y) (find p ys)) no) ∙ is)
      (let same = count_other p y ys no in omega (arith, same, few)))
      (cases_Bool (p y))
    where
      the_same : (a b : X) → ◌≡◌ {A = Option X} (Some a) (Some b) → a ≡ b
      the_same a b same = cc

  -- what is found is counted
  pub find_counted : (p : X → Bool) (xs : List X) (x : X) → find p xs ≡ Some x → 1 ≤ count_by p xs
  find_counted p [] x is = none_or_some None x refl is
  find_counted p (y ∷ ys) x is =
      ⊎_elim (λ (yes : p y ≡ true). let more = count_first p y ys yes in omega (arith, more))
      (λ (not_it : p y ≡ false). let same = count_other p y ys not_it in let rest = find_counted p ys x
      (sym (ap (λ (b : Bool). cond b (Some y) (find p ys)) not_it) ∙ is) in omega (arith, same, rest))
      (cases_Bool (p y))

  -- what is found passes, and is what each element is
  pub found_each : (p : X → Bool) (P : X → Type 0) (xs : List X) (x : X) → find p xs ≡ Some x → AllByRecursion P xs
      → P x × (p x ≡ true)
  found_each p P [] x is all = none_or_some None x refl is
  found_each p P (y ∷ ys) x is all =
      ⊎_elim
      (λ (it : p y ≡ true).
      let found : ◌≡◌ {A = Option X} (Some y) (Some x) = sym (ap (λ (b : Bool). cond b (Some y) (find p ys)) it) ∙ is in
      let same : y ≡ x = cc in
      (subst P same all.0, ap p (sym same) ∙ it))
      (λ (other : p y ≡ false). found_each p P ys x (sym (ap (λ (b : Bool). cond b (Some y) (find p ys)) other)
      ∙ is) all.1)
      (cases_Bool (p y))

  pub each_then : (P Q : X → Type 0) (xs : List X) → ((x : X) → P x → Q x) → AllByRecursion P xs → AllByRecursion Q xs
  each_then P Q [] then all = tt
  each_then P Q (x ∷ xs) then all = (then x all.0, each_then P Q xs then all.1)

  -- what passes one of two tests that never both pass
  pub filter_split : (p q r : X → Bool) (xs : List X) → ((x : X) → (p x ≡ (q x || r x)) × ((q x && r x) ≡ false))
      → IsPermutation (filter q xs ++ filter r xs) (filter p xs)
  filter_split p q r [] each = IsPermutation-refl []
  filter_split p q r (x ∷ xs) each = by_tests (q x) (r x) (each x).0 (each x).1 (filter_split p q r xs each)
    where
      by_tests : (a b : Bool) → p x ≡ (a || b) → (a && b) ≡ false
          → IsPermutation (filter q xs ++ filter r xs) (filter p xs)
          → IsPermutation (cond a (x ∷ filter q xs) (filter q xs) ++ cond b (x ∷ filter r xs) (filter r xs))
          (cond (p x) (x ∷ filter p xs) (filter p xs))
      by_tests true true is apart rest = absurd (let never : true ≡ false = apart in cc)
      by_tests true false is apart rest = rw is (IsPermutation-cons x (filter q xs ++ filter r xs) (filter p xs) rest)
      by_tests false true is apart rest =
          rw is (IsPermutation-trans (filter q xs ++ x ∷ filter r xs) (x ∷ (filter q xs ++ filter r xs))
          (x ∷ filter p xs) (IsPermutation-middle (filter q xs) x (filter r xs))
          (IsPermutation-cons x (filter q xs ++ filter r xs) (filter p xs) rest))
      by_tests false false is apart rest = rw is rest
