-- How many areas lie over a memory object, and how many of them page tables translate, as areas and page tables come
-- and go.
use Rattle.std.proofs.Common.{◌≡◌, ℕ, ◌+◌, ◌≤◌, Bool, true, false, cond, ◌&&◌, ◌||◌, not, eqb, Some, is_some, List}
use Rattle.std.proofs.Common.{[], ◌∷◌, map, refl, ap, sym, ◌∙◌, arith}
use Rattle.std.specs.List.{count_by, filter, find}
use Rattle.std.proofs.lemmas.Bool.Decides.{nat_tests}
use Rattle.iofd_words.specs.Areas.{lies_before, with_area}
use Rattle.iofd_words.specs.declared.rows.Area.{Area}
use Rattle.iofd_rows.proofs.Inserted.{count-inserted}
use Rattle.user_memory_rows.proofs.CountBy.{count-cons}

-- ---- tests on rows

module _ {X : Type 0} where
  -- rows that pass a test, and those that don't
  pub count_parts : (p goes : X → Bool) (xs : List X)
      → count_by p (filter (λ x. not (goes x)) xs) + count_by p (filter goes xs) ≡ count_by p xs
  count_parts p goes [] = refl
  count_parts p goes (x ∷ xs) = by_test (goes x) refl (count_parts p goes xs)
    where
      by_test : (b : Bool) → goes x ≡ b → count_by p (filter (λ x. not (goes x)) xs)
          + count_by p (filter goes xs) ≡ count_by p xs
          → count_by p (cond (not b) (x ∷ filter (λ x. not (goes x)) xs) (filter (λ x. not (goes x)) xs))
          + count_by p (cond b (x ∷ filter goes xs) (filter goes xs)) ≡ count_by p (x ∷ xs)
      by_test true is rest =
          let one = count-cons p x (filter goes xs) in
          let all = count-cons p x xs in
          omega (arith, rest, one, all)
      by_test false is rest =
          let one = count-cons p x (filter (λ x. not (goes x)) xs) in
          let all = count-cons p x xs in
          omega (arith, rest, one, all)

  -- a test that is one of two, and never both
  pub count_split : (p q here : X → Bool) (xs : List X) → ((x : X) → p x ≡ (q x || here x))
      → ((x : X) → (q x && here x) ≡ false) → count_by p xs ≡ count_by q xs + count_by here xs
  count_split p q here [] either apart = refl
  count_split p q here (x ∷ xs) either apart =
      let rest = count_split p q here xs either apart in
      let one = by_tests (p x) (q x) (here x) (either x) (apart x) in
      let ps = count-cons p x xs in
      let qs = count-cons q x xs in
      let hs = count-cons here x xs in
      omega (arith, rest, one, ps, qs, hs)
    where
      by_tests : (a b c : Bool) → a ≡ (b || c) → (b && c) ≡ false → cond a 1 0 ≡ cond {A = ℕ} b 1 0 + cond {A = ℕ} c 1 0
      by_tests a true true is apart = cc
      by_tests a true false is apart = rw is refl
      by_tests a false true is apart = rw is refl
      by_tests a false false is apart = rw is refl

  pub count_alike : (p q : X → Bool) (xs : List X) → ((x : X) → p x ≡ q x) → count_by p xs ≡ count_by q xs
  count_alike p q [] same = refl
  count_alike p q (x ∷ xs) same = count-cons p x xs ∙ rw (same x, count_alike p q xs same) (sym (count-cons q x xs))

  pub count_fewer : (p q : X → Bool) (xs : List X) → ((x : X) → p x ≡ true → q x ≡ true) → count_by p xs ≤ count_by q xs
  count_fewer p q [] stronger = omega arith
  count_fewer p q (x ∷ xs) stronger =
      let rest = count_fewer p q xs stronger in
      let one = by_tests (p x) (q x) (stronger x) in
      let ps = count-cons p x xs in
      let qs = count-cons q x xs in
      omega (arith, rest, one, ps, qs)
    where
      by_tests : (a b : Bool) → (a ≡ true → b ≡ true) → cond {A = ℕ} a 1 0 ≤ cond {A = ℕ} b 1 0
      by_tests true true is = omega arith
      by_tests true false is = let never : false ≡ true = is refl in cc
      by_tests false true is = omega arith
      by_tests false false is = omega arith

  -- of the rows that pass a test
  pub count_within : (p goes : X → Bool) (xs : List X) → count_by p (filter goes xs) ≡ count_by (λ x. goes x && p x) xs
  count_within p goes [] = refl
  count_within p goes (x ∷ xs) = by_test (goes x) refl (count_within p goes xs)
    where
      by_test : (b : Bool) → goes x ≡ b → count_by p (filter goes xs) ≡ count_by (λ x. goes x && p x) xs
          → count_by p (cond b (x ∷ filter goes xs) (filter goes xs)) ≡ count_by (λ x. goes x && p x) (x ∷ xs)
      by_test true is rest =
          let all : count_by (λ x. goes x && p x) (x ∷ xs) ≡ cond (p x) 1 0 + count_by (λ x. goes x && p x) xs =
          count-cons (λ x. goes x && p x) x xs ∙ rw is refl in
          let one = count-cons p x (filter goes xs) in
          omega (arith, rest, all, one)
      by_test false is rest =
          let all : count_by (λ x. goes x && p x) (x ∷ xs) ≡ 0 + count_by (λ x. goes x && p x) xs =
          count-cons (λ x. goes x && p x) x xs ∙ rw is refl in
          omega (arith, rest, all)

  -- one is found where there is one
  pub count_found : (p : X → Bool) (xs : List X) → eqb (count_by p xs) 0 ≡ not (is_some (find p xs))
  count_found p [] = refl
  count_found p (x ∷ xs) = ap (λ n. eqb n 0) (count-cons p x xs) ∙ by_test (p x) (count_found p xs)
    where
      by_test : (b : Bool) → eqb (count_by p xs) 0 ≡ not (is_some (find p xs))
          → eqb (cond b 1 0 + count_by p xs) 0 ≡ not (is_some (cond b (Some x) (find p xs)))
      by_test true rest = positive (count_by p xs)
        where
          positive : (n : ℕ) → eqb (1 + n) 0 ≡ false
          positive n = grind (arith, nat_tests)
      by_test false rest = ap (λ n. eqb n 0) (omega arith) ∙ rest

-- ---- an area comes

pub count_with_area : (p : Area → Bool) (x : Area) (areas : List Area)
    → count_by p (with_area x areas) ≡ count_by p areas + cond (p x) 1 0
count_with_area p x areas = let all = count-inserted lies_before p x areas in omega (arith, all)

-- ---- areas change, and keep their memory objects and address spaces

pub count_map : (p : Area → Bool) (f : Area → Area) (areas : List Area) → ((a : Area) → p (f a) ≡ p a)
    → count_by p (map f areas) ≡ count_by p areas
count_map p f [] same = refl
count_map p f (a ∷ areas) same =
    count-cons p (f a) (map f areas) ∙ rw (same a, count_map p f areas same) (sym (count-cons p a areas))
