-- Of lists, by what is counted in them.
use Rattle.std.proofs.Common.{◌≡◌, ◌+◌, ◌≤◌, Bool, true, false, cond, not, ◌&&◌, ◌||◌, List, [], ◌∷◌}
use Rattle.std.proofs.Common.{refl, sym, ap, ◌∙◌, arith}
use Rattle.std.specs.List.{count_by, list_all, list_any}
use Rattle.std.specs.Prelude.{nat_lt}
use Rattle.std.proofs.lemmas.Bool.Decides.{nat_tests}
use Rattle.std.proofs.lemmas.List.Sums.{sum_by-cons}

counted_first : {X : Type 0} (test : X → Bool) (x : X) (xs : List X)
    → count_by test (x ∷ xs) ≡ cond (test x) 1 0 + count_by test xs
counted_first test x xs = sum_by-cons (λ y. cond (test y) 1 0) x xs

-- some pass a test where any is counted
pub any_counted : {X : Type 0} (test : X → Bool) (xs : List X) → list_any test xs ≡ nat_lt 0 (count_by test xs)
any_counted test [] = refl
any_counted test (x ∷ xs) = rw (counted_first test x xs) (by_test (test x) (any_counted test xs))
  where
    by_test : (b : Bool) → list_any test xs ≡ nat_lt 0 (count_by test xs)
        → (b || list_any test xs) ≡ nat_lt 0 (cond b 1 0 + count_by test xs)
    by_test true rest = grind (arith, nat_tests)
    by_test false rest = rest ∙ ap (λ n. nat_lt 0 n) (omega arith)

-- one of two tests finds where either does
pub any_either : {X : Type 0} (p q : X → Bool) (xs : List X)
    → list_any (λ x. p x || q x) xs ≡ (list_any p xs || list_any q xs)
any_either p q [] = refl
any_either p q (x ∷ xs) = ap (λ later. (p x || q x) || later) (any_either p q xs) ∙ sorted (p x) (q x)
  where
    sorted : (a b : Bool)
        → ((a || b) || (list_any p xs || list_any q xs)) ≡ ((a || list_any p xs) || (b || list_any q xs))
    sorted true b = refl
    sorted false true = or_true (list_any p xs)
      where
        or_true : (c : Bool) → true ≡ (c || true)
        or_true true = refl
        or_true false = refl
    sorted false false = refl

-- ---- where none fails a test

-- of a list in which none fails `good`, two tests that agree on what is good find alike
pub any_alike : {X : Type 0} (good p q : X → Bool) (xs : List X) → count_by (λ x. not (good x)) xs ≡ 0
    → ((x : X) → good x ≡ true → p x ≡ q x) → list_any p xs ≡ list_any q xs
any_alike good p q [] none alike = refl
any_alike good p q (x ∷ xs) none alike =
    by_good (good x) refl (sym (counted_first (λ y. not (good y)) x xs) ∙ none)
    (λ left. any_alike good p q xs left alike)
  where
    by_good : (b : Bool) → good x ≡ b → cond (not b) 1 0 + count_by (λ y. not (good y)) xs ≡ 0
        → (count_by (λ y. not (good y)) xs ≡ 0 → list_any p xs ≡ list_any q xs)
        → (p x || list_any p xs) ≡ (q x || list_any q xs)
    by_good true is left rest = rw (alike x is) (ap (λ later. q x || later) (rest (omega (arith, left))))
    by_good false is left rest = absurd (omega (arith, left))

-- one of them that passes
pub record Passing {X : Type 0} (good p : X → Bool) (xs : List X) : Type 0 where
  pub it : X
  pub is_good : good it ≡ true
  pub passes : p it ≡ true
  pub among : (test : X → Bool) → test it ≡ true → list_any test xs ≡ true

pub passing : {X : Type 0} (good p : X → Bool) (xs : List X) → count_by (λ x. not (good x)) xs ≡ 0
    → list_any p xs ≡ true → Passing good p xs
passing good p [] none some = cc
passing good p (x ∷ xs) none some =
    by_good (good x) refl (sym (counted_first (λ y. not (good y)) x xs) ∙ none) (p x) refl some (λ left found.
    passing good p xs left found)
  where
    by_good : (b : Bool) → good x ≡ b → cond (not b) 1 0 + count_by (λ y. not (good y)) xs ≡ 0
        → (c : Bool) → p x ≡ c → (c || list_any p xs) ≡ true
        → (count_by (λ y. not (good y)) xs ≡ 0 → list_any p xs ≡ true → Passing good p xs)
        → Passing good p (x ∷ xs)
    by_good false is left c passes found rest = absurd (omega (arith, left))
    by_good true is left true passes found rest =
        record { it = x; is_good = is; passes = passes; among = λ test here. rw here refl }
    by_good true is left false passes found rest =
        let later = rest (omega (arith, left)) found in
        record {
          it = later.it;
          is_good = later.is_good;
          passes = later.passes;
          among = λ test there. or_true (test x) (later.among test there);
        }
      where
        or_true : (b : Bool) {c : Bool} → c ≡ true → (b || c) ≡ true
        or_true true is = refl
        or_true false is = is

-- ---- of two tests

-- who passes the first passes the second, so no more pass it
pub count_more : {X : Type 0} (p q : X → Bool) → ((x : X) → p x ≡ true → q x ≡ true) → (xs : List X)
    → count_by p xs ≤ count_by q xs
count_more p q more [] = omega arith
count_more p q more (x ∷ xs) =
    rw (counted_first p x xs, counted_first q x xs) (by_test (p x) (more x) (count_more p q more xs))
  where
    by_test : (b : Bool) → (b ≡ true → q x ≡ true) → count_by p xs ≤ count_by q xs
        → cond b 1 0 + count_by p xs ≤ cond (q x) 1 0 + count_by q xs
    by_test true here rest = rw (here refl) (omega arith)
    by_test false here rest = omega (arith, rest)

-- all pass where none is counted that doesn't
pub all_pass : {X : Type 0} (good : X → Bool) (xs : List X) → count_by (λ x. not (good x)) xs ≡ 0
    → list_all good xs ≡ true
all_pass good [] none = refl
all_pass good (x ∷ xs) none =
    by_good (good x) (sym (counted_first (λ y. not (good y)) x xs) ∙ none) (all_pass good xs)
  where
    by_good : (b : Bool) → cond (not b) 1 0 + count_by (λ y. not (good y)) xs ≡ 0
        → (count_by (λ y. not (good y)) xs ≡ 0 → list_all good xs ≡ true) → (b && list_all good xs) ≡ true
    by_good true left rest = rest (omega (arith, left))
    by_good false left rest = absurd (omega (arith, left))
