-- How many rows pass a test.
use Rattle.std.proofs.Common.{◌≡◌, ◌+◌, Bool, true, false, cond, ◌||◌, ltb, List, [], ◌∷◌, refl, ap, sym, ◌∙◌, arith}
use Rattle.std.specs.List.{count_by, list_any}
use Rattle.std.proofs.lemmas.Bool.Decides.{nat_tests}
use Rattle.std.proofs.lemmas.List.Sums.{sum_by-cons}

pub count-cons : {X : Type 0} (p : X → Bool) (x : X) (xs : List X)
    → count_by p (x ∷ xs) ≡ cond (p x) 1 0 + count_by p xs
count-cons p x xs = sum_by-cons (λ y. cond (p y) 1 0) x xs

-- some row passes a test just where the rows that pass are counted
pub any_count : {X : Type 0} (p : X → Bool) (xs : List X) → list_any p xs ≡ ltb 0 (count_by p xs)
any_count p [] = refl
any_count p (x ∷ xs) = by_test (p x) (any_count p xs) ∙ ap (ltb 0) (sym (count-cons p x xs))
  where
    by_test : (b : Bool) → list_any p xs ≡ ltb 0 (count_by p xs)
        → (b || list_any p xs) ≡ ltb 0 (cond b 1 0 + count_by p xs)
    by_test true rest = search (arith, nat_tests)
    by_test false rest = rest ∙ ap (ltb 0) (omega arith)
