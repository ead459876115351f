-- The first of two lists of checks, one after the other.
use Rattle.std.proofs.Common.{◌≡◌, Bool, true, false, List, [], ◌∷◌, ◌++◌, Some, None, refl}
use Rattle.iofd_words.specs.FirstTrue.{first_true}

pub earlier : {A : Type 0} (xs ys : List (A × Bool)) (k : A) → Some k ≡ first_true xs → Some k ≡ first_true (xs ++ ys)
earlier [] ys k e = absurd cc
earlier ((name, true) ∷ xs) ys k e = e
earlier ((name, false) ∷ xs) ys k e = earlier xs ys k e

pub later : {A : Type 0} (xs ys : List (A × Bool)) → None ≡ first_true xs → first_true (xs ++ ys) ≡ first_true ys
later [] ys e = refl
later ((name, true) ∷ xs) ys e = absurd cc
later ((name, false) ∷ xs) ys e = later xs ys e
