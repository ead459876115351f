-- What a list contains, and what is in it.
use Rattle.std.proofs.Common.{zero, suc, List, [], ◌∷◌, Contains, arith, inl, inr}
use Rattle.iofd_rows.proofs.Each.{IsIn}
use Rattle.iofd_rows.proofs.ListTests.{contains_first, contains_later}

pub contains : {X : Type 0} (xs : List X) (x : X) → IsIn xs x → Contains xs x
contains [] x within = absurd within
contains (y ∷ ys) x (inl same) = rw (← same) (contains_first y ys)
contains (y ∷ ys) x (inr later) = contains_later x y ys (contains ys x later)

pub within : {X : Type 0} (xs : List X) (x : X) → Contains xs x → IsIn xs x
within [] x (k, below, is) = absurd (omega (arith, below))
within (y ∷ ys) x (zero, below, is) = inl is
within (y ∷ ys) x (suc k, below, is) = inr (within ys x (k, omega (arith, below), is))
