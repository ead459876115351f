-- What is promised of a result, and what follows from it.
use Rattle.std.proofs.Common.{◌≡◌, Bool, true, false, cond, Option, Some, None, List, [], ◌∷◌, ◌++◌}
use Rattle.std.specs.Option.{MatchOption}
use Rattle.std.specs.Prelude.{IfOk, Result, Ok, Err}
use Rattle.iofd_words.specs.FirstTrue.{first_true}
use Rattle.iofd_words.specs.declared.refusal.Cause.{Cause}

pub if_ok : {T E : Type 0} (r : Result T E) (P Q : T → Type 0) → ((x : T) → P x → Q x) → IfOk r P → IfOk r Q
if_ok (Ok x) P Q more is = more x is
if_ok (Err e) P Q more is = is

pub if_some : {X : Type 0} (P N : Type 0) (Q M : X → Type 0) (o : Option X) → (P → N) → ((x : X) → Q x → M x)
    → MatchOption o P Q → MatchOption o N M
if_some P N Q M None none some is = none is
if_some P N Q M (Some x) none some is = some x is

-- the first of two tables decides where it has a cause
pub told_first : (xs ys : List (Cause × Bool)) (c : Cause) → Some c ≡ first_true xs → Some c ≡ first_true (xs ++ ys)
told_first [] ys c is = cc
told_first (row ∷ xs) ys c is = by_test row.1 is (told_first xs ys c)
  where
    by_test : (b : Bool) → Some c ≡ cond b (Some row.0) (first_true xs)
        → (Some c ≡ first_true xs → Some c ≡ first_true (xs ++ ys))
        → Some c ≡ cond b (Some row.0) (first_true (xs ++ ys))
    by_test true is later = is
    by_test false is later = later is
