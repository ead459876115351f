-- Frames that tables take: each is in the list once.
use Rattle.std.proofs.Common.{◌≡◌, ℕ, ◌+◌, ◌<◌, ◌≤◌, Bool, true, false, cond, ◌||◌, not, eqb, ltb, List, [], ◌∷◌, refl}
use Rattle.std.proofs.Common.{ap, sym, ◌∙◌, inl, inr, arith}
use Rattle.std.specs.List.{count_by, list_any}
use Rattle.std.proofs.lemmas.Bool.Decides.{nat_tests}
use Rattle.iofd_rows.proofs.Bools.{and_true, not_true}
use Rattle.iofd_rows.proofs.Each.{IsIn}
use Rattle.iofd_words.specs.Tables.{are_different, is_among}
use Rattle.iofd_words.specs.declared.numbers.FrameNo.{FrameNo}
use Rattle.user_memory_rows.proofs.CountBy.{any_count, count-cons}
use Rattle.server_state.proofs.GivenBack.{times_in}

pub record IsThere {X : Type 0} (p : X → Bool) (xs : List X) : Type 0 where
  pub one : X
  pub within : IsIn xs one
  pub passes : p one ≡ true

some_there : {X : Type 0} (p : X → Bool) (xs : List X) → list_any p xs ≡ true → IsThere p xs
some_there p [] some = cc
some_there p (x ∷ xs) some = by_test (p x) refl some (some_there p xs)
  where
    by_test : (b : Bool) → p x ≡ b → (b || list_any p xs) ≡ true → (list_any p xs ≡ true → IsThere p xs)
        → IsThere p (x ∷ xs)
    by_test true is some later = record { one = x; within = inl refl; passes = is }
    by_test false is some later =
        let rest = later some in record { one = rest.one; within = inr rest.within; passes = rest.passes }

-- one that is counted
pub counted_there : {X : Type 0} (p : X → Bool) (xs : List X) → 0 < count_by p xs → IsThere p xs
counted_there p xs more = some_there p xs (any_count p xs
    ∙ (let positive : ltb 0 (count_by p xs) ≡ true = search (more, arith, nat_tests) in positive))

-- frames of which each is another are there once at most
pub each_once : (frames : List FrameNo) (f : ℕ) → are_different frames ≡ true → times_in frames f ≤ 1
each_once [] f different = omega arith
each_once (x ∷ frames) f different =
    let parts = and_true (not (is_among frames x)) (are_different frames) different in
    let rest = each_once frames f parts.1 in
    let all = count-cons (λ (y : FrameNo). eqb y.0 f) x frames in
    by_test (eqb x.0 f) refl parts.0 rest all
  where
    by_test : (b : Bool) → eqb x.0 f ≡ b → not (is_among frames x) ≡ true → times_in frames f ≤ 1
        → times_in (x ∷ frames) f ≡ cond b 1 0 + times_in frames f → times_in (x ∷ frames) f ≤ 1
    by_test false is apart rest all = omega (arith, rest, all)
    by_test true is apart rest all =
        let same : x.0 ≡ f = search (is, arith, nat_tests) in
        let none : ltb 0 (times_in frames x.0) ≡ false =
        sym (any_count (λ (y : FrameNo). eqb y.0 x.0) frames) ∙ not_true (is_among frames x) apart in
        let zero_there : times_in frames x.0 ≡ 0 = search (none, arith, nat_tests) in
        let here = ap (times_in frames) same in
        omega (arith, all, zero_there, here)
