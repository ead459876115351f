-- Where the test finds a pass at a frame among what may come of an access, it is among them, and what is told of it among
-- what is told of them.
use Rattle.std.proofs.Common.{◌≡◌, zero, suc, Bool, true, false, ◌||◌, eqb, List, [], ◌∷◌, map, Contains, refl, ap}
use Rattle.std.proofs.Common.{arith}
use Rattle.std.specs.List.{list_any}
use Rattle.std.proofs.lemmas.Bool.Decides.{nat_tests}
use Rattle.iofd_words.specs.Policy.{Outcome, Passes, Denied, is_pass_at}
use Rattle.iofd_words.specs.declared.numbers.FrameNo.{FrameNo}

pub pass_found : (frame : FrameNo) (os : List Outcome) → list_any (is_pass_at frame) os ≡ true
    → Contains os (Passes frame)
pass_found frame [] is = cc
pass_found frame (Denied reason ∷ os) is =
    let rest = pass_found frame os is in (suc rest.0, omega (arith, rest.1), rest.2)
pass_found frame (Passes at ∷ os) is = by_test (eqb at.0 frame.0) refl is (λ later. pass_found frame os later)
  where
    by_test : (b : Bool) → eqb at.0 frame.0 ≡ b → (b || list_any (is_pass_at frame) os) ≡ true
        → (list_any (is_pass_at frame) os ≡ true → Contains os (Passes frame))
        → Contains (Passes at ∷ os) (Passes frame)
    by_test true same is later = let numbers : at.0 ≡ frame.0 =
        search (same, arith, nat_tests) in (0, omega arith, ap (λ n. Passes (record { 0 = n })) numbers)
    by_test false same is later = let rest = later is in (suc rest.0, omega (arith, rest.1), rest.2)

pub contained_map : {X Y : Type 0} (f : X → Y) (xs : List X) (x : X) → Contains xs x → Contains (map f xs) (f x)
contained_map f [] x has = absurd (omega (arith, has.1))
contained_map f (y ∷ xs) x (zero, below, same) = (0, omega arith, ap f same)
contained_map f (y ∷ xs) x (suc place, below, same) =
    let rest = contained_map f xs x (place, omega (arith, below), same) in (suc rest.0, omega (arith, rest.1), rest.2)
