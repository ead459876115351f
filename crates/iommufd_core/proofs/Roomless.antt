-- What a growth says of the room that there was.
use Rattle.std.proofs.Common.{◌≡◌, ◌≤◌, ◌-◌, ℕ, true, false, Result, Ok, Err, arith}
use Rattle.std.specs.Result.{OnErr, OnOk, is_err}

-- one that fails only where there was none
pub no_room : {X E : Type 0} (r : Result X E) (length room : ℕ) → OnErr r (room ≤ length) → is_err r ≡ true
    → room - length ≡ 0
no_room (Ok x) length room full failed = absurd cc
no_room (Err e) length room full failed = omega (arith, full)

-- what holds where it succeeds
pub of_success : {X E : Type 0} (r : Result X E) (P : Type 0) → OnOk r P → is_err r ≡ false → P
of_success (Ok x) P known is = known
of_success (Err e) P known is = absurd cc
