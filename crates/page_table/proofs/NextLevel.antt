-- The level below another one.
use Rattle.std.proofs.Common.{◌≡◌, ℕ, ◌-◌, ◌<◌, ◌≤◌, arith}

pub above_one : (level : ℕ) → 0 < level → (level ≡ 1 → ⊥) → 1 < level
above_one level some more = omega (arith, some, more)

pub some_below : (level : ℕ) → 1 < level → 0 < level - 1
some_below level low = omega (arith, low)

pub few_below : (level : ℕ) → level ≤ 5 → level - 1 ≤ 5
few_below level few = omega (arith, few)
