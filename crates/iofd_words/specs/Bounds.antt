-- A span as its first and last number.
use Rattle.std.specs.Prelude.{ℕ}

pub record Bounds : Type 0 where
  pub first : ℕ
  pub last : ℕ
