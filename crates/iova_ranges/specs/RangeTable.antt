-- What is seen of a set of ranges.
use Rattle.std.specs.Prelude.{ℕ, List}
use Rattle.iofd_words.specs.Bounds.{Bounds}

-- the spans that make up the set, and for how many more there is memory
pub record RangeTable : Type 0 where
  pub spans : List Bounds
  pub room : ℕ
