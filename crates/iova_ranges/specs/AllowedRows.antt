-- What is seen of the allowed ranges of all address spaces.
use Rattle.std.specs.Prelude.{ℕ, List}
use Rattle.iofd_words.specs.Allowed.{AllowedRanges}

-- the rows of the address spaces that have any, and for how many more of them there is memory
pub record AllowedRows : Type 0 where
  pub rows : List AllowedRanges
  pub room : ℕ
