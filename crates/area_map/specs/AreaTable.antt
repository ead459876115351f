-- What is seen of the areas of an address space.
use Rattle.std.specs.Prelude.{ℕ, Option, List}
use Rattle.iofd_words.specs.Bounds.{Bounds}
use Rattle.iofd_words.specs.declared.rows.Area.{Area}

-- the areas by rising start, for how many more there is memory, the span that is gone over where leaving areas are
-- looked for, and in how many rows the areas are kept, each of which has memory for 32
pub record AreaTable : Type 0 where
  pub areas : List Area
  pub room : ℕ
  pub leaving : Option Bounds
  pub rows : ℕ
