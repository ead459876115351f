-- What is left out of a set, and where.
use Rattle.std.specs.Prelude.{ℕ, ◌≡◌, ◌≤◌, true, false, List}
use Rattle.iofd_words.specs.Bounds.{Bounds}
use Rattle.iofd_words.specs.Ranges.{AreMerged, in_spans}
use Rattle.iofd_words.specs.Span.{meets}

-- the gap meets the span, and none of its numbers, of which there are some, is in the set
pub record IsGap (spans : List Bounds) (span gap : Bounds) : Type 0 where
  pub ordered : gap.first ≤ gap.last
  pub met : meets gap span ≡ true
  pub out : (n : ℕ) → gap.first ≤ n → n ≤ gap.last → in_spans spans n ≡ false

-- the merged spans make up the same set as the ranges
pub record IsSetOf (spans ranges : List Bounds) : Type 0 where
  pub merged : AreMerged spans
  pub set : (n : ℕ) → in_spans spans n ≡ in_spans ranges n
