-- Sets of addresses from which some are left out.
use Rattle.std.specs.Prelude.{ℕ, ◌≡◌, Bool, ◌&&◌, not, List}
use Rattle.iofd_words.specs.Bounds.{Bounds}
use Rattle.iofd_words.specs.Ranges.{AreMerged, in_spans}

-- the span of one address
abbrev pub only : ℕ → Bounds
only n = record { first = n; last = n }

-- of a set's numbers just those that pass the test are gone
pub record LeavesOut (test : ℕ → Bool) (before after : List Bounds) : Type 0 where
  pub numbers : (n : ℕ) → in_spans after n ≡ (in_spans before n && not (test n))
  pub merged : AreMerged before → AreMerged after
