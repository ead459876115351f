-- Where a length of addresses fits: whole pages, inside a set of ranges, beside the areas that are there.
use Rattle.std.specs.Prelude.{ℕ, ◌+◌, ◌*◌, ◌/◌, ◌%◌, ◌<◌, ◌≤◌, ◌≡◌, true, false}
use Rattle.std.specs.Prelude.{List, [], ◌∷◌}
use Rattle.iofd_words.specs.Bounds.{Bounds}
use Rattle.iofd_words.specs.Ranges.{in_spans}

-- this many numbers from the start on are in the set and in no area, and the start is a multiple of a page
pub record IsFit (length : ℕ) (spans areas : List Bounds) (start : ℕ) : Type 0 where
  pub whole : start % 4096 ≡ 0
  pub some : 0 < length
  pub inside : (n : ℕ) → start ≤ n → n < start + length → in_spans spans n ≡ true
  pub beside : (n : ℕ) → start ≤ n → n < start + length → in_spans areas n ≡ false

-- no area begins below this number, nor below the area before it
abbrev pub StartsRiseFrom : ℕ → List Bounds → Type 0
StartsRiseFrom low [] = Unit {0}
StartsRiseFrom low (area ∷ areas) = (low ≤ area.first) × StartsRiseFrom area.first areas

-- by rising start; areas may overlap
abbrev pub StartsRise : List Bounds → Type 0
StartsRise areas = StartsRiseFrom 0 areas

-- the least multiple of a page from the number on
abbrev pub whole_from : ℕ → ℕ
whole_from n = (n + 4095) / 4096 * 4096
