-- Which frames are free, as words of 64 bits each.
use Rattle.std.specs.Prelude.{ℕ, ◌≡◌, ◌<◌, ◌/◌, ◌%◌, Bool, true, false, not, ◌==◌, List}
use Rattle.std.specs.Prelude.{length, slice_index}
use Rattle.std.specs.Int.{bit_at}

-- frame f has bit f % 64 of word f / 64
abbrev pub has_frame : List ℕ → ℕ → Bool
has_frame words frame = bit_at (slice_index words (frame / 64)) (frame % 64) == 1

-- the frame is there, and none below it
pub record IsLeast (words : List ℕ) (frame : ℕ) : Type 0 where
  pub there : has_frame words frame ≡ true
  pub below : (f : ℕ) → f < frame → has_frame words f ≡ false

-- bit k of the summary is set exactly where word k isn't 0
pub record IsSummed (words : List ℕ) (summary : ℕ) : Type 0 where
  pub count : length words ≡ 64
  pub bits : (k : ℕ) → k < 64 → (bit_at summary k == 1) ≡ not (slice_index words k == 0)
