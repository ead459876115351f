-- What holds of every pool.
use Rattle.std.specs.Prelude.{ℕ, ◌≡◌, ◌≤◌, ◌-◌, List, ◌++◌, length, map, replicate}
use Rattle.frame_memory.specs.FreeMap.{has_frame}
use Rattle.frame_memory.specs.Pool.{FramePool, free_count, is_free, zeros}
use Rattle.frame_memory.specs.declared.pool.Frame.{Frame}

-- the words tell which frames are free, and the number is how many those are
pub record TellsFree (words : List ℕ) (count : ℕ) (holds : List ℕ) : Type 0 where
  pub few : length holds ≤ 4096
  pub tells : (f : ℕ) → has_frame words f ≡ is_free holds f
  pub counts : count ≡ free_count holds

-- what is seen of the frames
abbrev pub seen : List Frame → FramePool
seen frames = record { holds = map (λ frame. frame.holds) frames; bytes = map (λ frame. frame.bytes) frames }

-- a frame on which no hold stands, and that reads zero
abbrev pub fresh_frame : Frame
fresh_frame = record { holds = 0; bytes = zeros }

-- so many frames: those that were written, and fresh ones behind them
abbrev pub all_frames : List Frame → ℕ → List Frame
all_frames written count = written ++ replicate (count - length written) fresh_frame

-- of so many frames there are no more than that and there is room for each, and it is told which are free
pub record IsKept (written : List Frame) (room count : ℕ) (words : List ℕ) (free : ℕ) : Type 0 where
  pub few : length written ≤ count
  pub fits : count ≤ room
  pub told : TellsFree words free (seen (all_frames written count)).holds
