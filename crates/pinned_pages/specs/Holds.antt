-- What pins make of a pool: a hold for each.
use Rattle.std.specs.Prelude.{ℕ, ◌≡◌, ◌≤◌, ◌+◌, ◌==◌}
use Rattle.std.specs.Prelude.{List, length, slice_index}
use Rattle.std.specs.List.{count_by}
use Rattle.iofd_words.specs.declared.numbers.FrameNo.{FrameNo}
use Rattle.frame_memory.specs.Pool.{FramePool}

-- how many times the frame is in the list
abbrev pub times : ℕ → List FrameNo → ℕ
times frame frames = count_by (λ f. f.0 == frame) frames

-- a pool with these holds has one on each frame for each time that it is in the list
abbrev pub AreHeld : List FrameNo → List ℕ → Type 0
AreHeld frames holds = (frame : ℕ) → times frame frames ≤ slice_index holds frame

-- of two pools the second has one hold more for each time that a frame is in the list; all else is the same
pub record HasMoreHolds (less more : FramePool) (frames : List FrameNo) : Type 0 where
  pub count : length more.holds ≡ length less.holds
  pub holds : (frame : ℕ) → slice_index more.holds frame ≡ slice_index less.holds frame + times frame frames
  pub bytes : more.bytes ≡ less.bytes
