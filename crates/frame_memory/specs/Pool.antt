-- What is seen of a pool of frames, and what each call makes of it.
use Rattle.std.specs.Prelude.{ℕ, ◌≢◌, ◌≤◌, ◌⊎◌, ◌+◌, ◌*◌, ◌^◌, Bool, ◌==◌}
use Rattle.std.specs.Prelude.{◌&&◌, nat_lt, Option, List, [], length}
use Rattle.std.specs.Prelude.{replicate, slice_index, slice_index_or, slice_range, slice_set}
use Rattle.std.specs.List.{count_by, list_all, position, splice}
use Rattle.std.specs.Int.{w64, from_le_bytes, to_le_bytes}

-- how many holds stand on each frame, and each frame's bytes
pub record FramePool : Type 0 where
  pub holds : List ℕ
  pub bytes : List (List ℕ)

-- a frame has 4096 bytes
unfoldable pub frame_size : ℕ
frame_size = 4096

-- the bytes of a frame that reads zero
abbrev pub zeros : List ℕ
zeros = replicate frame_size 0

-- so many frames on which no hold stands
abbrev pub fresh : ℕ → FramePool
fresh count = record { holds = replicate count 0; bytes = replicate count zeros }

-- the frame is one of the pool's, and no hold stands on it
abbrev pub is_free : List ℕ → ℕ → Bool
is_free holds frame = nat_lt frame (length holds) && slice_index holds frame == 0

-- the least frame on which no hold stands
abbrev pub least_free : List ℕ → Option ℕ
least_free holds = position (λ count. count == 0) holds

-- how many frames are free
abbrev pub free_count : List ℕ → ℕ
free_count holds = count_by (λ count. count == 0) holds

-- each frame may have so many holds more
abbrev pub may_hold : List ℕ → ℕ → Bool
may_hold holds count = list_all (λ held. nat_lt (held + count) (2 ^ 128)) holds

-- so many holds stand on the frame
abbrev pub with_holds : FramePool → ℕ → ℕ → FramePool
with_holds pool frame count = record pool { holds = slice_set pool.holds frame count }

-- the bytes of the frame
abbrev pub bytes_of : FramePool → ℕ → List ℕ
bytes_of pool frame = slice_index_or pool.bytes frame []

-- the frame has these bytes
abbrev pub with_bytes : FramePool → ℕ → List ℕ → FramePool
with_bytes pool frame bytes = record pool { bytes = slice_set pool.bytes frame bytes }

-- the frame is given out: one hold stands on it, and it reads zero
abbrev pub given : FramePool → ℕ → FramePool
given pool frame = with_bytes (with_holds pool frame 1) frame zeros

-- so many bytes of the frame from an offset on
abbrev pub bytes_at : FramePool → ℕ → ℕ → ℕ → List ℕ
bytes_at pool frame offset len = slice_range (bytes_of pool frame) offset (offset + len)

-- so many bytes of one frame, and so many of another or the same, have none in common
abbrev pub AreApart : ℕ → ℕ → ℕ → ℕ → ℕ → ℕ → Type 0
AreApart f offset len g at count = (f ≢ g) ⊎ ((offset + len ≤ at) ⊎ (at + count ≤ offset))

-- these bytes stand in the frame from the offset on
abbrev pub written : FramePool → ℕ → ℕ → List ℕ → FramePool
written pool frame offset bytes =
    with_bytes pool frame (splice (bytes_of pool frame) offset (offset + length bytes) bytes)

-- word i of a frame: the little-endian number in its 8 bytes from 8 * i on
abbrev pub word_at : FramePool → ℕ → ℕ → ℕ
word_at pool frame index = from_le_bytes w64 (bytes_at pool frame (8 * index) 8)

abbrev pub with_word : FramePool → ℕ → ℕ → ℕ → FramePool
with_word pool frame index value = written pool frame (8 * index) (to_le_bytes w64 value)
