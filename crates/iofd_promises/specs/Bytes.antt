-- What stands in the frames of the pool, read off the writes that were made: a byte is what the newest write over it
-- has put there, and zero where none has.
use Rattle.std.specs.Prelude.{◌≡◌, ◌<◌, ◌≤◌, ℕ, ◌+◌, ◌==◌, Bool, true, false, Option, Some}
use Rattle.std.specs.Prelude.{None, List, [], ◌∷◌, length}
use Rattle.std.specs.Prelude.{slice_get, if◌then◌else◌}
use Rattle.iofd_words.specs.Frames.{FrameWrite}
use Rattle.iofd_words.specs.World.{World}
use Rattle.iofd_words.specs.declared.event.Event.{Event}
use Rattle.iofd_words.specs.declared.event.Event.TheVariants as event
use Rattle.iofd_words.specs.declared.reply.Reply.{Reply}
use Rattle.iofd_words.specs.declared.reply.Reply.TheVariants as reply

-- of bytes that lie from a place on, the one at this place
abbrev pub byte_in : ℕ → List ℕ → ℕ → Option ℕ
byte_in from [] place = None
byte_in from (byte ∷ bytes) place = if place == from then Some byte else byte_in (from + 1) bytes place

-- what a write has put at this place of a frame, if it reaches it
abbrev pub put_by : FrameWrite → ℕ → ℕ → Option ℕ
put_by write frame place = if write.frame == frame then byte_in write.offset write.bytes place else None

-- the byte at this place of a frame, with the newest write first
abbrev pub reads : List FrameWrite → ℕ → ℕ → ℕ
reads [] frame place = 0
reads (write ∷ writes) frame place =
    elim (put_by write frame place) [ Some byte ↦ byte | None ↦ reads writes frame place ]

-- from this place of the frame on these bytes were written, and every other byte of every frame is what it was
pub record ChangesJust (old new : World) (frame start : ℕ) (bytes : List ℕ) : Type 0 where
  pub written : (k byte : ℕ) → slice_get bytes k ≡ Some byte → reads new.writes frame (start + k) ≡ byte
  pub others : (other place : ℕ) → (other ≡ frame → start ≤ place → place < start + length bytes → ⊥)
      → reads new.writes other place ≡ reads old.writes other place

-- so many bytes, those that stand in the frame from this place on
pub record AreBytesOf (w : World) (frame start len : ℕ) (bytes : List ℕ) : Type 0 where
  pub count : length bytes ≡ len
  pub each : (k byte : ℕ) → slice_get bytes k ≡ Some byte → byte ≡ reads w.writes frame (start + k)

-- the record changes bytes: a user's write or an access object's that is done, or a device's that passes
abbrev pub changes_bytes : {A : Type 0} → Event A → Reply → Bool
changes_bytes (event.UserWrite user va bytes) reply.Done = true
changes_bytes (event.DeviceWrite device iova bytes) (reply.Passed frame) = true
changes_bytes (event.AccessWrite file access iova bytes) reply.Done = true
changes_bytes e answer = false
