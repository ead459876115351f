-- Who reaches a frame, and what its bytes are.
use Rattle.std.specs.Prelude.{ℕ, ◌+◌, ◌-◌, Bool, ◌==◌, ◌&&◌, ◌||◌, not, nat_le, nat_lt, Option, is_some}
use Rattle.std.specs.Prelude.{Some, None, List, []}
use Rattle.std.specs.Prelude.{◌∷◌, length, map, filter, find, slice_index, if◌then◌else◌}
use Rattle.std.specs.List.{count_by, list_all, list_any, range_with_len}
use Rattle.iofd_words.specs.declared.numbers.FrameNo.{FrameNo}
use Rattle.iofd_words.specs.declared.numbers.UserNo.{UserNo}
use Rattle.iofd_words.specs.declared.rows.UserPage.{UserPage}
use Rattle.iofd_words.specs.declared.rows.Pin.{Pin}
use Rattle.iofd_words.specs.declared.rows.TableFrame.{TableFrame}

-- the frame of a page in a user's memory
abbrev pub frame_at : List UserPage → UserNo → ℕ → Option FrameNo
frame_at pages user page =
    elim (find (λ p. p.user.0 == user.0 && p.page == page) pages) [ Some p ↦ Some p.frame | None ↦ None ]

-- the pages from this one on, so many of them, are in the user's memory, by a look-up of the frames of its pages
abbrev pub has_pages : (UserNo → ℕ → Option FrameNo) → UserNo → ℕ → ℕ → Bool
has_pages frame_at user page count = list_all (λ i. is_some (frame_at user (page + i))) (range_with_len 0 count)

-- the users' memory without this page
abbrev pub without_page : List UserPage → UserNo → ℕ → List UserPage
without_page pages user page = filter (λ p. not (p.user.0 == user.0 && p.page == page)) pages

-- a user's memory, a pin or a page table names the frame
abbrev pub is_reached : List UserPage → List Pin → List TableFrame → ℕ → Bool
is_reached pages pins tables frame =
    list_any (λ p. p.frame.0 == frame) pages || list_any (λ pin. pin.frame.0 == frame) pins
    || list_any (λ table. table.frame.0 == frame) tables

-- a frame of the pool that nobody reaches
abbrev pub is_free : ℕ → List UserPage → List Pin → List TableFrame → ℕ → Bool
is_free pool pages pins tables frame = nat_lt frame pool && not (is_reached pages pins tables frame)

-- how many those are
abbrev pub free_count : ℕ → List UserPage → List Pin → List TableFrame → ℕ
free_count pool pages pins tables = count_by (is_free pool pages pins tables) (range_with_len 0 pool)

-- bytes that were written into a frame, from an offset on
pub record FrameWrite : Type 0 where
  pub frame : ℕ
  pub offset : ℕ
  pub bytes : List ℕ

-- the write covers this byte
abbrev pub covers : FrameWrite → ℕ → ℕ → Bool
covers write frame offset =
    write.frame == frame && nat_le write.offset offset && nat_lt offset (write.offset + length write.bytes)

-- a byte of a frame: what was written there last, else zero
abbrev pub byte_at : List FrameWrite → ℕ → ℕ → ℕ
byte_at [] frame offset = 0
byte_at (write ∷ writes) frame offset =
    if covers write frame offset then slice_index write.bytes (offset - write.offset) else byte_at writes frame offset

abbrev pub bytes_at : List FrameWrite → ℕ → ℕ → ℕ → List ℕ
bytes_at writes frame offset len = map (byte_at writes frame) (range_with_len offset len)

-- the writes and this one into the frame, if there is one, from the offset on
abbrev pub with_write : Option FrameNo → ℕ → List ℕ → List FrameWrite → List FrameWrite
with_write None offset bytes writes = writes
with_write (Some frame) offset bytes writes = record { frame = frame.0; offset = offset; bytes = bytes } ∷ writes

-- what is left of the writes when a frame is given out: its old bytes are gone
abbrev pub without_frame : ℕ → List FrameWrite → List FrameWrite
without_frame frame writes = filter (λ write. not (write.frame == frame)) writes
