-- The bytes of frames, by a list of writes.
use Rattle.std.proofs.Common.{◌≡◌, ◌≢◌, ◌<◌, ◌≤◌, ℕ, zero, suc, ◌+◌, ◌-◌, Bool, true, false, cond, ◌&&◌, not, eqb, leb}
use Rattle.std.proofs.Common.{ltb, Option, Some, None, List, [], ◌∷◌, length, map, refl, ap, sym, ◌∙◌, arith}
use Rattle.std.specs.List.{range_with_len, slice_get, slice_index}
use Rattle.std.proofs.lemmas.Bool.{eqb-true}
use Rattle.std.proofs.lemmas.List.FromFn.{length-map-range_with_len}
use Rattle.std.proofs.lemmas.Option.{slice_get-get_or}
use Rattle.std.proofs.lemmas.Bool.Decides.{nat_tests}
use Rattle.iofd_words.specs.Frames.{FrameWrite, byte_at, bytes_at, covers, without_frame}
use Rattle.iofd_words.specs.World.{World}
use Rattle.iofd_rows.proofs.Bools.{and_true, both_true, clash}
use Rattle.iofd_rows.proofs.ListTests.{false_else}
use Rattle.iofd_promises.specs.Bytes.{AreBytesOf, byte_in, put_by, reads}

-- ---- one write

pub byte_in_at : (from k : ℕ) (bytes : List ℕ) → byte_in from bytes (from + k) ≡ slice_get bytes k
byte_in_at from k [] = refl
byte_in_at from zero (b ∷ bytes) = let here : eqb (from + 0) from ≡ true = search (arith, nat_tests) in rw here refl
byte_in_at from (suc k) (b ∷ bytes) =
    let other : eqb (from + suc k) from ≡ false = search (arith, nat_tests) in
    let moved : from + suc k ≡ from + 1 + k = omega arith in
    rw other (ap (byte_in (from + 1) bytes) moved ∙ byte_in_at (from + 1) k bytes)

pub byte_in_none : (from place : ℕ) (bytes : List ℕ) → (from ≤ place → place < from + length bytes → ⊥)
    → byte_in from bytes place ≡ None
byte_in_none from place [] outside = refl
byte_in_none from place (b ∷ bytes) outside =
    let other : eqb place from ≡ false = false_else (eqb place from)
    (λ is. let same = eqb-true place from is in outside (omega (arith, same)) (omega (arith, same))) in
    rw other (byte_in_none (from + 1) place bytes
    (λ above below. outside (omega (arith, above)) (omega (arith, below))))

put_itself : (frame from place : ℕ) (bytes : List ℕ)
    → put_by (record { frame = frame; offset = from; bytes = bytes }) frame place ≡ byte_in from bytes place
put_itself frame from place bytes = let same : eqb frame frame ≡ true = search (arith, nat_tests) in rw same refl

not_put : (write : FrameWrite) (frame place : ℕ) → eqb write.frame frame ≡ false → put_by write frame place ≡ None
not_put write frame place is = ap (λ (b : Bool). cond b (byte_in write.offset write.bytes place) None) is

-- a read that meets the newest write, or goes past it
reads_here : (write : FrameWrite) (writes : List FrameWrite) (frame place byte : ℕ)
    → put_by write frame place ≡ Some byte → reads (write ∷ writes) frame place ≡ byte
reads_here write writes frame place byte is =
    ap (λ (o : Option ℕ). elim o [ Some byte ↦ byte | None ↦ reads writes frame place ]) is

reads_past : (write : FrameWrite) (writes : List FrameWrite) (frame place : ℕ) → put_by write frame place ≡ None
    → reads (write ∷ writes) frame place ≡ reads writes frame place
reads_past write writes frame place is =
    ap (λ (o : Option ℕ). elim o [ Some byte ↦ byte | None ↦ reads writes frame place ]) is

-- what was written last reads back
pub reads_written : (writes : List FrameWrite) (frame start : ℕ) (bytes : List ℕ) (k byte : ℕ)
    → slice_get bytes k ≡ Some byte
    → reads (record { frame = frame; offset = start; bytes = bytes } ∷ writes) frame (start + k) ≡ byte
reads_written writes frame start bytes k byte is =
    reads_here (record { frame = frame; offset = start; bytes = bytes }) writes frame (start + k) byte
    (put_itself frame start (start + k) bytes ∙ byte_in_at start k bytes ∙ is)

-- every other byte stays
pub reads_others : (writes : List FrameWrite) (frame start : ℕ) (bytes : List ℕ) (other place : ℕ)
    → (other ≡ frame → start ≤ place → place < start + length bytes → ⊥)
    → reads (record { frame = frame; offset = start; bytes = bytes } ∷ writes) other place ≡ reads writes other place
reads_others writes frame start bytes other place outside =
    reads_past (record { frame = frame; offset = start; bytes = bytes }) writes other place
    (by_frame (eqb frame other) refl)
  where
    by_frame : (b : Bool) → eqb frame other ≡ b → cond b (byte_in start bytes place) None ≡ None
    by_frame true is = byte_in_none start place bytes (outside (sym (eqb-true frame other is)))
    by_frame false is = refl

-- ---- a frame without its writes

pub reads_given : (frame place : ℕ) (writes : List FrameWrite) → reads (without_frame frame writes) frame place ≡ 0
reads_given frame place [] = refl
reads_given frame place (write ∷ writes) = by_frame (eqb write.frame frame) refl (reads_given frame place writes)
  where
    by_frame : (b : Bool) → eqb write.frame frame ≡ b → reads (without_frame frame writes) frame place ≡ 0
        → reads (cond (not b) (write ∷ without_frame frame writes) (without_frame frame writes)) frame place ≡ 0
    by_frame true is rest = rest
    by_frame false is rest =
        reads_past write (without_frame frame writes) frame place (not_put write frame place is) ∙ rest

pub reads_not_given : (given frame place : ℕ) (writes : List FrameWrite) → given ≢ frame
    → reads (without_frame given writes) frame place ≡ reads writes frame place
reads_not_given given frame place [] other = refl
reads_not_given given frame place (write ∷ writes) other =
    by_frame (eqb write.frame given) refl (reads_not_given given frame place writes other)
  where
    by_frame : (b : Bool) → eqb write.frame given ≡ b
        → reads (without_frame given writes) frame place ≡ reads writes frame place
        → reads (cond (not b) (write ∷ without_frame given writes) (without_frame given writes)) frame place ≡ reads
        (write ∷ writes) frame place
    by_frame true is rest =
        let same = eqb-true write.frame given is in
        let apart : eqb write.frame frame ≡ false =
        false_else (eqb write.frame frame) (λ also. other (sym same ∙ eqb-true write.frame frame also)) in
        rest ∙ sym (reads_past write writes frame place (not_put write frame place apart))
    by_frame false is rest = ap (λ (byte : ℕ). elim (put_by write frame place) [ Some byte ↦ byte | None ↦ byte ]) rest

-- ---- what a read is answered

in_write : (write : FrameWrite) (frame place : ℕ) → covers write frame place ≡ true
    → put_by write frame place ≡ Some (slice_index write.bytes (place - write.offset))
in_write write frame place is =
    let parts =
    and_true (eqb write.frame frame && leb write.offset place) (ltb place (write.offset + length write.bytes)) is in
    let firsts = and_true (eqb write.frame frame) (leb write.offset place) parts.0 in
    let within : place - write.offset < length write.bytes = search (firsts.1, parts.1, arith, nat_tests) in
    let place_is : place ≡ write.offset + (place - write.offset) = search (firsts.1, arith, nat_tests) in
    rw firsts.0 (ap (byte_in write.offset write.bytes) place_is
    ∙ byte_in_at write.offset (place - write.offset) write.bytes
    ∙ slice_get-get_or write.bytes (place - write.offset) 0 within)

beside_write : (write : FrameWrite) (frame place : ℕ) → covers write frame place ≡ false
    → put_by write frame place ≡ None
beside_write write frame place is = by_frame (eqb write.frame frame) is
  where
    outside : (leb write.offset place && ltb place (write.offset + length write.bytes)) ≡ false → write.offset ≤ place
        → place < write.offset + length write.bytes → ⊥
    outside is above below =
        let from : leb write.offset place ≡ true = search (above, arith, nat_tests) in
        let to : ltb place (write.offset + length write.bytes) ≡ true = search (below, arith, nat_tests) in
        clash _ is (both_true _ _ from to)

    by_frame : (b : Bool) → ((b && leb write.offset place) && ltb place (write.offset + length write.bytes)) ≡ false
        → cond b (byte_in write.offset write.bytes place) None ≡ None
    by_frame true is = byte_in_none write.offset place write.bytes (outside is)
    by_frame false is = refl

reads_byte : (writes : List FrameWrite) (frame place : ℕ) → byte_at writes frame place ≡ reads writes frame place
reads_byte [] frame place = refl
reads_byte (write ∷ writes) frame place = by_test (covers write frame place) refl (reads_byte writes frame place)
  where
    by_test : (b : Bool) → covers write frame place ≡ b → byte_at writes frame place ≡ reads writes frame place
        → cond b (slice_index write.bytes (place - write.offset)) (byte_at writes frame place) ≡ reads
        (write ∷ writes) frame place
    by_test true is rest = sym (reads_here write writes frame place (slice_index write.bytes (place - write.offset))
        (in_write write frame place is))
    by_test false is rest = rest ∙ sym (reads_past write writes frame place (beside_write write frame place is))

map_at : (f : ℕ → ℕ) (a n k byte : ℕ) → slice_get (map f (range_with_len a n)) k ≡ Some byte → byte ≡ f (a + k)
map_at f a zero k byte is = cc
map_at f a (suc n) zero byte is =
    let same : a ≡ a + 0 = omega arith in let first : f a ≡ byte = cc in sym first ∙ ap f same
map_at f a (suc n) (suc k) byte is =
    let same : a + 1 + k ≡ a + suc k = omega arith in map_at f (a + 1) n k byte is ∙ ap f same

pub are_bytes : (w : World) (frame start len : ℕ) → AreBytesOf w frame start len (bytes_at w.writes frame start len)
are_bytes w frame start len = record {
  count = length-map-range_with_len (byte_at w.writes frame) start len;
  each = λ k byte is. map_at (byte_at w.writes frame) start len k byte is ∙ reads_byte w.writes frame (start + k);
}
