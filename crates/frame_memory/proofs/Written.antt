-- What is read of a pool after a write.
use Rattle.std.proofs.Common.{◌*◌, ◌-◌, replicate, arith, ◌≡◌, ◌≢◌, ℕ, ◌+◌, ◌<◌, ◌≤◌, List, [], length, refl, ap, ◌∙◌}
use Rattle.std.proofs.Common.{⊎_elim, ◌⊎◌}
use Rattle.std.specs.List.{slice_range, splice}
use Rattle.std.specs.Int.{w64, from_le_bytes}
use Rattle.std.proofs.lemmas.Bool.{cases_eq}
use Rattle.std.proofs.lemmas.List.{drop-replicate, get_or-set_same, get_or-set_other, take-replicate}
use Rattle.frame_memory.specs.Pool.{FramePool, AreApart, bytes_at, bytes_of, frame_size, given, word_at, written, zeros}
use Rattle.frame_memory.proofs.Splice.{read_apart, read_back}

module _ (pool : FramePool) (f offset : ℕ) (bytes : List ℕ) (within : f < length pool.bytes)
    (room : offset ≤ length (bytes_of pool f)) where
  here : bytes_of (written pool f offset bytes) f ≡ splice (bytes_of pool f) offset (offset + length bytes) bytes
  here = get_or-set_same pool.bytes f (splice (bytes_of pool f) offset (offset + length bytes) bytes) [] within

  elsewhere : (g : ℕ) → g ≢ f → bytes_of (written pool f offset bytes) g ≡ bytes_of pool g
  elsewhere g differ =
      get_or-set_other pool.bytes f g (splice (bytes_of pool f) offset (offset + length bytes) bytes) [] differ

  pub written_back : bytes_at (written pool f offset bytes) f offset (length bytes) ≡ bytes
  written_back =
      ap (λ (all : List ℕ). slice_range all offset (offset + length bytes)) here
      ∙ read_back (bytes_of pool f) bytes offset (length bytes) room refl

  pub written_apart : (g at n : ℕ) → AreApart g at n f offset (length bytes)
      → bytes_at (written pool f offset bytes) g at n ≡ bytes_at pool g at n
  written_apart g at n apart =
      let part = λ (all : List ℕ). slice_range all at (at + n) in
      ⊎_elim (λ (differ : g ≢ f). ap part (elsewhere g differ))
      (λ (places : (at + n ≤ offset) ⊎ (offset + length bytes ≤ at)).
      ⊎_elim
      (λ (same : g ≡ f). rw same (ap part here
      ∙ read_apart (bytes_of pool f) bytes offset (length bytes) room refl at n places))
      (λ (differ : g ≢ f). ap part (elsewhere g differ))
      (cases_eq g f))
      apart

frame_size-is : frame_size ≡ 4096
unfolding frame_size
frame_size-is = refl

-- each word of a frame that was given out is 0
zero_word : (i : ℕ) → i < 512 → from_le_bytes w64 (slice_range zeros (8 * i) (8 * i + 8)) ≡ 0
zero_word i small =
    let eight : 8 * i + 8 - 8 * i ≡ 8 = omega arith in
    let part : slice_range zeros (8 * i) (8 * i + 8) ≡ replicate 8 0 =
    rw (eight, drop-replicate {X = ℕ} (8 * i) frame_size 0)
    (take-replicate {X = ℕ} 8 (frame_size - 8 * i) 0 (omega (arith, frame_size-is))) in
    rw part refl

pub given_zero : (pool : FramePool) (f i : ℕ) → f < length pool.bytes → i < 512 → word_at (given pool f) f i ≡ 0
given_zero pool f i within small =
    ap (λ (all : List ℕ). from_le_bytes w64 (slice_range all (8 * i) (8 * i + 8)))
    (get_or-set_same pool.bytes f zeros [] within) ∙ zero_word i small

-- and those of the other frames stay
pub given_others : (pool : FramePool) (f g i : ℕ) → g ≢ f → word_at (given pool f) g i ≡ word_at pool g i
given_others pool f g i differ =
    ap (λ (all : List ℕ). from_le_bytes w64 (slice_range all (8 * i) (8 * i + 8)))
    (get_or-set_other pool.bytes f g zeros [] differ)
