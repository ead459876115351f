-- What is seen of the frames when one of them is written.
use Rattle.std.proofs.Common.{◌≡◌, ◌∙◌, [], ap, sym, ◌≢◌, ◌+◌, ◌-◌, ◌<◌, ◌≤◌, ℕ, true, false, get_or, length, List}
use Rattle.std.proofs.Common.{replicate, set, refl, arith}
use Rattle.std.proofs.lemmas.List.{get_or-map, get_or_append_left, length-map, length-set, map-set, set-append_left}
use Rattle.std.proofs.Math.Seq.{map-set_same}
use Rattle.frame_memory.specs.FreeMap.{has_frame}
use Rattle.frame_memory.specs.Kept.{IsKept, TellsFree, all_frames, fresh_frame, seen}
use Rattle.frame_memory.specs.Pool.{given, with_bytes, with_holds, zeros}
use Rattle.frame_memory.specs.declared.pool.Frame.{Frame}
use Rattle.frame_memory.proofs.Holds.{some-free, tells-freed, tells-held, tells-same}
use Rattle.frame_memory.proofs.Reached.{IsReached, length-all}

-- a frame that was reached, y, is written
module _ {written there : List Frame} {f count : ℕ} (is : IsReached written there f count) where
  in_all : f < length (all_frames written count)
  in_all = rw (← is.same, length-all there count is.few) (omega (arith, is.few, is.within))

  pub in_counts : f < length (seen (all_frames written count)).holds
  in_counts = rw (length-map (all_frames written count) (λ (z : Frame). z.holds)) in_all

  pub in_bytes : f < length (seen (all_frames written count)).bytes
  in_bytes = rw (length-map (all_frames written count) (λ (z : Frame). z.bytes)) in_all

  set-all : (y : Frame) → all_frames (set there f y) count ≡ set (all_frames written count) f y
  set-all y =
      rw (length-set there f y)
      (sym (set-append_left there (replicate (count - length there) fresh_frame) f y is.within))
      ∙ ap (λ (all : List Frame). set all f y) is.same

  set-kept : (room : ℕ) (words : List ℕ) (free : ℕ) (y : Frame) → count ≤ room
      → TellsFree words free (seen (set (all_frames written count) f y)).holds
      → IsKept (set there f y) room count words free
  set-kept room words free y fits told = record {
    few = rw (length-set there f y) is.few;
    fits = fits;
    told = rw (set-all y) told;
  }

  pub seen-given : (bytes : List ℕ) → bytes ≡ zeros
      → seen (all_frames (set there f (record { holds = 1; bytes = bytes })) count)
      ≡ given (seen (all_frames written count)) f
  seen-given bytes zero =
      let y : Frame = record { holds = 1; bytes = bytes } in
      rw (
        set-all y,
        map-set (λ (z : Frame). z.holds) (all_frames written count) f y,
        map-set (λ (z : Frame). z.bytes) (all_frames written count) f y,
        zero,
      ) refl

-- and the frame that was read there, x, is seen
module _ {written there : List Frame} {f count : ℕ} (is : IsReached written there f count) (x : Frame)
    (read : x ≡ get_or there f x) where
  from_all : x ≡ get_or (all_frames written count) f x
  from_all =
      read ∙ sym (get_or_append_left there (replicate (count - length there) fresh_frame) x f is.within)
      ∙ ap (λ (all : List Frame). get_or all f x) is.same

  pub count_seen : x.holds ≡ get_or (seen (all_frames written count)).holds f 0
  count_seen =
      ap (λ (y : Frame). y.holds) from_all
      ∙ sym (get_or-map (λ (y : Frame). y.holds) (all_frames written count) f x 0 (in_all is))

  pub bytes_seen : x.bytes ≡ get_or (seen (all_frames written count)).bytes f []
  bytes_seen =
      ap (λ (y : Frame). y.bytes) from_all
      ∙ sym (get_or-map (λ (y : Frame). y.bytes) (all_frames written count) f x [] (in_all is))

  pub seen-counted : (holds other : ℕ) → holds ≡ other
      → seen (all_frames (set there f (record { holds = holds; bytes = x.bytes })) count)
      ≡ with_holds (seen (all_frames written count)) f other
  seen-counted holds other same =
      let all = all_frames written count in
      let y : Frame = record { holds = holds; bytes = x.bytes } in
      rw (
        set-all is y,
        ← same,
        map-set (λ (z : Frame). z.holds) all f y,
        map-set_same (λ (z : Frame). z.bytes) all f y x (ap (λ (z : Frame). z.bytes) from_all),
      ) refl

  pub seen-written : (bytes other : List ℕ) → bytes ≡ other
      → seen (all_frames (set there f (record { holds = x.holds; bytes = bytes })) count)
      ≡ with_bytes (seen (all_frames written count)) f other
  seen-written bytes other same =
      let all = all_frames written count in
      let y : Frame = record { holds = x.holds; bytes = bytes } in
      rw (
        set-all is y,
        ← same,
        map-set (λ (z : Frame). z.bytes) all f y,
        map-set_same (λ (z : Frame). z.holds) all f y x (ap (λ (z : Frame). z.holds) from_all),
      ) refl

  module _ (words : List ℕ) (n : ℕ) (told : TellsFree words n (seen (all_frames written count)).holds) where
    -- where it was free some frame is
    pub some-counted : x.holds ≡ 0 → 1 ≤ n
    some-counted free =
        some-free words n (seen (all_frames written count)).holds f told (in_counts is) (sym count_seen ∙ free)

    -- a frame that was free is held, with whatever bytes
    pub kept-held : (room : ℕ) (new : List ℕ) (y : Frame) → count ≤ room → x.holds ≡ 0 → y.holds ≢ 0
        → has_frame new f ≡ false → ((g : ℕ) → g ≢ f → has_frame new g ≡ has_frame words g)
        → IsKept (set there f y) room count new (n - 1)
    kept-held room new y fits free some here others =
        set-kept is room new (n - 1) y fits
        (rw (map-set (λ (z : Frame). z.holds) (all_frames written count) f y)
        (tells-held words new n (seen (all_frames written count)).holds f y.holds told (in_counts is)
        (sym count_seen ∙ free) some here others))

    -- a frame that was held is free
    pub kept-freed : (room : ℕ) (new : List ℕ) (y : Frame) → count ≤ room → x.holds ≢ 0 → y.holds ≡ 0
        → has_frame new f ≡ true → ((g : ℕ) → g ≢ f → has_frame new g ≡ has_frame words g)
        → IsKept (set there f y) room count new (n + 1)
    kept-freed room new y fits held none here others =
        set-kept is room new (n + 1) y fits
        (rw (map-set (λ (z : Frame). z.holds) (all_frames written count) f y)
        (tells-freed words new n (seen (all_frames written count)).holds f y.holds told (in_counts is)
        (λ zero. held (count_seen ∙ zero)) none here others))

    -- a frame that was held still is
    pub kept-same : (room : ℕ) (y : Frame) → count ≤ room → x.holds ≢ 0 → y.holds ≢ 0
        → IsKept (set there f y) room count words n
    kept-same room y fits held some =
        set-kept is room words n y fits
        (rw (map-set (λ (z : Frame). z.holds) (all_frames written count) f y)
        (tells-same words n (seen (all_frames written count)).holds f y.holds told (in_counts is)
        (λ zero. held (count_seen ∙ zero)) some))

    -- a frame's bytes are written
    pub kept-written : (room : ℕ) (y : Frame) → count ≤ room → y.holds ≡ x.holds
        → IsKept (set there f y) room count words n
    kept-written room y fits same =
        set-kept is room words n y fits
        (rw (map-set_same (λ (z : Frame). z.holds) (all_frames written count) f y x
        (same ∙ ap (λ (z : Frame). z.holds) from_all)) told)
