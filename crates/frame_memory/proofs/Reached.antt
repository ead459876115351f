-- All frames of a pool, of which some were written and the others are fresh.
use Rattle.std.proofs.Common.{◌≡◌, ◌∙◌, ℕ, ◌+◌, ◌-◌, ◌<◌, ◌≤◌, List, [], ◌++◌, length}
use Rattle.std.proofs.Common.{ap, arith, get_or, map, refl, replicate, append_assoc, length-append}
use Rattle.std.specs.Prelude.{nat_lt}
use Rattle.std.proofs.lemmas.List.{get_or-append_right, get_or-replicate, length-map, length-replicate}
use Rattle.std.proofs.lemmas.List.{map-append, replicate-append-replicate}
use Rattle.frame_memory.specs.FreeMap.{has_frame}
use Rattle.frame_memory.specs.Kept.{IsKept, all_frames, fresh_frame, seen}
use Rattle.frame_memory.specs.Pool.{FramePool, fresh, zeros}
use Rattle.frame_memory.specs.declared.pool.Frame.{Frame}
use Rattle.frame_memory.proofs.Holds.{map-replicate, tells-fresh}
use Rattle.frame_memory.proofs.Words.{zero_at}

pub length-all : (written : List Frame) (count : ℕ) → length written ≤ count
    → length (all_frames written count) ≡ count
length-all written count few =
    rw (length-append, length-replicate {A = Frame} (count - length written) fresh_frame) (omega arith)

-- where none was written
seen-fresh : (n : ℕ) → seen (replicate n fresh_frame) ≡ fresh n
seen-fresh n =
    rw (map-replicate (λ (x : Frame). x.holds) n fresh_frame, map-replicate (λ (x : Frame). x.bytes) n fresh_frame) refl

all-none : (count : ℕ) → all_frames [] count ≡ replicate count fresh_frame
all-none count = ap (λ (k : ℕ). replicate k fresh_frame) (omega arith)

pub none-seen : (count : ℕ) (written : List Frame) → written ≡ [] → seen (all_frames written count) ≡ fresh count
none-seen count written none =
    ap (λ (all : List Frame). seen (all_frames all count)) none ∙ ap seen (all-none count) ∙ seen-fresh count

pub none-kept : (written : List Frame) (room count : ℕ) (words : List ℕ) → written ≡ [] → count ≤ room → count ≤ 4096
    → ((f : ℕ) → has_frame words f ≡ nat_lt f count) → IsKept written room count words count
none-kept written room count words none fits few told =
    let seen_none = ap (λ (pool : FramePool). pool.holds) (none-seen count written none) in
    record {
      few = rw none (omega arith);
      fits = fits;
      told = rw seen_none (tells-fresh words count few told);
    }

-- a frame that is seen is one of as many as counts
pub in_count : (written : List Frame) (f count : ℕ) → length written ≤ count
    → f < length (seen (all_frames written count)).holds → f < count
in_count written f count few within =
    rw (length-map (all_frames written count) (λ (x : Frame). x.holds), length-all written count few) at within

-- a frame behind those that were written has no hold, and reads zero
pub holds_behind : (written : List Frame) (f count : ℕ) → length written ≤ f
    → get_or (seen (all_frames written count)).holds f 0 ≡ 0
holds_behind written f count behind =
    let n = count - length written in
    rw (
      map-append (λ (x : Frame). x.holds) written (replicate n fresh_frame),
      map-replicate (λ (x : Frame). x.holds) n fresh_frame,
      get_or-append_right (map (λ (x : Frame). x.holds) written) (replicate n 0) (length written) f 0
          (length-map written (λ (x : Frame). x.holds)) behind,
    ) (zero_at n (f - length written))

-- so one with a hold was written
pub some_written : (written : List Frame) (f count : ℕ) → 0 < get_or (seen (all_frames written count)).holds f 0
    → f < length written
some_written written f count some =
    let past = holds_behind written f count in
    grind (arith, past, some)

pub bytes_behind : (written : List Frame) (f count : ℕ) → length written ≤ f → f < count
    → get_or (seen (all_frames written count)).bytes f [] ≡ zeros
bytes_behind written f count behind within =
    let n = count - length written in
    let none : List ℕ = [] in
    rw (
      map-append (λ (x : Frame). x.bytes) written (replicate n fresh_frame),
      map-replicate (λ (x : Frame). x.bytes) n fresh_frame,
      get_or-append_right (map (λ (x : Frame). x.bytes) written) (replicate n zeros) (length written) f none
          (length-map written (λ (x : Frame). x.bytes)) behind,
    ) (get_or-replicate n (f - length written) zeros none (omega arith))

-- of so many frames those that are there are the same as those that were written and some fresh ones behind them, and
-- this one is among them
pub record IsReached (written there : List Frame) (f count : ℕ) : Type 0 where
  pub few : length there ≤ count
  pub within : f < length there
  pub same : all_frames there count ≡ all_frames written count

pub reached : (written there : List Frame) (f count : ℕ) → length written ≤ count
    → f < length (seen (all_frames written count)).holds
    → there ≡ written ++ replicate (f + 1 - length written) fresh_frame → IsReached written there f count
reached written there f count few seen_there are =
    let within = in_count written f count few seen_there in
    let n = f + 1 - length written in
    let long : length (written ++ replicate n fresh_frame) ≡ length written + n =
    rw (length-append, length-replicate {A = Frame} n fresh_frame) refl in
    rw are (record {
      few = rw long (omega arith);
      within = rw long (omega arith);
      same = rw (
        long,
        append_assoc,
        replicate-append-replicate n (count - (length written + n)) fresh_frame,
      ) (ap (λ (k : ℕ). written ++ replicate k fresh_frame) (omega arith));
    })

pub already : (written : List Frame) (f count : ℕ) → length written ≤ count
    → 0 < get_or (seen (all_frames written count)).holds f 0 → IsReached written written f count
already written f count few some = record { few = few; within = some_written written f count some; same = refl }
