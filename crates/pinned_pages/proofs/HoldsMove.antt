-- A pool's holds, one frame at a time.
use Rattle.std.proofs.Common.{◌≡◌, ◌≢◌, Option, Some, ℕ, zero, suc, ◌+◌, ◌-◌, ◌^◌, ◌<◌, ◌≤◌, true, false, cond}
use Rattle.std.proofs.Common.{eqb, ltb}
use Rattle.std.proofs.Common.{List, [], ◌∷◌, ◌++◌, length, get_or, refl, sym, ◌∙◌, ap, arith, ◌⊎◌, ⊎_elim}
use Rattle.std.specs.Prelude.{is_none}
use Rattle.std.specs.List.{cons_option, count_by, filter_map, range_with_len}
use Rattle.std.proofs.lemmas.Bool.{cases_eq}
use Rattle.std.proofs.lemmas.Bool.Decides.{nat_tests}
use Rattle.std.proofs.lemmas.List.FromFn.{length-range_with_len}
use Rattle.std.proofs.lemmas.List.{get_or-set_same, get_or-set_other, get_or_past, length-set}
use Rattle.std.proofs.lemmas.List.Sums.{count_by-le-length, sum_by-append, sum_by_push}
use Rattle.iofd_words.specs.declared.numbers.FrameNo.{FrameNo}
use Rattle.frame_memory.specs.Pool.{FramePool, may_hold, with_holds}
use Rattle.pinned_pages.proofs.Bools.{and_true}
use Rattle.pinned_pages.specs.Holds.{AreHeld, HasMoreHolds, times}
use Rattle.pinned_pages.specs.Pages.{unless}
use Rattle.pinned_pages.proofs.Runs.{counted_few, counted_more, few_others, mapped_more, times_few_mapped}

-- one more frame
times_more : (frame : ℕ) (frames : List FrameNo) (f : FrameNo)
    → times frame (frames ++ f ∷ []) ≡ times frame frames + cond (eqb f.0 frame) 1 0
times_more frame frames f = sum_by_push (λ (g : FrameNo). cond (eqb g.0 frame) 1 0) frames f

times_itself : (frames : List FrameNo) (f : FrameNo) → times f.0 (frames ++ f ∷ []) ≡ times f.0 frames + 1
times_itself frames f =
    let same : eqb f.0 f.0 ≡ true = grind (arith, nat_tests) in
    times_more f.0 frames f ∙ rw same refl

times_other : (frame : ℕ) (frames : List FrameNo) (f : FrameNo) → frame ≢ f.0
    → times frame (frames ++ f ∷ []) ≡ times frame frames
times_other frame frames f differ =
    let unlike : eqb f.0 frame ≡ false = grind (arith, nat_tests) in
    let more = times_more frame frames f in
    omega (arith, more, rw unlike at more)

pub no_more : (pool : FramePool) → HasMoreHolds pool pool []
no_more pool = record { count = refl; holds = λ frame. omega arith; bytes = refl }

-- a frame is in no list more often than the list is long
pub times_few : (frame : ℕ) (frames : List FrameNo) → times frame frames ≤ length frames
times_few frame frames = count_by-le-length (λ (f : FrameNo). eqb f.0 frame) frames

-- one hold more on a frame of the pool
pub one_held : (less now : FramePool) (frames : List FrameNo) (f : FrameNo) → f.0 < length less.holds
    → HasMoreHolds less now frames → HasMoreHolds less
    (with_holds now f.0 (get_or now.holds f.0 0 + 1)) (frames ++ f ∷ [])
one_held less now frames f within more =
    let inside : f.0 < length now.holds = rw more.count within in
    record {
      count = length-set now.holds f.0 (get_or now.holds f.0 0 + 1) ∙ more.count;
      holds = λ frame. ⊎_elim
          (λ (same : frame ≡ f.0).
          let here = get_or-set_same now.holds f.0 (get_or now.holds f.0 0 + 1) 0 inside in
          let times = times_itself frames f in
          let before = more.holds f.0 in
          rw same (omega (arith, here, times, before)))
          (λ (differ : frame ≢ f.0). rw (
            get_or-set_other now.holds f.0 frame (get_or now.holds f.0 0 + 1) 0 differ,
            times_other frame frames f differ,
          ) (more.holds frame))
          (cases_eq frame f.0);
      bytes = more.bytes;
    }

-- a frame with holds is one of the pool's
pub held_within : (holds : List ℕ) (frame : ℕ) → 0 < get_or holds frame 0 → frame < length holds
held_within holds frame some =
    ⊎_elim (λ (below : frame < length holds). below)
    (λ (past : length holds ≤ frame). let none = get_or_past holds frame 0 past in absurd
    (omega (arith, some, none))) (below_or_past frame (length holds))
  where
    below_or_past : (m n : ℕ) → (m < n) ⊎ (n ≤ m)
    below_or_past m n = search (arith, nat_tests)

-- one hold less on a frame that has some
pub one_released : (now more : FramePool) (frames : List FrameNo) (f : FrameNo) → 0 < get_or now.holds f.0 0
    → HasMoreHolds now more frames → HasMoreHolds
    (with_holds now f.0 (get_or now.holds f.0 0 - 1)) more (frames ++ f ∷ [])
one_released now more frames f some less =
    let inside = held_within now.holds f.0 some in
    record {
      count = less.count ∙ sym (length-set now.holds f.0 (get_or now.holds f.0 0 - 1));
      holds = λ frame. ⊎_elim
          (λ (same : frame ≡ f.0).
          let here = get_or-set_same now.holds f.0 (get_or now.holds f.0 0 - 1) 0 inside in
          let times = times_itself frames f in
          let before = less.holds f.0 in
          rw same (omega (arith, here, times, before, some)))
          (λ (differ : frame ≢ f.0). rw (
            get_or-set_other now.holds f.0 frame (get_or now.holds f.0 0 - 1) 0 differ,
            times_other frame frames f differ,
          ) (less.holds frame))
          (cases_eq frame f.0);
      bytes = less.bytes;
    }

-- a pool in which each frame may have so many holds more
pub room_left : (holds : List ℕ) (frame count : ℕ) → may_hold holds count ≡ true → count < 2 ^ 64
    → get_or holds frame 0 + count < 2 ^ 128
room_left [] frame count may small = omega (arith, small)
room_left (h ∷ holds) frame count may small =
    let parts = and_true (ltb (h + count) (2 ^ 128)) (may_hold holds count) may in
    by_place frame (below parts.0) (λ f. room_left holds f count parts.1 small)
  where
    below : ltb (h + count) (2 ^ 128) ≡ true → h + count < 2 ^ 128
    below is = search (is, arith, nat_tests)

    by_place : (f : ℕ) → h + count < 2 ^ 128 → ((g : ℕ) → get_or holds g 0 + count < 2 ^ 128)
        → get_or (h ∷ holds) f 0 + count < 2 ^ 128
    by_place zero here later = here
    by_place (suc g) here later = later g

-- one after the other
pub held_further : (a b c : FramePool) (xs ys : List FrameNo) → HasMoreHolds a b xs → HasMoreHolds b c ys
    → HasMoreHolds a c (xs ++ ys)
held_further a b c xs ys first next = record {
  count = next.count ∙ first.count;
  holds = λ frame.
      let one = first.holds frame in
      let two = next.holds frame in
      let all = sum_by-append (λ (f : FrameNo). cond (eqb f.0 frame) 1 0) xs ys in
      omega (arith, one, two, all);
  bytes = next.bytes ∙ first.bytes;
}

pub released_further : (a b c : FramePool) (xs ys : List FrameNo) → HasMoreHolds b a xs → HasMoreHolds c b ys
    → HasMoreHolds c a (xs ++ ys)
released_further a b c xs ys first next = record {
  count = first.count ∙ next.count;
  holds = λ frame.
      let one = first.holds frame in
      let two = next.holds frame in
      let all = sum_by-append (λ (f : FrameNo). cond (eqb f.0 frame) 1 0) xs ys in
      omega (arith, one, two, all);
  bytes = first.bytes ∙ next.bytes;
}

-- the frames of some pages of a run are held, and each page of it may have one more
pub page_room : (less now : FramePool) (a b : ℕ → Option FrameNo) (first count k j : ℕ) → first + k ≡ j → k < count
    → count < 2 ^ 64
    → may_hold less.holds (count_by (λ i. is_none (a i)) (range_with_len first count)) ≡ true
    → HasMoreHolds less now (filter_map (λ i. unless (a i) (b i)) (range_with_len first k))
    → is_none (a j) ≡ true → (frame : ℕ) → get_or now.holds frame 0 + 1 < 2 ^ 128
page_room less now a b first count k j is within small may more none frame =
    let p = λ (i : ℕ). is_none (a i) in
    let all = count_by-le-length p (range_with_len first count) in
    let long = length-range_with_len first count in
    let left = room_left less.holds frame (count_by p (range_with_len first count)) may (omega (
      arith,
      all,
      long,
      small,
    )) in
    let few = few_others a b (range_with_len first k) in
    let times = times_few frame (filter_map (λ i. unless (a i) (b i)) (range_with_len first k)) in
    let next = counted_more p first k j is in
    let one = ap {B = ℕ} (λ t. cond t 1 0) none in
    let up = counted_few p first (k + 1) count (omega (arith, within)) in
    let held = more.holds frame in
    omega (arith, left, few, times, next, one, up, held)

-- the frame of the next page of a run has a hold, where the run's frames had theirs
pub next_held : (now more : FramePool) (h : ℕ → Option FrameNo) (first count k j : ℕ) (f : FrameNo) → first + k ≡ j
    → k < count
    → HasMoreHolds now more (filter_map h (range_with_len first k))
    → AreHeld (filter_map h (range_with_len first count)) more.holds → h j ≡ Some f
    → 0 < get_or now.holds f.0 0
next_held now more h first count k j f place within less held is =
    let next = ap (times f.0) (mapped_more h first k j place ∙ ap (λ o. filter_map h (range_with_len first k)
    ++ cons_option o []) is) ∙ times_itself (filter_map h (range_with_len first k)) f in
    let up = times_few_mapped f.0 h first (k + 1) count (omega (arith, within)) in
    let before = less.holds f.0 in
    let enough = held f.0 in
    omega (arith, next, up, before, enough)
