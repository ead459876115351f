-- The page of the two areas, when it is pinned once for each.
use Rattle.std.proofs.Common.{◌≡◌, ℕ, ◌+◌, ◌<◌, ◌^◌, Bool, true, false, cond, ◌&&◌, ◌||◌, not, eqb, leb, List, [], ◌∷◌}
use Rattle.std.proofs.Common.{length, refl, ap, ◌∙◌, arith}
use Rattle.std.specs.Prelude.{if◌then◌else◌, is_none}
use Rattle.std.specs.List.{filter, list_all, list_any}
use Rattle.access_pages.proofs.UnpinSteps.{times_first}
use Rattle.access_pages.specs.Runs.{ArePinned, MayPin, meeting, runs_in, times_in}
use Rattle.frame_memory.specs.Pool.{FramePool}
use Rattle.iofd_words.specs.Pins as pin
use Rattle.iofd_words.specs.Pins.{ObjectPage}
use Rattle.iofd_words.specs.declared.rows.MemoryObject.{MemoryObject}
use Rattle.memory_objects.specs.Runs.{covers}
use Rattle.memory_objects.specs.declared.run.PageRun.{PageRun}
use Rattle.test_pool.specs.TwoAreas.{HasPins, page_run, the_span, two_areas}
use Rattle.user_memory.specs.Memory.{Memory, access_pins, frame_now, has_room, is_in_runs, new_in_runs, pinned_frame}
use Rattle.user_memory.specs.Memory.{rows_of}
use Rattle.user_memory_rows.proofs.Released.{only_after}

-- the run of each of the two
abbrev pub two_runs : List PageRun
two_runs = page_run ∷ page_run ∷ []

pub runs_are : runs_in the_span (meeting the_span two_areas) ≡ two_runs
runs_are = refl

-- both have the page, and no other
pub are_twice : (page : ObjectPage) → times_in two_runs page ≡ (if covers page_run page.memory page.index then 2 else 0)
are_twice page =
    by_test (covers page_run page.memory page.index) (times_in two_runs page) (times_in (page_run ∷ []) page)
    (times_first page_run (page_run ∷ []) page) (times_first page_run [] page)
  where
    by_test : (b : Bool) (all one : ℕ) → all ≡ cond b 1 0 + one → one ≡ cond b 1 0 + 0 → all ≡ (if b then 2 else 0)
    by_test true all one first last = omega (arith, first, last)
    by_test false all one first last = omega (arith, first, last)

-- the page is new to both, or to neither
filter_alike : {X : Type 0} (p q : X → Bool) (xs : List X) → ((x : X) → p x ≡ q x) → filter p xs ≡ filter q xs
filter_alike p q [] same = refl
filter_alike {X = X} p q (x ∷ xs) same = by_test (p x) (q x) (same x) (filter_alike p q xs same)
  where
    by_test : (b c : Bool) → b ≡ c → filter p xs ≡ filter q xs
        → cond b (x ∷ filter p xs) (filter p xs) ≡ cond c (x ∷ filter q xs) (filter q xs)
    by_test true true is rest = ap (λ (l : List X). x ∷ l) rest
    by_test false false is rest = rest
    by_test true false is rest = cc
    by_test false true is rest = cc

new_once : (m : Memory) → new_in_runs m two_runs ≡ new_in_runs m (page_run ∷ [])
new_once m =
    filter_alike (is_in_runs two_runs) (is_in_runs (page_run ∷ [])) (pin.unpinned_pages (pinned_frame m) (rows_of m))
    (λ page. twice (covers page_run page.memory page.index))
  where
    twice : (b : Bool) → (b || (b || false)) ≡ (b || false)
    twice true = refl
    twice false = refl

pub may_pin : (m : Memory) (holds : List ℕ) (count : ℕ) → HasPins m holds count → count < 3
    → list_any (λ page. is_none (frame_now m page)) (new_in_runs m (page_run ∷ [])) ≡ false
    → has_room m (record { 0 = 1 }) (length (new_in_runs m (page_run ∷ []))) ≡ true → MayPin two_runs m holds
may_pin m holds count has few present room = record {
  user = record { 0 = 1 };
  own = ap (λ (l : List MemoryObject). list_all (λ (row : MemoryObject). not (list_any (λ (run : PageRun).
      eqb run.number row.number) two_runs) || eqb row.user.0 1) l) has.rows;
  lies = ap (λ (l : List MemoryObject). list_all (λ (run : PageRun). list_any (λ (row : MemoryObject).
      eqb row.number run.number && leb (run.first + run.count) row.count) l) two_runs) has.rows;
  present = ap (list_any (λ page. is_none (frame_now m page))) (new_once m) ∙ present;
  room = ap (λ (l : List ObjectPage). has_room m (record { 0 = 1 }) (length l)) (new_once m) ∙ room;
  few = λ page some. by_test (covers page_run page.memory page.index) (access_pins m page) (times_in two_runs page)
      (has.pins page) (are_twice page);
  backed = has.backed;
  invariant = has.invariant;
  only = has.only;
}
  where
    by_test : (b : Bool) (pins more : ℕ) → pins ≡ (if b then count else 0) → more ≡ (if b then 2 else 0)
        → pins + more < 2 ^ 64
    by_test true pins more are is = omega (arith, are, is, few)
    by_test false pins more are is = omega (arith, are, is)

module _ (old new : Memory) (before after : FramePool) (count : ℕ) where
  -- by these runs, each of which has the page so many times
  moved : (runs : List PageRun) (more : ℕ) → ArePinned runs old new before after
      → ((page : ObjectPage) → times_in runs page ≡ (if covers page_run page.memory page.index then more else 0))
      → HasPins old before.holds count → HasPins new after.holds (count + more)
  moved runs more is times has = record {
    rows = is.rows ∙ has.rows;
    pins = λ page. is.access page ∙ by_test (covers page_run page.memory page.index) (access_pins old page)
        (times_in runs page) (has.pins page) (times page);
    backed = is.settles.holds.backed has.backed;
    invariant = is.settles.kept;
    only = only_after old new before after is.settles;
  }
    where
      by_test : (b : Bool) (pins some : ℕ) → pins ≡ (if b then count else 0) → some ≡ (if b then more else 0)
          → pins + some ≡ (if b then count + more else 0)
      by_test true pins some are is = omega (arith, are, is)
      by_test false pins some are is = omega (arith, are, is)

  pub pinned_twice : ArePinned two_runs old new before after → HasPins old before.holds count
      → HasPins new after.holds (count + 2)
  pinned_twice is has = moved two_runs 2 is are_twice has
