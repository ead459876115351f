-- What is said of users' memory depends on no room, and when memory is wanting.
use Rattle.std.proofs.Common.{◌≡◌, ℕ, Bool, true, false, eqb, leb, cond, Option, Some, None, List, [], ◌∷◌, refl}
use Rattle.std.proofs.Common.{arith, zero, suc, ◌&&◌}
use Rattle.std.proofs.lemmas.Bool.Decides.{nat_tests}
use Rattle.iofd_words.specs.declared.rows.MemoryObject.{MemoryObject}
use Rattle.frame_memory.specs.Pool.{FramePool}
use Rattle.memory_objects.specs.Objects.{MemoryEntry, all_pass, has_memory, object_at, passes}
use Rattle.memory_objects.specs.declared.run.PageRun.{PageRun}
use Rattle.user_memory.specs.Changes.{HasLess, HasObject, HasPins, HasRunPinned, HasRunReleased, HasShare}
use Rattle.user_memory.specs.Changes.{HoldsFollow, SameObjects, Settles}
use Rattle.user_memory.specs.Memory.{IsBacked, Memory, pins_in}

abbrev pub with_room : ℕ → Memory → Memory
with_room room m = record m { room = room }

pub backed_with : (room : ℕ) (m : Memory) (holds : List ℕ) → IsBacked m holds → IsBacked (with_room room m) holds
backed_with room m holds backed = record { least = backed.least; most = backed.most }

pub backed_without : (room : ℕ) (m : Memory) (holds : List ℕ) → IsBacked (with_room room m) holds → IsBacked m holds
backed_without room m holds backed = record { least = backed.least; most = backed.most }

module _ (a b : ℕ) (old new : Memory) where
  pub follow_with : (before after : FramePool) → HoldsFollow old new before after
      → HoldsFollow (with_room a old) (with_room b new) before after
  follow_with before after follow = record {
    count = follow.count;
    holds = follow.holds;
    backed = λ backed. backed_with b new after.holds (follow.backed (backed_without a old before.holds backed));
  }

  pub settles_with : (before after : FramePool) → Settles old new before after
      → Settles (with_room a old) (with_room b new) before after
  settles_with before after settles = record {
    pages = settles.pages;
    limits = settles.limits;
    frames = settles.frames;
    holds = follow_with before after settles.holds;
    bytes = settles.bytes;
    kept = settles.kept;
  }

  pub same_with : SameObjects old new → SameObjects (with_room a old) (with_room b new)
  same_with same = record {
    rows = same.rows;
    frames = same.frames;
    areas = same.areas;
    pins = same.pins;
    access = same.access;
    named = same.named;
    kept = same.kept;
  }

  pub object_with : (count : ℕ) (row : MemoryObject) → HasObject count row old new
      → HasObject count row (with_room a old) (with_room b new)
  object_with count row has = record { rows = has.rows; areas = has.areas; pins = has.pins; access = has.access }

  pub share_with : (count number : ℕ) → HasShare count number old new
      → HasShare count number (with_room a old) (with_room b new)
  share_with count number has = record { rows = has.rows; areas = has.areas; pins = has.pins; access = has.access }

  pub pins_with : (more : ℕ → ℕ) → HasPins more old new → HasPins more (with_room a old) (with_room b new)
  pins_with more has = record { rows = has.rows; areas = has.areas; pins = has.pins; access = has.access }

  pub less_with : (areas pins : ℕ → ℕ) → HasLess areas pins old new
      → HasLess areas pins (with_room a old) (with_room b new)
  less_with areas pins has = record { rows = has.rows; areas = has.areas; pins = has.pins; access = has.access }

  pub run_pinned_with : (run : PageRun) → HasRunPinned run old new
      → HasRunPinned run (with_room a old) (with_room b new)
  run_pinned_with run has = record { rows = has.rows; areas = has.areas; pins = has.pins; access = has.access }

  pub run_released_with : (run : PageRun) → HasRunReleased run old new
      → HasRunReleased run (with_room a old) (with_room b new)
  run_released_with run has = record { rows = has.rows; areas = has.areas; pins = has.pins; access = has.access }

-- ---- memory is wanting

pub lacks_one : (objects : List MemoryEntry) (n : ℕ) → all_pass has_memory objects (n ∷ []) ≡ false
    → passes has_memory (object_at objects n) ≡ false
lacks_one objects n lacks = by_test (passes has_memory (object_at objects n)) lacks
  where
    by_test : (b : Bool) → (b && true) ≡ false → b ≡ false
    by_test true is = is
    by_test false is = refl

pub lacks_first : (a : Option MemoryEntry) → passes has_memory a ≡ false → pins_in a ≡ 0
lacks_first None lacks = cc
lacks_first (Some o) lacks = by_pins o.pages.pages.table_pins lacks
  where
    by_pins : (pins : ℕ) → leb (cond (eqb pins 0) o.pages.pages.count 0) o.pages.capacity ≡ false → pins ≡ 0
    by_pins zero lacks = refl
    by_pins (suc pins) lacks = grind (arith, nat_tests)
