-- What areas ask of the memory objects that they are over, as they go, or are translated from now on or no longer.
use Rattle.std.specs.Prelude.{ℕ, ◌≡◌, ◌≤◌, ◌+◌, Bool, true, false, None, is_none}
use Rattle.std.specs.Prelude.{List, map, if◌then◌else◌}
use Rattle.std.specs.List.{list_any}
use Rattle.frame_memory.specs.Pool.{FramePool}
use Rattle.iofd_words.specs.Pins.{ObjectPage, unpinned_pages}
use Rattle.iofd_words.specs.declared.numbers.UserNo.{UserNo}
use Rattle.iofd_words.specs.declared.rows.Area.{Area}
use Rattle.user_memory_rows.specs.Shown.{over}
use Rattle.memory_objects.specs.Invariant.{MemoryInvariant}
use Rattle.user_memory.specs.Changes.{HasLess, HasPins, Settles, never}
use Rattle.user_memory.specs.Memory.{IsBacked, Memory, access_pins, are_of, areas_over, frame_now, has_room, is_pinned}
use Rattle.user_memory.specs.Memory.{newly_pinned}
use Rattle.user_memory.specs.Memory.{pinned_frame, rows_at, table_pins}

-- how many pins these areas have on each memory object: one each where they are translated, else none
abbrev pub if_translated : Bool → List Area → ℕ → ℕ
if_translated translated areas = if translated then over areas else never

-- so many areas may let go of each memory object, and so many pins
pub record MayRelease (areas_gone pins_gone : ℕ → ℕ) (m : Memory) (holds : List ℕ) : Type 0 where
  pub pins : (number : ℕ) → pins_gone number ≤ table_pins m number
  -- no pin stands on an object without an area
  pub areas : (number : ℕ) → table_pins m number + areas_gone number ≤ areas_over m number + pins_gone number
  -- and none by an access on a page of an object that goes
  pub access : (page : ObjectPage) → areas_over m page.memory ≤ areas_gone page.memory → access_pins m page ≡ 0
  pub backed : IsBacked m holds
  pub invariant : MemoryInvariant m.objects
  -- no other page is pinned
  pub only : (page : ObjectPage) → is_pinned m page ≡ false → pinned_frame m page ≡ None

-- they have done so
pub record IsReleased (areas_gone pins_gone : ℕ → ℕ) (old new : Memory) (before after : FramePool) : Type 0 where
  pub less : HasLess areas_gone pins_gone old new
  pub settles : Settles old new before after

-- the numbers of the areas' memory objects
abbrev pub numbers_of : List Area → List ℕ
numbers_of areas = map (λ area. area.memory) areas

-- the user's memory objects under these areas may be pinned once more for each
pub record MayPin (user : UserNo) (new_areas : List Area) (m : Memory) (holds : List ℕ) : Type 0 where
  pub own : are_of user (rows_at m (numbers_of new_areas)) ≡ true
  pub present : list_any (λ page. is_none (frame_now m page))
      (unpinned_pages (pinned_frame m) (rows_at m (numbers_of new_areas))) ≡ false
  pub room : has_room m user (newly_pinned m (numbers_of new_areas)) ≡ true
  pub areas : (number : ℕ) → table_pins m number + over new_areas number ≤ areas_over m number
  pub backed : IsBacked m holds
  pub invariant : MemoryInvariant m.objects
  -- no other page is pinned
  pub only : (page : ObjectPage) → is_pinned m page ≡ false → pinned_frame m page ≡ None

-- no page is pinned but those that pins stand on
pub record PinsAreKnown (m : Memory) : Type 0 where
  pub invariant : MemoryInvariant m.objects
  pub only : (page : ObjectPage) → is_pinned m page ≡ false → pinned_frame m page ≡ None

-- they have been
pub record ArePinnedMore (new_areas : List Area) (old new : Memory) (before after : FramePool) : Type 0 where
  pub pins : HasPins (over new_areas) old new
  pub settles : Settles old new before after
