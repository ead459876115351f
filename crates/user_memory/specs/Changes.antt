-- What the calls make of the users' memory.
use Rattle.std.specs.Prelude.{ℕ, ◌≡◌, ◌+◌, ◌==◌, not, None, ◌∷◌, [], ◌++◌, filter, length}
use Rattle.std.specs.Prelude.{slice_index, if◌then◌else◌}
use Rattle.iofd_words.specs.Pins.{ObjectPage}
use Rattle.iofd_words.specs.declared.rows.MemoryObject.{MemoryObject}
use Rattle.frame_memory.specs.Pool.{FramePool}
use Rattle.memory_objects.specs.Invariant.{MemoryInvariant}
use Rattle.memory_objects.specs.Objects.{pins_on}
use Rattle.memory_objects.specs.Runs.{covers}
use Rattle.memory_objects.specs.declared.run.PageRun.{PageRun}
use Rattle.user_memory.specs.Memory.{IsBacked, Memory, access_pins, areas_over, frame_now, is_pinned, pinned_frame}
use Rattle.user_memory.specs.Memory.{reached, rows_of}
use Rattle.user_memory.specs.Memory.{table_pins}

-- a frame has as many holds more as pages and pins more name it, or less
pub record HoldsFollow (old new : Memory) (before after : FramePool) : Type 0 where
  pub count : length after.holds ≡ length before.holds
  pub holds : (frame : ℕ)
      → slice_index after.holds frame + reached old frame ≡ slice_index before.holds frame + reached new frame
  pub backed : IsBacked old before.holds → IsBacked new after.holds

-- the memory objects are the same to all that look at them
pub record SameObjects (old new : Memory) : Type 0 where
  pub rows : rows_of new ≡ rows_of old
  pub frames : (page : ObjectPage) → pinned_frame new page ≡ pinned_frame old page
  pub areas : (number : ℕ) → areas_over new number ≡ areas_over old number
  pub pins : (number : ℕ) → table_pins new number ≡ table_pins old number
  pub access : (page : ObjectPage) → access_pins new page ≡ access_pins old page
  pub named : (frame : ℕ) → pins_on new.objects frame ≡ pins_on old.objects frame
  pub kept : MemoryInvariant new.objects

-- memory objects come, go, and are pinned or no longer so. A page that stays pinned keeps its frame, one that is pinned
-- now has the frame that it is in its user's memory now, and the holds follow. The users' pages and all bytes stay.
pub record Settles (old new : Memory) (before after : FramePool) : Type 0 where
  pub pages : new.pages ≡ old.pages
  pub limits : new.limits ≡ old.limits
  pub frames : (page : ObjectPage) → pinned_frame new page
      ≡ (if is_pinned new page
      then (if is_pinned old page then pinned_frame old page else frame_now new page)
      else None)
  pub holds : HoldsFollow old new before after
  pub bytes : after.bytes ≡ before.bytes
  pub kept : MemoryInvariant new.objects

-- a memory object comes, with one area over it and so many pins by page tables
pub record HasObject (count : ℕ) (row : MemoryObject) (old new : Memory) : Type 0 where
  pub rows : rows_of new ≡ rows_of old ++ row ∷ []
  pub areas : (number : ℕ) →
      areas_over new number ≡ areas_over old number + (if row.number == number then 1 else 0)
  pub pins : (number : ℕ) →
      table_pins new number ≡ table_pins old number + (if row.number == number then count else 0)
  pub access : (page : ObjectPage) → access_pins new page ≡ access_pins old page

-- one area more lies over the memory object of this number, with so many pins by page tables
pub record HasShare (count number : ℕ) (old new : Memory) : Type 0 where
  pub rows : rows_of new ≡ rows_of old
  pub areas : (n : ℕ) → areas_over new n ≡ areas_over old n + (if number == n then 1 else 0)
  pub pins : (n : ℕ) → table_pins new n ≡ table_pins old n + (if number == n then count else 0)
  pub access : (page : ObjectPage) → access_pins new page ≡ access_pins old page

-- so many pins by page tables more stand on each object
pub record HasPins (more : ℕ → ℕ) (old new : Memory) : Type 0 where
  pub rows : rows_of new ≡ rows_of old
  pub areas : (number : ℕ) → areas_over new number ≡ areas_over old number
  pub pins : (number : ℕ) → table_pins new number ≡ table_pins old number + more number
  pub access : (page : ObjectPage) → access_pins new page ≡ access_pins old page

-- so many areas less lie over each object, and so many pins by page tables less stand on it; one without areas is gone
pub record HasLess (fewer_areas fewer_pins : ℕ → ℕ) (old new : Memory) : Type 0 where
  pub rows : rows_of new ≡ filter (λ row. not (areas_over new row.number == 0)) (rows_of old)
  pub areas : (number : ℕ) → areas_over new number + fewer_areas number ≡ areas_over old number
  pub pins : (number : ℕ) → table_pins new number + fewer_pins number ≡ table_pins old number
  pub access : (page : ObjectPage) → access_pins new page ≡ access_pins old page

-- one pin by an access more stands on each page of the run
pub record HasRunPinned (run : PageRun) (old new : Memory) : Type 0 where
  pub rows : rows_of new ≡ rows_of old
  pub areas : (number : ℕ) → areas_over new number ≡ areas_over old number
  pub pins : (number : ℕ) → table_pins new number ≡ table_pins old number
  pub access : (page : ObjectPage) → access_pins new page
      ≡ access_pins old page + (if covers run page.memory page.index then 1 else 0)

-- one such pin less does
pub record HasRunReleased (run : PageRun) (old new : Memory) : Type 0 where
  pub rows : rows_of new ≡ rows_of old
  pub areas : (number : ℕ) → areas_over new number ≡ areas_over old number
  pub pins : (number : ℕ) → table_pins new number ≡ table_pins old number
  pub access : (page : ObjectPage) → access_pins new page + (if covers run page.memory page.index then 1 else 0)
      ≡ access_pins old page

-- one for this number, none for others
abbrev pub once : ℕ → ℕ → ℕ
once number n = if number == n then 1 else 0

abbrev pub never : ℕ → ℕ
never n = 0
