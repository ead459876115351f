-- Runs of pages of memory objects, on which accesses put pins.
use Rattle.std.specs.Prelude.{ℕ, ◌≡◌, ◌<◌, ◌≤◌, ◌+◌, ◌^◌, Bool, true, false, ◌==◌, ◌&&◌, nat_le, Option, Some, None}
use Rattle.std.specs.Prelude.{List}
use Rattle.std.specs.Prelude.{map, if◌then◌else◌}
use Rattle.std.specs.Option.{IfSome}
use Rattle.iofd_words.specs.declared.numbers.FrameNo.{FrameNo}
use Rattle.iofd_words.specs.declared.rows.UserPage.{UserPage}
use Rattle.frame_memory.specs.Pool.{may_hold}
use Rattle.frame_memory.specs.UserPages.{are_within}
use Rattle.mem_account.specs.Accounts.{has_room, is_user}
use Rattle.mem_account.specs.declared.Account.{Account}
use Rattle.memory_objects.specs.Objects.{MemoryEntry, access_pins_on, frame_now_in, object_at, passes, pinned_frame}
use Rattle.memory_objects.specs.declared.run.PageRun.{PageRun}
use Rattle.pinned_pages.specs.Access.{is_in}
use Rattle.pinned_pages.specs.Accesses.{IsAccessPinned, IsAccessReleased, run_count, run_is_present, run_rows}
use Rattle.pinned_pages.specs.Pages.{MemoryPages, or_else}

-- there is the object, and the run lies within it
abbrev pub lies_within : PageRun → Option MemoryEntry → Bool
lies_within run None = false
lies_within run (Some object) = nat_le (run.first + run.count) object.pages.pages.count

-- the page of an object is one of the run's
abbrev pub covers : PageRun → ℕ → ℕ → Bool
covers run number index = run.number == number && is_in run.first run.count index

-- each page of the run is pinned, or in its user's memory
abbrev pub run_is_there : List UserPage → PageRun → MemoryEntry → Bool
run_is_there rows run object = run_is_present object.pages.pages rows run.first run.count

-- how many of its pages aren't pinned
abbrev pub run_count_in : PageRun → Option MemoryEntry → ℕ
run_count_in run None = 0
run_count_in run (Some object) = run_count object.pages.pages run.first run.count

-- there is room for the rows of its pages that no access pins
abbrev pub has_room_for : PageRun → MemoryEntry → Bool
has_room_for run object = nat_le (run_rows object.pages.pages run.first run.count) object.pages.room

-- the object of this number has these pages, and the others are as they were
abbrev pub with_pages_at : ℕ → MemoryPages → List MemoryEntry → List MemoryEntry
with_pages_at number pages objects =
    map {A = MemoryEntry} {B = MemoryEntry}
    (λ object. if object.number == number then record object { pages = pages } else object) objects

-- a pin by an access can be put on each page of the run: they are pinned or there, and for those that aren't pinned
-- there are memory, room in the account and room for holds; and one pin more on each can be counted
pub record CanPinRun (objects : List MemoryEntry) (run : PageRun) (rows : List UserPage) (pool_holds : List ℕ)
    (accounts : List Account) : Type 0 where
  pub within : are_within rows pool_holds ≡ true
  pub lies : lies_within run (object_at objects run.number) ≡ true
  pub present : passes (run_is_there rows run) (object_at objects run.number) ≡ true
  pub memory : passes (has_room_for run) (object_at objects run.number) ≡ true
  pub user : passes (λ object. is_user accounts object.pages.pages.user.0) (object_at objects run.number) ≡ true
  pub room : passes (λ object. has_room accounts object.pages.pages.user.0
      (run_count object.pages.pages run.first run.count)) (object_at objects run.number) ≡ true
  pub holds : may_hold pool_holds (run_count_in run (object_at objects run.number)) ≡ true
  pub pins : (index : ℕ) → is_in run.first run.count index ≡ true
      → access_pins_on objects run.number index + 1 < 2 ^ 64

-- such a pin stands on each
pub record HasRun (objects : List MemoryEntry) (run : PageRun) : Type 0 where
  pub lies : lies_within run (object_at objects run.number) ≡ true
  pub pins : (index : ℕ) → is_in run.first run.count index ≡ true → 1 ≤ access_pins_on objects run.number index

-- there may be more room for such pins, and nothing else has changed
pub record RoomGrows (number : ℕ) (old new : List MemoryEntry) : Type 0 where
  pub pages : MemoryPages
  pub objects : new ≡ with_pages_at number pages old
  pub same : IfSome (object_at old number) (λ object. pages.pages ≡ object.pages.pages)
  pub capacity : IfSome (object_at old number) (λ object. pages.capacity ≡ object.pages.capacity)
  pub more : IfSome (object_at old number) (λ object. object.pages.room ≤ pages.room)

-- one such pin more stands on each page of the run
pub record RunIsPinned (run : PageRun) (rows : List UserPage) (old new : List MemoryEntry) : Type 0 where
  pub pages : MemoryPages
  pub objects : new ≡ with_pages_at run.number pages old
  pub pinned : IfSome (object_at old run.number)
      (λ object. IsAccessPinned run.first run.count rows object.pages.pages pages.pages)
  pub capacity : IfSome (object_at old run.number) (λ object. pages.capacity ≡ object.pages.capacity)

-- one such pin less does
pub record RunIsReleased (run : PageRun) (old new : List MemoryEntry) : Type 0 where
  pub pages : MemoryPages
  pub objects : new ≡ with_pages_at run.number pages old
  pub released : IfSome (object_at old run.number)
      (λ object. IsAccessReleased run.first run.count object.pages.pages pages.pages)
  pub capacity : IfSome (object_at old run.number) (λ object. pages.capacity ≡ object.pages.capacity)

-- the frame that a page of the run has after a pin of it
abbrev pub frame_after : PageRun → List UserPage → List MemoryEntry → ℕ → ℕ → Option FrameNo
frame_after run rows objects number index =
    if covers run number index
    then or_else (pinned_frame objects number index) (frame_now_in rows (object_at objects number) index)
    else pinned_frame objects number index
