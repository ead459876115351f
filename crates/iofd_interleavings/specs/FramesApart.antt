-- Which frames are given out, and whose a frame is.
use Rattle.std.specs.Prelude.{◌≡◌, ◌≢◌, ℕ, Contains, IsTrue, ◌⊎◌}
use Rattle.iofd_words.specs.World.{World}
use Rattle.iofd_words.specs.declared.numbers.DeviceNo.{DeviceNo}
use Rattle.iofd_words.specs.declared.numbers.FrameNo.{FrameNo}
use Rattle.iofd_words.specs.declared.numbers.UserNo.{UserNo}
use Rattle.iofd_words.specs.declared.reply.Reply.TheVariants as reply
use Rattle.iofd_words.specs.declared.rows.MemoryObject.{MemoryObject}
use Rattle.iofd_words.specs.declared.rows.Pin.{Pin}
use Rattle.iofd_words.specs.declared.rows.UserPage.{UserPage}
use Rattle.iofd_laws.specs.Laws.{TablesAlone, WasFree, have_own_frames}
use Rattle.iofd_interleavings.specs.Caches.{Caches, Entry}
use Rattle.iofd_interleavings.specs.Steps.{Step, Made}

-- ---- frames that are given out

-- the step gives the frame out: to a user, or for a table
abbrev pub GivesOut : {A : Type 0} → Step A → FrameNo → Type 0
GivesOut (Made r) frame = (r.reply ≡ reply.Frame frame) ⊎ Contains r.taken frame
GivesOut step frame = ⊥

-- no device has the frame in its cache
abbrev pub IsUncached : Caches → FrameNo → Type 0
IsUncached caches frame =
    (device : DeviceNo) (entry : Entry) → Contains (caches device) entry → entry.frame.0 ≢ frame.0

-- the frame is one of the pool that no user, no pin and no page table has, and it is in no cache
pub record IsNobodys (w : World) (caches : Caches) (frame : FrameNo) : Type 0 where
  pub free : WasFree w frame
  pub uncached : IsUncached caches frame

-- ---- whose a frame is

-- a page of the user has the frame
pub record IsPageAt (w : World) (frame : ℕ) (user : UserNo) : Type 0 where
  pub page : UserPage
  pub there : Contains w.user_pages page
  pub of : page.user ≡ user
  pub frame_is : page.frame.0 ≡ frame

-- a pinned page of a memory object of the user has it
pub record IsPinAt (w : World) (frame : ℕ) (user : UserNo) : Type 0 where
  pub pin : Pin
  pub there : Contains w.pins pin
  pub m : MemoryObject
  pub among : Contains w.memory m
  pub number : m.number ≡ pin.memory
  pub of : m.user ≡ user
  pub frame_is : pin.frame.0 ≡ frame

abbrev pub IsUsedBy : World → ℕ → UserNo → Type 0
IsUsedBy w frame user = IsPageAt w frame user ⊎ IsPinAt w frame user

-- whoever has a page or a pin at a frame is the one user who has any there
abbrev pub AreOfOneUser : World → Type 0
AreOfOneUser w = (frame : ℕ) (a b : UserNo) → IsUsedBy w frame a → IsUsedBy w frame b → a.0 ≡ b.0

pub record FramesApart (w : World) : Type 0 where
  -- a frame is reached by at most one user's page
  pub pages : IsTrue (have_own_frames w.user_pages)
  -- a table's frame is that of no other table, and neither a user's page nor a pin names it
  pub tables : TablesAlone w
  -- page and pins of one frame are of one user
  pub users : AreOfOneUser w
