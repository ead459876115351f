-- Lists of steps of which one breaks a demand that the law rests on, and what is false then: a cache isn't sound, a hit
-- is none that the policy allows, and a frame that the cache names goes to another user. All begin with both devices
-- attached, and it is device 1 whose cache goes wrong.
use Rattle.std.specs.Prelude.{◌≡◌, false, List, [], ◌∷◌, ◌++◌, map, Contains}
use Rattle.std.specs.declared.alloc.Global.{Global}
use Rattle.iofd_steps.specs.Look.{passes_in}
use Rattle.iofd_words.specs.World.{World}
use Rattle.iofd_words.specs.declared.fault.AccessKind.TheVariants.{Read}
use Rattle.iofd_words.specs.declared.rows.Phase.TheVariants.{Live}
use Rattle.iofd_examples.specs.Words.{device, frame, iova}
use Rattle.iofd_interleavings.specs.Caches.{Entry, Sound}
use Rattle.iofd_interleavings.specs.DeviceAnswers.{Allows, OfRead, bytes_of_hit}
use Rattle.iofd_interleavings.specs.FramesApart.{GivesOut}
use Rattle.iofd_interleavings.specs.Steps.{AreSteps, AreStepsFrom, IsHit, Made, Step, caches_after, state_after}
use Rattle.iofd_interleavings.specs.Steps.{world_after}
use Rattle.iofd_interleavings_examples.specs.Worked.{beginning, entry, fills, flushes, gets, gives_up, settings, shared}
use Rattle.iofd_interleavings_examples.specs.Worked.{takes, waits}

-- ---- what is false

-- device 1 hits an entry that isn't sound, the policy lets no access pass there, and what is read is no answer that it
-- allows
pub record IsUnsound (w : World) (entries : List Entry) : Type 0 where
  pub sound : Sound w (device 1) entries → ⊥
  pub hit : IsHit entries (iova 0x1000) 64 Read entry
  pub denied : passes_in w (device 1) (iova 0x1000) 64 Read (frame 0) ≡ false
  pub answer : Allows w (OfRead (device 1) (iova 0x1000) 64 (bytes_of_hit w (iova 0x1000) 64 entry)) → ⊥

-- the step gives out the frame that the entry of a cache names
pub record GivesCached (entries : List Entry) (step : Step Global) : Type 0 where
  pub gives : GivesOut step (frame 0)
  pub cached : Contains entries entry

-- every other step may be made, the cache is unsound after the wrong one, and the frame is given out in the end
pub record Breaks (before : List (Step Global)) (wrong : Step Global) (later : List (Step Global)) : Type 0 where
  pub begins : AreSteps settings before
  pub goes_on : AreStepsFrom settings (state_after (before ++ wrong ∷ [])) (later ++ gets ∷ [])
  pub unsound : IsUnsound (world_after settings (before ++ wrong ∷ [])) (caches_after (before ++ wrong ∷ []) (device 1))
  pub given : GivesCached (caches_after (before ++ wrong ∷ later) (device 1)) gets

-- ---- a flush that keeps its cache

abbrev pub before_flush : List (Step Global)
before_flush = map Made beginning ++ fills 1 ∷ waits ∷ []

abbrev pub after_flush : List (Step Global)
after_flush = flushes 2 ∷ takes ∷ gives_up ∷ []

-- ---- a fill from a leaving area that the device doesn't owe

abbrev pub before_fill : List (Step Global)
before_fill = map Made beginning ++ waits ∷ flushes 1 ∷ []

abbrev pub after_fill : List (Step Global)
after_fill = flushes 2 ∷ takes ∷ gives_up ∷ []

-- ---- an UNMAP that answers bytes while a device owes

abbrev pub before_unmap : List (Step Global)
before_unmap = map Made beginning ++ fills 1 ∷ waits ∷ flushes 2 ∷ []

abbrev pub after_unmap : List (Step Global)
after_unmap = gives_up ∷ []

-- ---- a pin that goes with the user's page

abbrev pub before_give_up : List (Step Global)
before_give_up = map Made beginning ++ fills 1 ∷ []

-- the page is given up: its pin stays
abbrev pub given_up : World
given_up = record (shared Live) { user_pages = [] }

-- the world in which the pin goes with it
abbrev pub unpinned : World
unpinned = record (shared Live) { user_pages = []; pins = [] }
