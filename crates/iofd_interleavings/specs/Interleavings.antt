-- What holds of every interleaving of a server's callers and of devices that cache translations, whoever makes it.
use Rattle.std.specs.Prelude.{◌≡◌, ℕ, Some, None, List, [], ◌∷◌, ◌++◌, IsTrue}
use Rattle.iofd_words.specs.Attachments.{attachment_of}
use Rattle.iofd_steps.specs.Look.{passes_in}
use Rattle.iofd_steps.specs.Run.{IsRun, world_of}
use Rattle.iofd_words.specs.Record.{Record}
use Rattle.iofd_words.specs.Settings.{Settings}
use Rattle.iofd_words.specs.Turns.{turns_of}
use Rattle.iofd_words.specs.View.{view}
use Rattle.iofd_words.specs.Walk.{translation}
use Rattle.iofd_words.specs.declared.fault.AccessKind.{AccessKind}
use Rattle.iofd_words.specs.declared.numbers.DeviceNo.{DeviceNo}
use Rattle.iofd_words.specs.declared.numbers.FrameNo.{FrameNo}
use Rattle.iofd_words.specs.declared.numbers.Iova.{Iova}
use Rattle.iofd_words.specs.declared.query.Translation.{Translation}
use Rattle.iofd_interleavings.specs.Caches.{Entry, Sound}
use Rattle.iofd_interleavings.specs.DeviceAnswers.{Allows, DeviceAnswer, device_answer}
use Rattle.iofd_interleavings.specs.FramesApart.{FramesApart, GivesOut, IsNobodys}
use Rattle.iofd_interleavings.specs.Steps.{AreSteps, IsFill, IsHit, Step, caches_after, filled_by, records_after}
use Rattle.iofd_interleavings.specs.Steps.{world_after}

-- `before ++ step ∷ later` is a list of steps, and `step` is made in the world that `before` leaves
pub record EveryInterleaving (A : Type 0) : Type 0 where
  -- 1. the records are a run, those of write hits too
  pub runs : (settings : Settings) (steps : List (Step A)) → AreSteps settings steps
      → IsRun settings (records_after steps)
  -- 2. every device answer, that of a hit too, is one that the policy allows in the world of its step
  pub answers : (settings : Settings) (before : List (Step A)) (step : Step A) (later : List (Step A))
      (told : DeviceAnswer) → AreSteps settings (before ++ step ∷ later)
      → device_answer (world_after settings before) step ≡ Some told → Allows (world_after settings before) told
  -- 3. every device's cache is sound after every step, whoever made it
  pub caches : (settings : Settings) (steps : List (Step A)) (device : DeviceNo) → AreSteps settings steps
      → Sound (world_after settings steps) device (caches_after steps device)
  -- and a device that isn't attached has an empty one
  pub unattached : (settings : Settings) (steps : List (Step A)) (device : DeviceNo) → AreSteps settings steps
      → attachment_of (world_after settings steps).attachments device ≡ None → caches_after steps device ≡ []
  -- 4. every frame that is given out, to a user or for a table, was free at that step and in no cache
  pub given : (settings : Settings) (before : List (Step A)) (step : Step A) (later : List (Step A)) (frame : FrameNo)
      → AreSteps settings (before ++ step ∷ later) → GivesOut step frame
      → IsNobodys (world_after settings before) (caches_after before) frame
  -- 5. a frame is reached by at most one user's page, or is one table's, never both; no pin names a table's frame; page
  -- and pins of one frame are of one user
  pub frames : (settings : Settings) (steps : List (Step A)) → AreSteps settings steps
      → FramesApart (world_after settings steps)
  -- 6. where one run begins another and the device has as many turns in both, what is sound after the first is sound
  -- after the second
  pub stays : (settings : Settings) (before later : List (Record A)) (device : DeviceNo) (entries : List Entry)
      → IsRun settings (before ++ later) → turns_of device (before ++ later) ≡ turns_of device before
      → Sound (world_of settings before) device entries → Sound (world_of settings (before ++ later)) device entries
  -- 7. of any run and any sound set: an access within the page of an entry with the right passes at the entry's frame
  pub passes : (settings : Settings) (records : List (Record A)) (device : DeviceNo) (entries : List Entry)
      (iova : Iova) (len : ℕ) (kind : AccessKind) (entry : Entry) → IsRun settings records
      → Sound (world_of settings records) device entries → IsHit entries iova len kind entry
      → IsTrue (passes_in (world_of settings records) device iova len kind entry.frame)
  -- 8. of any run: what a walk finds for a device is a translation that its cache may be filled with
  pub fills : (settings : Settings) (records : List (Record A)) (device : DeviceNo) (address : ℕ) (t : Translation)
      → IsRun settings records → translation (view (world_of settings records)) device address ≡ Some t
      → IsFill (world_of settings records) device (filled_by address t)
