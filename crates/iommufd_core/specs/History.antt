-- What a core is seen as: what it was opened with, and its records.
use Rattle.std.specs.Prelude.{◌≡◌, Bool, true, false, Option, Some, None, List, []}
use Rattle.std.specs.Prelude.{◌∷◌, ◌++◌, length}
use Rattle.iofd_steps.specs.After.{changed}
use Rattle.iofd_refusals.specs.Checks.{refusal}
use Rattle.iofd_steps.specs.Look.{passes_in}
use Rattle.iofd_steps.specs.Run.{world_of}
use Rattle.iofd_words.specs.Record.{Record}
use Rattle.iofd_words.specs.Settings.{Settings}
use Rattle.iofd_words.specs.World.{World}
use Rattle.iofd_words.specs.declared.event.Event.{Event}
use Rattle.iofd_words.specs.declared.event.Event.TheVariants as event
use Rattle.iofd_words.specs.declared.fault.AccessKind.TheVariants.{Read, Write}
use Rattle.iofd_words.specs.declared.numbers.FrameNo.{FrameNo}
use Rattle.iofd_words.specs.declared.numbers.PassNo.{PassNo}
use Rattle.iofd_words.specs.declared.query.Query.{Query}
use Rattle.iofd_words.specs.declared.query.Query.TheVariants.{CachedRead}
use Rattle.iofd_words.specs.declared.reply.Reply.{Reply}
use Rattle.server_state.specs.Choice.{AreFramesChosen}

pub record History (A : Type 0) : Type 0 where
  pub settings : Settings
  pub records : List (Record A)

module _ {A : Type 0} where
  -- the world that the records have left
  abbrev pub world : History A → World
  world h = world_of h.settings h.records

  -- one more record, of this caller and event and with this reply; for new tables it took the least free frames, and
  -- after an UNMAP that answered bytes it gave those of all idle tables back
  pub record HasOneMore (caller : PassNo) (e : Event A) (answer : Reply) (old new : History A) : Type 0 where
    pub made : Record A
    pub records : new ≡ record old { records = old.records ++ made ∷ [] }
    pub pass : made.pass ≡ caller
    pub event : made.event ≡ e
    pub reply : made.reply ≡ answer
    pub frames : refusal (world old) e ≡ None
        → AreFramesChosen (world old) (changed (length old.records) (world old) e answer) e answer made.taken
        made.given

  -- an act may be applied: it has no cached frame, or is a device's write that may pass at that frame
  abbrev pub may_apply : History A → Event A → Option FrameNo → Bool
  may_apply h e None = true
  may_apply h (event.DeviceWrite device iova bytes) (Some frame) =
      passes_in (world h) device iova (length bytes) Write frame
  may_apply h e (Some frame) = false

  -- a question may be asked: it is no read at a kept frame, or one that may pass there
  abbrev pub may_look : History A → Query → Bool
  may_look h (CachedRead device iova len frame) = passes_in (world h) device iova len Read frame
  may_look h query = true
