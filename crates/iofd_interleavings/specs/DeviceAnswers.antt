-- What devices are answered at a step, by the server or out of their caches, and which answers the policy allows.
use Rattle.std.specs.Prelude.{ℕ, Option, Some, None, List, [], ◌∷◌, length, map, Contains}
use Rattle.iofd_steps.specs.Answers.{write_reply}
use Rattle.iofd_refusals.specs.Checks.{access_checks}
use Rattle.iofd_words.specs.FirstTrue.{first_true}
use Rattle.iofd_words.specs.Frames.{bytes_at}
use Rattle.iofd_steps.specs.Look.{read_answer}
use Rattle.iofd_words.specs.Pages.{offset_of}
use Rattle.iofd_words.specs.Policy.{outcomes}
use Rattle.iofd_words.specs.View.{view}
use Rattle.iofd_words.specs.World.{World}
use Rattle.iofd_words.specs.declared.event.Event.{Event}
use Rattle.iofd_words.specs.declared.event.Event.TheVariants as event
use Rattle.iofd_words.specs.declared.fault.AccessKind.TheVariants.{Read, Write}
use Rattle.iofd_words.specs.declared.numbers.DeviceNo.{DeviceNo}
use Rattle.iofd_words.specs.declared.numbers.Iova.{Iova}
use Rattle.iofd_words.specs.declared.query.Answer.{Answer}
use Rattle.iofd_words.specs.declared.query.Answer.TheVariants as answer
use Rattle.iofd_words.specs.declared.query.Query.{Query}
use Rattle.iofd_words.specs.declared.query.Query.TheVariants.{CachedRead, DeviceRead}
use Rattle.iofd_words.specs.declared.reply.Reply.{Reply}
use Rattle.iofd_words.specs.declared.reply.Reply.TheVariants as reply
use Rattle.iofd_interleavings.specs.Caches.{Entry}
use Rattle.iofd_interleavings.specs.Steps.{Step, Made, Looked, ReadHit, WriteHit}

-- ---- what a device is answered

-- a device's read of so many bytes and its answer, or its write of bytes and the reply
pub data DeviceAnswer : Type 0 where
  OfRead : DeviceNo → Iova → ℕ → Answer → DeviceAnswer
  OfWrite : DeviceNo → Iova → List ℕ → Reply → DeviceAnswer

-- what a read hit answers: the bytes at the entry's frame
abbrev pub bytes_of_hit : World → Iova → ℕ → Entry → Answer
bytes_of_hit w iova len entry = answer.Read (bytes_at w.writes entry.frame.0 (offset_of iova.0) len)

abbrev pub answer_of_event : {A : Type 0} → Event A → Reply → Option DeviceAnswer
answer_of_event (event.DeviceWrite device iova bytes) told = Some (OfWrite device iova bytes told)
answer_of_event e told = None

abbrev pub answer_of_look : Query → Answer → Option DeviceAnswer
answer_of_look (DeviceRead device iova len) told = Some (OfRead device iova len told)
answer_of_look (CachedRead device iova len frame) told = Some (OfRead device iova len told)
answer_of_look query told = None

-- the answer that a device has at the step, made in this world
abbrev pub device_answer : {A : Type 0} → World → Step A → Option DeviceAnswer
device_answer w (Made r) = answer_of_event r.event r.reply
device_answer w (Looked query told) = answer_of_look query told
device_answer w (ReadHit device iova len entry) = Some (OfRead device iova len (bytes_of_hit w iova len entry))
device_answer w (WriteHit pass device iova bytes entry) =
    Some (OfWrite device iova bytes (reply.Passed entry.frame))
device_answer w step = None

-- ---- what the policy allows

-- all that a device may be answered in this world: the refusal that is due, or else what the policy lets come of it
abbrev pub read_answers : World → DeviceNo → Iova → ℕ → List Answer
read_answers w device iova len =
    elim (first_true (access_checks (view w) device iova len)) [
      | Some cause ↦ answer.Refused (record { cause = cause }) ∷ []
      | None ↦ map (read_answer w device iova.0 len) (outcomes w device iova.0 Read)
    ]

abbrev pub write_answers : World → DeviceNo → Iova → List ℕ → List Reply
write_answers w device iova bytes =
    elim (first_true (access_checks (view w) device iova (length bytes))) [
      | Some cause ↦ reply.Refused (record { cause = cause }) ∷ []
      | None ↦ map (write_reply w device iova.0) (outcomes w device iova.0 Write)
    ]

abbrev pub Allows : World → DeviceAnswer → Type 0
Allows w (OfRead device iova len told) = Contains (read_answers w device iova len) told
Allows w (OfWrite device iova bytes told) = Contains (write_answers w device iova bytes) told
