-- The world with a cache for each device, and its steps: records, looks, and what devices do with their caches.
use Rattle.std.specs.Prelude.{◌≡◌, ℕ, false, ◌==◌, not, List, [], ◌∷◌, ◌++◌, length, filter, Contains, IsTrue}
use Rattle.std.specs.Prelude.{if◌then◌else◌}
use Rattle.iofd_steps.specs.Look.{answers_to}
use Rattle.iofd_words.specs.Pages.{crosses, page_of}
use Rattle.iofd_words.specs.Rights.{has_right}
use Rattle.iofd_steps.specs.Run.{Lawful, world_of}
use Rattle.iofd_words.specs.Record.{Record}
use Rattle.iofd_words.specs.Settings.{Settings}
use Rattle.iofd_words.specs.Turns.{is_turn_of}
use Rattle.iofd_words.specs.World.{World}
use Rattle.iofd_words.specs.declared.event.Event.{Event}
use Rattle.iofd_words.specs.declared.event.Event.TheVariants as event
use Rattle.iofd_words.specs.declared.fault.AccessKind.{AccessKind}
use Rattle.iofd_words.specs.declared.fault.AccessKind.TheVariants.{Read, Write}
use Rattle.iofd_words.specs.declared.numbers.DeviceNo.{DeviceNo}
use Rattle.iofd_words.specs.declared.numbers.Iova.{Iova}
use Rattle.iofd_words.specs.declared.numbers.PassNo.{PassNo}
use Rattle.iofd_words.specs.declared.query.Answer.{Answer}
use Rattle.iofd_words.specs.declared.query.Query.{Query}
use Rattle.iofd_words.specs.declared.query.Translation.{Translation}
use Rattle.iofd_words.specs.declared.reply.Reply.TheVariants as reply
use Rattle.iofd_words.specs.declared.rows.Phase.TheVariants.{Live}
use Rattle.iofd_interleavings.specs.Caches.{Caches, Entry, IsBacked}

-- ---- the world with caches, by the records that led to it

pub record State (A : Type 0) : Type 0 where
  pub records : List (Record A)
  pub caches : Caches

abbrev pub opened : {A : Type 0} → State A
opened = record { records = []; caches = λ device. [] }

-- ---- the steps

pub data Step (A : Type 0) : Type 0 where
  -- an event, by whatever caller
  Made : Record A → Step A
  -- a question
  Looked : Query → Answer → Step A
  -- a device keeps the translation of a page
  Filled : DeviceNo → Entry → Step A
  -- a device reads so many bytes by an entry of its cache
  ReadHit : DeviceNo → Iova → ℕ → Entry → Step A
  -- or writes bytes so, by a caller of this pass, which makes a record
  WriteHit : PassNo → DeviceNo → Iova → List ℕ → Entry → Step A
  -- a device forgets a page
  Dropped : DeviceNo → ℕ → Step A

-- the record of a write that passes at an entry's frame
abbrev pub hit_record : {A : Type 0} → PassNo → DeviceNo → Iova → List ℕ → Entry → Record A
hit_record pass device iova bytes entry =
    record {
      pass = pass;
      event = event.DeviceWrite device iova bytes;
      reply = reply.Passed entry.frame;
      taken = [];
      given = [];
    }

-- ---- when a step may be made

-- the entry is of the address's page, in the cache, and gives the right; and the access stays in the page
pub record IsHit (entries : List Entry) (iova : Iova) (len : ℕ) (kind : AccessKind) (entry : Entry) : Type 0 where
  pub cached : Contains entries entry
  pub page : page_of iova.0 ≡ entry.page
  pub right : IsTrue (has_right entry.rights kind)
  pub inside : crosses iova.0 len ≡ false

-- the entry is backed by a live area
pub record IsFill (w : World) (device : DeviceNo) (entry : Entry) : Type 0 where
  pub backed : IsBacked w device entry
  pub live : backed.area.phase ≡ Live

-- the entry of an address's page, with what the page is translated to
abbrev pub filled_by : ℕ → Translation → Entry
filled_by address t = record { page = page_of address; frame = t.frame; rights = t.rights }

-- a device that is flushed, attached or detached has an empty cache
abbrev pub TurnsAreEmpty : {A : Type 0} → Caches → Event A → Type 0
TurnsAreEmpty caches e = (device : DeviceNo) → IsTrue (is_turn_of device e) → caches device ≡ []

-- a record is lawful; of the record of a write hit that isn't asked
abbrev pub MayMake : {A : Type 0} → Settings → State A → Step A → Type 0
MayMake settings s (Made r) =
    Lawful (length s.records) (world_of settings s.records) r × TurnsAreEmpty s.caches r.event
MayMake settings s (Looked query answer) = Contains (answers_to settings s.records query) answer
MayMake settings s (Filled device entry) = IsFill (world_of settings s.records) device entry
MayMake settings s (ReadHit device iova len entry) = IsHit (s.caches device) iova len Read entry
MayMake settings s (WriteHit pass device iova bytes entry) = IsHit (s.caches device) iova (length bytes) Write entry
MayMake settings s (Dropped device page) = Unit {0}

-- ---- what a step leaves

-- this device's cache is another
abbrev pub with_cache : DeviceNo → List Entry → Caches → Caches
with_cache device entries caches = λ other. if other.0 == device.0 then entries else caches other

abbrev pub without_page : ℕ → List Entry → List Entry
without_page page entries = filter (λ entry. not (entry.page == page)) entries

abbrev pub made_by : {A : Type 0} → State A → Step A → State A
made_by s (Made r) = record s { records = s.records ++ r ∷ [] }
made_by s (Looked query answer) = s
made_by s (Filled device entry) =
    record s { caches = with_cache device (entry ∷ s.caches device) s.caches }
made_by s (ReadHit device iova len entry) = s
made_by s (WriteHit pass device iova bytes entry) =
    record s { records = s.records ++ hit_record pass device iova bytes entry ∷ [] }
made_by s (Dropped device page) =
    record s { caches = with_cache device (without_page page (s.caches device)) s.caches }

-- each step may be made where those before it have led
abbrev pub AreStepsFrom : {A : Type 0} → Settings → State A → List (Step A) → Type 0
AreStepsFrom settings s [] = Unit {0}
AreStepsFrom settings s (step ∷ steps) = MayMake settings s step × AreStepsFrom settings (made_by s step) steps

abbrev pub state_from : {A : Type 0} → State A → List (Step A) → State A
state_from s [] = s
state_from s (step ∷ steps) = state_from (made_by s step) steps

-- from the opening, with empty caches
unfoldable pub AreSteps : {A : Type 0} → Settings → List (Step A) → Type 0
AreSteps settings steps = AreStepsFrom settings opened steps

unfoldable pub state_after : {A : Type 0} → List (Step A) → State A
state_after steps = state_from opened steps

abbrev pub records_after : {A : Type 0} → List (Step A) → List (Record A)
records_after steps = (state_after steps).records

abbrev pub caches_after : {A : Type 0} → List (Step A) → Caches
caches_after steps = (state_after steps).caches

abbrev pub world_after : {A : Type 0} → Settings → List (Step A) → World
world_after settings steps = world_of settings (records_after steps)
