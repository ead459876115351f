-- Which translations a port may keep, when they serve, and what an access finds.
use Rattle.std.specs.Prelude.{◌≡◌, ◌⊎◌, ℕ, nat_eq, Option, Some, None, IfSome, List, [], Contains, IsTrue}
use Rattle.std.specs.Map.{lookup}
use Rattle.std.specs.Option.{option_map}
use Rattle.iofd_words.specs.Frames.{bytes_at}
use Rattle.iofd_steps.specs.Look.{answers_to}
use Rattle.iofd_words.specs.Pages.{offset_of, page_of}
use Rattle.iofd_words.specs.Rights.{has_right}
use Rattle.iofd_steps.specs.Run.{IsRun, world_of}
use Rattle.iofd_words.specs.Record.{Record}
use Rattle.iofd_words.specs.Settings.{Settings}
use Rattle.iofd_words.specs.Turns.{turns_of}
use Rattle.iofd_words.specs.View.{view}
use Rattle.iofd_words.specs.Walk.{translation}
use Rattle.iofd_words.specs.declared.event.Act.{Act}
use Rattle.iofd_words.specs.declared.event.Event.TheVariants as event
use Rattle.iofd_words.specs.declared.fault.AccessKind.{AccessKind}
use Rattle.iofd_words.specs.declared.fault.AccessKind.TheVariants.{Read, Write}
use Rattle.iofd_words.specs.declared.numbers.DeviceNo.{DeviceNo}
use Rattle.iofd_words.specs.declared.numbers.FrameNo.{FrameNo}
use Rattle.iofd_words.specs.declared.numbers.Iova.{Iova}
use Rattle.iofd_words.specs.declared.query.Answer.{Answer}
use Rattle.iofd_words.specs.declared.query.Answer.TheVariants as answer
use Rattle.iofd_words.specs.declared.query.Query.TheVariants as query
use Rattle.iofd_words.specs.declared.query.Translation.{Translation}
use Rattle.iofd_interleavings.specs.Caches.{Entry as CacheEntry, IsBacked}
use Rattle.iommufd_core.specs.History.{History, may_apply, world}
use Rattle.lane_lock.specs.History.{StartsWith}
use Rattle.lane_lock.specs.Passes.{view_of}
use Rattle.lane_lock.specs.declared.kept.Kept as kept
use Rattle.lane_lock.specs.declared.pass.Pass.{Pass}
use Rattle.port_cache.specs.declared.cache.Found.{Found}
use Rattle.server_state.specs.Choice.{IsLooked}
use Rattle.port_cache.specs.Cached.{Translations, compared, with_right}
use Rattle.guarded_core.specs.declared.kept_core.KeptCore.{KeptCore}

-- ---- what is kept

-- a page and its translation, as the law of interleavings has them
abbrev pub entry_of : ℕ → Translation → CacheEntry
entry_of page t = record { page = page; frame = t.frame; rights = t.rights }

-- all translations are good for the device in the world of this history: behind each stand an attachment, an area that
-- the device may use, and a pin
abbrev pub AreSound : {A : Type 0} → History A → DeviceNo → Translations → Type 0
AreSound h device kept =
    (page : ℕ) (t : Translation) → Contains kept (page, t) → IsBacked (world h) device (entry_of page t)

-- they were good in a history that was seen, as histories are told, in which the device had had so many turns
pub record WereSound {A E : Type 0} (tells : History A → List E) (device : DeviceNo) (seen : List E) (turns : ℕ)
    (kept : Translations) : Type 0 where
  pub history : History A
  pub later : StartsWith seen (tells history)
  pub turned : turns_of device history.records ≡ turns
  pub sound : AreSound history device kept

-- what may be kept where this was seen: nothing, or what was good then
abbrev pub MayKeep : {A E : Type 0} → (History A → List E) → DeviceNo → List E → ℕ → Translations → Type 0
MayKeep tells device seen turns kept = ∥ (kept ≡ []) ⊎ WereSound tells device seen turns kept ∥₁

-- a page's translation is good for the device in the world of this history
abbrev pub IsGood : {A : Type 0} → History A → DeviceNo → ℕ → Translation → Type 0
IsGood h device page t = ∥ IsBacked (world h) device (entry_of page t) ∥₁

-- what a port may keep, of what its pass has seen of a core under a lock
abbrev pub PortKeeps : {A S T E : Type 0} {g : kept.Ghosts (KeptCore A) S T E} → DeviceNo → Pass (KeptCore A) S T E g
    → ℕ → Translations → Type 0
PortKeeps {g = g} device pass turns translations =
    MayKeep (λ h. g.history (record { core = record { history = h; room = 0 } })) device (view_of pass).seen turns
    translations

-- what is kept serves in this history: where the device has had no turn since, it is good
abbrev pub Serves : {A : Type 0} → History A → DeviceNo → ℕ → Translations → Type 0
Serves h device turns kept =
    ∥ (IsRun h.settings h.records → turns ≡ turns_of device h.records → AreSound h device kept) ∥₁

-- ---- what an access finds

-- the one or else the other, each with the right
abbrev pub either_with_right : AccessKind → Option Translation → Option Translation → Option Translation
either_with_right kind kept walked = elim (with_right kind kept) [ Some t ↦ Some t | None ↦ with_right kind walked ]

-- what the device's access at the address finds after these records: what is kept of the page, where that is good still
-- and has the right, or else what a walk finds, where that has it
abbrev pub found : {A : Type 0} → Settings → List (Record A) → DeviceNo → ℕ → Translations → ℕ → AccessKind
    → Option Translation
found settings records device turns kept address kind =
    either_with_right kind (lookup (nat_eq (page_of address)) (compared turns (turns_of device records) kept))
    (translation (view (world_of settings records)) device address)

-- the frame of what was found
abbrev pub frame_found : Option Translation → Option FrameNo
frame_found o = option_map (λ t. t.frame) o

-- ---- what comes of it

-- what a read is answered by what it finds: the bytes of the frame; or where it finds nothing, what the server answers
-- without a cache
abbrev pub ReadBy : {A : Type 0} → Settings → List (Record A) → DeviceNo → Iova → ℕ → Option Translation → Answer → Type 0
ReadBy settings records device iova len (Some t) told =
    told ≡ answer.Read (bytes_at (world_of settings records).writes t.frame.0 (offset_of iova.0) len)
ReadBy settings records device iova len None told =
    IsLooked (answers_to settings records (query.DeviceRead device iova len)) told

-- the device's write of these bytes at the address, at the frame of what was found, if anything was
abbrev pub write_by : {A : Type 0} → DeviceNo → ℕ → List ℕ → Option Translation → Act A
write_by device address bytes t =
    record { event = event.DeviceWrite device (record { 0 = address }) bytes; via = frame_found t }

-- ---- under a guard that shows this history

-- what a page is translated to, by what is kept: what is found has the right, and is good for the device then
pub record TranslatedUnder {A : Type 0} (h : History A) (device : DeviceNo) (turns : ℕ) (kept : Translations)
    (iova : Iova) (kind : AccessKind) (finds : Found) : Type 0 where
  pub run : IsRun h.settings h.records
  pub turned : finds.turns ≡ turns_of device h.records
  pub found_so : finds.translation ≡ found h.settings h.records device turns kept iova.0 kind
  pub right : IfSome finds.translation (λ t. IsTrue (has_right t.rights kind))
  pub backed : IfSome finds.translation (IsGood h device (page_of iova.0))

-- a read of so many bytes, by what is kept: the answer is one that the policy allows, and is by what the read finds
pub record ReadUnder {A : Type 0} (h : History A) (device : DeviceNo) (turns : ℕ) (kept : Translations) (iova : Iova)
    (len : ℕ) (finds : Found) (told : Answer) : Type 0 where
  pub run : IsRun h.settings h.records
  pub turned : finds.turns ≡ turns_of device h.records
  pub found_so : finds.translation ≡ found h.settings h.records device turns kept iova.0 Read
  pub lawful : Contains (answers_to h.settings h.records (query.DeviceRead device iova len)) told
  pub by : ReadBy h.settings h.records device iova len finds.translation told

-- a write of these bytes, by what is kept: its act is by what the write finds, and may be applied
pub record WriteUnder {A : Type 0} (h : History A) (device : DeviceNo) (turns : ℕ) (kept : Translations) (iova : Iova)
    (bytes : List ℕ) (finds : Found) (act : Act A) : Type 0 where
  pub turned : finds.turns ≡ turns_of device h.records
  pub found_so : finds.translation ≡ found h.settings h.records device turns kept iova.0 Write
  pub by : act ≡ write_by device iova.0 bytes finds.translation
  pub may : IsTrue (may_apply h act.event act.via)
