-- What is asked of the core, and applied to it, by what an access finds.
use Rattle.std.proofs.Common.{◌≡◌, ℕ, true, false, IsTrue, Option, Some, None, IfSome, List, length, Contains, refl, sym}
use Rattle.std.proofs.Common.{ap, ◌∙◌}
use Rattle.iofd_words.specs.Files.{is_device}
use Rattle.iofd_steps.specs.Look.{answers_to}
use Rattle.iofd_words.specs.Pages.{crosses, page_of}
use Rattle.iofd_words.specs.Rights.{has_right}
use Rattle.iofd_steps.specs.Run.{IsRun}
use Rattle.iofd_words.specs.Settings.{Settings}
use Rattle.iofd_words.specs.Turns.{turns_of}
use Rattle.iofd_words.specs.View.{view}
use Rattle.iofd_words.specs.Walk.{translation}
use Rattle.iofd_words.specs.declared.event.Event.TheVariants as event
use Rattle.iofd_words.specs.declared.fault.AccessKind.{AccessKind}
use Rattle.iofd_words.specs.declared.fault.AccessKind.TheVariants.{Read, Write}
use Rattle.iofd_words.specs.declared.numbers.DeviceNo.{DeviceNo}
use Rattle.iofd_words.specs.declared.numbers.Iova.{Iova}
use Rattle.iofd_words.specs.declared.query.Answer.{Answer}
use Rattle.iofd_words.specs.declared.query.Answer.TheVariants as answer
use Rattle.iofd_words.specs.declared.query.Query.{Query}
use Rattle.iofd_words.specs.declared.query.Query.TheVariants as query
use Rattle.iofd_words.specs.declared.query.Translation.{Translation}
use Rattle.iofd_interleavings.proofs.Allowed.{cached_allowed}
use Rattle.iommufd_core.specs.History.{History, may_apply, may_look, world}
use Rattle.port_cache.specs.Cached.{Translations}
use Rattle.server_state.specs.Choice.{IsLooked}
use Rattle.guarded_core.specs.Caches.{IsGood, ReadBy, Serves, found, frame_found}
use Rattle.guarded_core.proofs.Answered.{cached_told, run_settings, turns_told, walk_told}
use Rattle.guarded_core.proofs.Kept.{found_good, found_passes, found_right}

-- ---- what the core tells of a known device

module _ {A : Type 0} (h : History A) (device : DeviceNo) (run : IsRun h.settings h.records)
    (known : is_device h.settings device ≡ true) where
  known_there : is_device (world h).settings device ≡ true
  known_there = ap (λ (s : Settings). is_device s device) (run_settings h.settings h.records run) ∙ known

  pub turns_are : (told : Answer) → Contains (answers_to h.settings h.records (query.Turns device)) told
      → told ≡ answer.Count (turns_of device h.records)
  turns_are told has = turns_told h.settings h.records device told known_there has

  pub walk_is : (iova : Iova) (told : Answer)
      → Contains (answers_to h.settings h.records (query.WalkFor device iova)) told
      → told ≡ answer.Walk (translation (view (world h)) device iova.0)
  walk_is iova told has = walk_told h.settings h.records device iova told known_there has

pub same_count : (told : Answer) (n m : ℕ) → told ≡ answer.Count n → told ≡ answer.Count m → n ≡ m
same_count told n m a b = let e : answer.Count n ≡ answer.Count m = sym a ∙ b in cc

pub same_walk : (told : Answer) (o p : Option Translation) → told ≡ answer.Walk o → told ≡ answer.Walk p → o ≡ p
same_walk told o p a b = let e : answer.Walk o ≡ answer.Walk p = sym a ∙ b in cc

-- ---- what is asked by what a read finds

-- the question of a read that has found this
abbrev pub query_by : DeviceNo → Iova → ℕ → Option Translation → Query
query_by device iova len None = query.DeviceRead device iova len
query_by device iova len (Some t) = query.CachedRead device iova len t.frame

module _ {A : Type 0} (h : History A) (device : DeviceNo) (run : IsRun h.settings h.records) (turns : ℕ)
    (kept : Translations) (serves : Serves h device turns kept) (iova : Iova) (len : ℕ)
    (inside : crosses iova.0 len ≡ false) where
  pub may_ask : (o : Option Translation) → o ≡ found h.settings h.records device turns kept iova.0 Read
      → may_look h (query_by device iova len o) ≡ true
  may_ask None is = refl
  may_ask (Some t) is = found_passes h device run turns kept iova.0 Read t (sym is) serves len inside

  pub told_lawful : (o : Option Translation) (told : Answer)
      → Contains (answers_to h.settings h.records (query_by device iova len o)) told
      → Contains (answers_to h.settings h.records (query.DeviceRead device iova len)) told
  told_lawful None told has = has
  told_lawful (Some t) told has = cached_allowed h.settings h.records device iova len t.frame told has

  pub told_by : (o : Option Translation) (told : Answer)
      → o ≡ found h.settings h.records device turns kept iova.0 Read
      → IsLooked (answers_to h.settings h.records (query_by device iova len o)) told
      → ReadBy h.settings h.records device iova len o told
  told_by None told is looked = looked
  told_by (Some t) told is looked =
      cached_told h.settings h.records device iova len t.frame told
      (found_passes h device run turns kept iova.0 Read t (sym is) serves len inside) looked.is_lawful

-- ---- what is found has the right, and is good

module _ {A : Type 0} (h : History A) (device : DeviceNo) (run : IsRun h.settings h.records) (turns : ℕ)
    (kept : Translations) (iova : Iova) (kind : AccessKind) where
  pub right_found : (o : Option Translation) → o ≡ found h.settings h.records device turns kept iova.0 kind
      → IfSome o (λ t. IsTrue (has_right t.rights kind))
  right_found None is = tt
  right_found (Some t) is = found_right h device run turns kept iova.0 kind t (sym is)

  pub good_found : Serves h device turns kept → (o : Option Translation)
      → o ≡ found h.settings h.records device turns kept iova.0 kind → IfSome o (IsGood h device (page_of iova.0))
  good_found serves None is = tt
  good_found serves (Some t) is = found_good h device run turns kept iova.0 kind t (sym is) serves

-- ---- what is applied by what a write finds

pub may_write : {A : Type 0} (h : History A) (device : DeviceNo) → IsRun h.settings h.records → (turns : ℕ)
    (kept : Translations) → Serves h device turns kept → (iova : Iova) (bytes : List ℕ)
    → crosses iova.0 (length bytes) ≡ false → (o : Option Translation)
    → o ≡ found h.settings h.records device turns kept iova.0 Write
    → may_apply h (event.DeviceWrite device iova bytes) (frame_found o) ≡ true
may_write h device run turns kept serves iova bytes inside None is = refl
may_write h device run turns kept serves iova bytes inside (Some t) is =
    found_passes h device run turns kept iova.0 Write t (sym is) serves (length bytes) inside
