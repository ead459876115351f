-- A port's translations.
use Rattle.std.specs.Prelude.{◌≡◌, ℕ, List, Option, IfSome, Result, Ok, Err, IsTrue}
use Rattle.iofd_words.specs.Pages.{page_of}
use Rattle.iofd_words.specs.Record.{Record}
use Rattle.iofd_words.specs.Rights.{has_right}
use Rattle.iofd_words.specs.Settings.{Settings}
use Rattle.iofd_words.specs.Turns.{turns_of}
use Rattle.iofd_words.specs.declared.fault.AccessKind.{AccessKind}
use Rattle.iofd_words.specs.declared.numbers.DeviceNo.{DeviceNo}
use Rattle.iofd_words.specs.declared.query.Translation.{Translation}
use Rattle.lane_lock.specs.Outcomes.{HadLane, MetNone, OnlySees, RefusesRead}
use Rattle.lane_lock.specs.Passes.{lane_of, view_of}
use Rattle.lane_lock.specs.declared.refusal.NotNow.{NotNow}
use Rattle.port_cache.specs.Cached.{Leaves, compared}
use Rattle.port_cache.specs.declared.cache.Found.{Found}
use Rattle.guarded_core.specs.Caches.{IsGood, found}
use Rattle.guarded_core.specs.Entries.{history_of}
use Rattle.guarded_core.specs.Passes.{CoreGhosts, CorePass}
use Rattle.shared_iommufd.specs.Ports.{KeepsSame, Standing}
use Rattle.shared_iommufd.specs.Seen.{HasSeen}

module _ {A : Type 0} {g : CoreGhosts A} where
  -- What a guard tells of the device's page at the address, by what a port keeps that stands as p: the pass has then
  -- seen just these records, and what is found has the right, and is good for the device then.
  pub record TellsTranslation (settings : Settings) (device : DeviceNo) (address : ℕ) (kind : AccessKind)
      (p : Standing A g) (finds : Found) (pass : CorePass A g) : Type 0 where
    pub records : List (Record A)
    pub seen : HasSeen settings pass records
    pub turns : finds.turns ≡ turns_of device records
    pub found : finds.translation ≡ found settings records device p.turns p.kept address kind
    pub right : IfSome finds.translation (λ t. IsTrue (has_right t.rights kind))
    pub backed : IfSome finds.translation (IsGood (history_of settings records) device (page_of address))

  -- The device's page at the address is translated so, after all records that the pass has then seen; these begin with
  -- what it had seen before, and it made none and had a share once. The port, which may keep so many pages, keeps what
  -- was found.
  pub record IsTranslatedSo (settings : Settings) (device : DeviceNo) (most address : ℕ) (kind : AccessKind)
      (p : Standing A g) (told : Option Translation) (q : Standing A g) : Type 0 where
    pub sees : OnlySees (view_of p.pass) (view_of q.pass)
    pub had : HadLane (view_of p.pass) (view_of q.pass)
    pub finds : Found
    pub tells : TellsTranslation settings device address kind p finds q.pass
    pub found : told ≡ finds.translation
    pub turns : q.turns ≡ finds.turns
    pub leaves : Leaves most (page_of address) finds.translation (compared p.turns finds.turns p.kept) q.kept

  -- it is, and no lane was met held; or its lane couldn't be had, and nothing was seen
  abbrev pub Translates : Settings → DeviceNo → ℕ → ℕ → AccessKind → Standing A g → Result (Option Translation) NotNow
      → Standing A g → Type 0
  Translates settings device most address kind p (Ok told) q =
      IsTranslatedSo settings device most address kind p told q × MetNone (view_of p.pass) (view_of q.pass)
  Translates settings device most address kind p (Err refused) q =
      RefusesRead (view_of p.pass) (view_of q.pass) (lane_of p.pass) refused × KeepsSame p q
