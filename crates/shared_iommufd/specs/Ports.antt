-- Keys and ports, as contracts see them.
use Rattle.std.specs.Prelude.{◌≡◌, ℕ, ◌+◌, true, List, [], length, slice_get, Some}
use Rattle.iofd_words.specs.Files.{is_device}
use Rattle.lane_lock.specs.Passes.{SamePass}
use Rattle.iofd_words.specs.declared.event.Act.{Act}
use Rattle.iommufd_core.specs.declared.apply.Stamp.{Stamp}
use Rattle.port_cache.specs.Cached.{Translations}
use Rattle.guarded_core.specs.Passes.{CoreGhosts, CorePass}
use Rattle.shared_iommufd.specs.Servers.{IsPassOf, settings_of}
use Rattle.port_cache.specs.declared.cache.PortCache.{PortCache}
use Rattle.guarded_core.specs.declared.kept_core.Entry.{Entry}
use Rattle.shared_iommufd.specs.declared.port.Port.{Port}
use Rattle.shared_iommufd.specs.declared.port_key.PortKey.{PortKey}
use Rattle.shared_iommufd.specs.declared.server.Server.{Server}

abbrev pub CorePort : (A : Type 0) → CoreGhosts A → Type 0
CorePort A g = Port A (Act A) Stamp (Entry A) g

-- the key's device is one of this server's
abbrev pub IsKeyOf : {A : Type 0} → Server A → PortKey A → Type 0
IsKeyOf server key = is_device (settings_of server) key.device ≡ true

-- one key for each device of this server, in the order of their numbers, which begin with 1; its port may keep so many
-- pages
pub record AllKeys {A : Type 0} (server : Server A) (pages : ℕ) (keys : List (PortKey A)) : Type 0 where
  pub count : length keys ≡ length (settings_of server).devices
  pub each : (i : ℕ) (key : PortKey A) → slice_get keys i ≡ Some key → key.device.0 ≡ i + 1
  pub owned : (i : ℕ) (key : PortKey A) → slice_get keys i ≡ Some key → IsKeyOf server key
  pub most : (i : ℕ) (key : PortKey A) → slice_get keys i ≡ Some key → key.cache.pages.cap ≡ pages

module _ {A : Type 0} {g : CoreGhosts A} where
  -- the port's device is one of this server's, and its pass came from this server's `new`
  pub record IsPortOf (server : Server A) (port : CorePort A g) : Type 0 where
    pub device : is_device (settings_of server) port.device ≡ true
    pub pass : IsPassOf server port.pass

  -- it is of the same device, by the same pass, and may keep as many pages
  pub record SamePort (p q : CorePort A g) : Type 0 where
    pub device : q.device ≡ p.device
    pub pass : SamePass p.pass q.pass
    pub most : q.cache.pages.cap ≡ p.cache.pages.cap

  -- how many pages it may keep
  abbrev pub most_of : CorePort A g → ℕ
  most_of port = port.cache.pages.cap

  -- it keeps nothing
  abbrev pub KeepsNothing : CorePort A g → Type 0
  KeepsNothing port = port.cache.pages.entries ≡ []

-- what the accesses of a port go by: its pass, what it keeps, and how many turns the device had had when that was last
-- compared
pub record Standing (A : Type 0) (g : CoreGhosts A) : Type 0 where
  pub pass : CorePass A g
  pub turns : ℕ
  pub kept : Translations

abbrev pub stands_so : {A : Type 0} {g : CoreGhosts A} → CorePass A g → PortCache A → Standing A g
stands_so pass cache = record { pass = pass; turns = cache.turns; kept = cache.pages.entries }

abbrev pub standing_of : {A : Type 0} {g : CoreGhosts A} → CorePort A g → Standing A g
standing_of port = stands_so port.pass port.cache

-- it keeps what it kept
pub record KeepsSame {A : Type 0} {g : CoreGhosts A} (p q : Standing A g) : Type 0 where
  pub turns : q.turns ≡ p.turns
  pub kept : q.kept ≡ p.kept
