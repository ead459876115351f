-- What a server's first caller has, and what a caller gives.
use Rattle.std.specs.Prelude.{◌≡◌, ℕ, ◌+◌, [], ◌∷◌, ◌++◌, length, None}
use Rattle.std.specs.Arc.{arc_value}
use Rattle.std.specs.declared.alloc.Global.{Global}
use Rattle.iofd_words.specs.Settings.{Settings}
use Rattle.lane_lock.specs.Passes.{AllNew, lanes_of}
use Rattle.shared_iommufd.specs.Limits.{first_outside}
use Rattle.shared_iommufd.specs.Ports.{KeepsNothing, most_of}
use Rattle.shared_iommufd.specs.Servers.{settings_of}
use Rattle.shared_iommufd.specs.declared.port_key.PortKey.{PortKey}
use Rattle.iommufd_c.specs.Given.{Each}
use Rattle.iommufd_c.specs.declared.handle.caller.Caller.{Caller}
use Rattle.iommufd_c.specs.declared.handle.device.Device.{Device}
use Rattle.iommufd_c.specs.declared.handle.error.GiveError.{GiveError}
use Rattle.iommufd_c.specs.declared.handle.error.GiveError.TheVariants as error

-- A server was opened so for this caller: it has these settings and so many lanes. The caller has the last of its
-- passes, and all others to give, each of them new, and the key of each device; a port may keep so many pages. Lanes
-- and pages are within their limits.
pub record IsFirst (settings : Settings) (lanes cache : ℕ) (c : Caller) : Type 0 where
  pub opened : settings_of (arc_value c.server) ≡ settings
  pub has_lanes : lanes_of (arc_value c.server).lock ≡ lanes
  pub passes : length c.spare.items + 1 ≡ settings.passes
  pub all_new : AllNew (arc_value c.server).lock settings.passes (c.spare.items ++ c.pass ∷ [])
  pub keys : length c.keys.items ≡ length settings.devices
  pub most : Each (λ i key. key.cache.pages.cap ≡ cache) c.keys.items
  pub within : first_outside lanes cache ≡ None

-- the last pass that the caller had to give is now the other caller's, who is one of the same server
pub record HasShared (c d other : Caller) : Type 0 where
  pub server : d.server ≡ c.server
  pub pass : d.pass ≡ c.pass
  pub keys : d.keys ≡ c.keys
  pub given : c.spare.items ≡ d.spare.items ++ other.pass ∷ []
  pub same : arc_value other.server ≡ arc_value c.server
  pub spare : other.spare.items ≡ []
  pub no_keys : other.keys.items ≡ []

-- the last pass that the caller had to give, and the key of the last device, are now the port's, which keeps nothing
pub record HasGiven (c d : Caller) (p : Device) : Type 0 where
  pub server : d.server ≡ c.server
  pub pass : d.pass ≡ c.pass
  pub given : c.spare.items ≡ d.spare.items ++ p.port.pass ∷ []
  pub same : arc_value p.server ≡ arc_value c.server
  pub key : PortKey Global
  pub keys : c.keys.items ≡ d.keys.items ++ key ∷ []
  pub device : p.port.device ≡ key.device
  pub number : p.port.device.0 ≡ length c.keys.items
  pub most : most_of p.port ≡ key.cache.pages.cap
  pub empty : KeepsNothing p.port

-- The caller has what it had: there was no memory for what it had to give, or it had nothing to give.
abbrev pub GivesNone : Caller → Caller → GiveError → Type 0 → Type 0
GivesNone c d error.Memory HadNone = (d ≡ c) × (HadNone → ⊥)
GivesNone c d error.NoneLeft HadNone = (d ≡ c) × HadNone
GivesNone c d error.NoCaller HadNone = ⊥
GivesNone c d error.Open HadNone = ⊥
