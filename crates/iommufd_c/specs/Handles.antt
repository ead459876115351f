-- What is done by a handle, which stands for a client, or is closed.
use Rattle.std.specs.Prelude.{◌≡◌, ◌⊎◌, ℕ, [], Option, Some, None, Result, Ok, Err, Box}
use Rattle.std.specs.declared.alloc.Global.{Global}
use Rattle.iofd_words.specs.Settings.{Settings}
use Rattle.shared_iommufd.specs.Limits.{IsRefusedFor}
use Rattle.iommufd_c.specs.Callers.{GivesNone, HasGiven, HasShared, IsFirst}
use Rattle.iommufd_c.specs.declared.handle.caller.Caller.{Caller}
use Rattle.iommufd_c.specs.declared.handle.client.Client.{Client}
use Rattle.iommufd_c.specs.declared.handle.client.Client.TheVariants as client
use Rattle.iommufd_c.specs.declared.handle.device.Device.{Device}
use Rattle.iommufd_c.specs.declared.handle.error.GiveError.{GiveError}
use Rattle.iommufd_c.specs.declared.handle.error.GiveError.TheVariants as given
use Rattle.iommufd_c.specs.declared.handle.error.OpenError.{OpenError}
use Rattle.iommufd_c.specs.declared.handle.error.OpenError.TheVariants as opened

-- the handle is a caller's, of whom this holds
abbrev pub HasCaller : Option Client → (Caller → Type 0) → Type 0
HasCaller None P = ⊥
HasCaller (Some (client.Caller c)) P = P c
HasCaller (Some (client.Device p)) P = ⊥
HasCaller (Some client.Vacant) P = ⊥

-- the handle is a port's, of which this holds
abbrev pub HasDevice : Option Client → (Device → Type 0) → Type 0
HasDevice None P = ⊥
HasDevice (Some (client.Caller c)) P = ⊥
HasDevice (Some (client.Device p)) P = P p
HasDevice (Some client.Vacant) P = ⊥

-- the box has another caller, to whom the last pass went; or nothing was given
abbrev pub GivesShare : Caller → Caller → Result (Box Client Global) GiveError → Type 0
GivesShare c d (Ok given) = HasCaller (Some given.value) (HasShared c d)
GivesShare c d (Err error) = GivesNone c d error (c.spare.items ≡ [])

-- the box has a port, to which the last pass and the last key went; or nothing was given
abbrev pub GivesPort : Caller → Caller → Result (Box Client Global) GiveError → Type 0
GivesPort c d (Ok given) = HasDevice (Some given.value) (HasGiven c d)
GivesPort c d (Err error) = GivesNone c d error ((c.spare.items ≡ []) ⊎ (c.keys.items ≡ []))

-- A call of a caller: its handle stays a caller's. By another handle nothing is called, and it stays as it was.
abbrev pub OnCaller : {R : Type 0} → Option Client → Option R → Option Client → (Caller → R → Caller → Type 0) → Type 0
OnCaller None told after P = (told ≡ None) × (after ≡ None)
OnCaller (Some (client.Caller c)) None after P = ⊥
OnCaller (Some (client.Caller c)) (Some told) after P = HasCaller after (λ d. P c told d)
OnCaller (Some (client.Device p)) told after P = (told ≡ None) × (after ≡ Some (client.Device p))
OnCaller (Some client.Vacant) told after P = (told ≡ None) × (after ≡ Some client.Vacant)

-- the same of a port's call
abbrev pub OnDevice : {R : Type 0} → Option Client → Option R → Option Client → (Device → R → Device → Type 0) → Type 0
OnDevice None told after P = (told ≡ None) × (after ≡ None)
OnDevice (Some (client.Caller c)) told after P = (told ≡ None) × (after ≡ Some (client.Caller c))
OnDevice (Some (client.Device p)) None after P = ⊥
OnDevice (Some (client.Device p)) (Some told) after P = HasDevice after (λ q. P p told q)
OnDevice (Some client.Vacant) told after P = (told ≡ None) × (after ≡ Some client.Vacant)

-- a server is opened for a handle that was closed, or the handle stays as it was
abbrev pub Opens : Option Client → Settings → ℕ → ℕ → Result (Unit {0}) OpenError → Option Client → Type 0
Opens before settings lanes cache (Ok done) after = (before ≡ None) × HasCaller after (IsFirst settings lanes cache)
Opens before settings lanes cache (Err opened.Open) after = (before ≡ None → ⊥) × (after ≡ before)
Opens before settings lanes cache (Err (opened.Server e)) after =
    (before ≡ None) × IsRefusedFor lanes cache e × (after ≡ before)

-- why a caller gives nothing to another handle, which is asked first whether it is closed; memory is wanting only where
-- a caller has something to give
abbrev pub GivesNot : Option Client → Option Client → (Caller → Type 0) → GiveError → Type 0
GivesNot before other HadNone given.Open = other ≡ None → ⊥
GivesNot before other HadNone given.NoCaller = (other ≡ None) × (HasCaller before (λ c. Unit {0}) → ⊥)
GivesNot before other HadNone given.NoneLeft = (other ≡ None) × HasCaller before HadNone
GivesNot before other HadNone given.Memory = (other ≡ None) × HasCaller before (λ c. HadNone c → ⊥)

-- A caller gives a pass to another one, whose handle was closed; or both handles stay as they were.
abbrev pub Shares : Option Client → Option Client → Result (Unit {0}) GiveError → Option Client → Option Client → Type 0
Shares before other (Ok done) after now =
    (other ≡ None) × HasCaller before (λ c. HasCaller after (λ d. HasCaller now (HasShared c d)))
Shares before other (Err e) after now =
    (after ≡ before) × (now ≡ other) × GivesNot before other (λ c. c.spare.items ≡ []) e

-- A caller gives a pass and a key to a port, of the device of this number, whose handle was closed; or both handles
-- stay as they were.
abbrev pub GivesDevice : Option Client → Option Client → Result ℕ GiveError → Option Client → Option Client → Type 0
GivesDevice before other (Ok device) after now =
    (other ≡ None) × HasCaller before (λ c. HasCaller after (λ d. HasDevice now (λ p.
    HasGiven c d p × (device ≡ p.port.device.0))))
GivesDevice before other (Err e) after now =
    (after ≡ before) × (now ≡ other)
    × GivesNot before other (λ c. (c.spare.items ≡ []) ⊎ (c.keys.items ≡ [])) e
