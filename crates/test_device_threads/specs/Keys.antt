-- Keys of a server's devices.
use Rattle.std.specs.Prelude.{◌≡◌, ℕ, List, slice_get, Some}
use Rattle.shared_iommufd.specs.Ports.{IsKeyOf}
use Rattle.shared_iommufd.specs.declared.port_key.PortKey.{PortKey}
use Rattle.shared_iommufd.specs.declared.server.Server.{Server}

-- the keys are this server's
abbrev pub AreKeys : {A : Type 0} → Server A → List (PortKey A) → Type 0
AreKeys {A} server keys = (i : ℕ) (key : PortKey A) → slice_get keys i ≡ Some key → IsKeyOf server key
