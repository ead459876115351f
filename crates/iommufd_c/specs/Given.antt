-- What a caller has to give to others.
use Rattle.std.specs.Prelude.{◌≡◌, ℕ, ◌+◌, List, slice_get, Some}
use Rattle.shared_iommufd.specs.Ports.{IsKeyOf}
use Rattle.shared_iommufd.specs.declared.port_key.PortKey.{PortKey}
use Rattle.shared_iommufd.specs.declared.server.Server.{Server}

-- this holds of each item and its place
abbrev pub Each : {X : Type 0} → (ℕ → X → Type 0) → List X → Type 0
Each P items = (i : ℕ) (item : _) → slice_get items i ≡ Some item → P i item

module _ {A : Type 0} where
  -- these are the keys of the server's first devices, in the order of their numbers, which begin with 1
  abbrev pub AreKeysOf : Server A → List (PortKey A) → Type 0
  AreKeysOf server keys = Each (λ i key. IsKeyOf server key × (key.device.0 ≡ i + 1)) keys
