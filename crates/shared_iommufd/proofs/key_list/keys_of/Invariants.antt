use Rattle.std.proofs.Common.{◌≡◌, ℕ, ◌+◌, ◌≤◌, Some, length, slice_get, vec_capacity}
use Rattle.std.specs.NonZero.{non_zero_usize_get}
use Rattle.shared_iommufd.specs.declared.port_key.PortKey.{PortKey}
use Rattle.shared_iommufd.proofs.key_list.keys_of.Given as goal

abbrev pub invariant-loop-number : goal.invariant-loop-number
invariant-loop-number g l = record {
  room : l.devices ≤ vec_capacity l.keys;
  count : length l.keys.items ≡ l.number;
  each : (i : ℕ) (key : PortKey _) → slice_get l.keys.items i ≡ Some key
      → (key.device.0 ≡ i + 1) × (key.cache.pages.cap ≡ non_zero_usize_get l.most);
}
