use Rattle.std.proofs.Common.{ℕ, ◌+◌, Some, slice_get, ◌≡◌, ◌∙◌, length, refl, sym, subst, inl, inr, rules}
use Rattle.std.specs.NonZero.{non_zero_usize_get}
use Rattle.shared_iommufd.specs.declared.port_key.PortKey.{PortKey}
use Rattle.shared_iommufd.proofs.Bounds.{lanes_fit}
use Rattle.shared_iommufd.proofs.Keys.{all_keys}
use Rattle.shared_iommufd.proofs.server.Server.new.Goals as goal

pub without_keys-requires : goal.without_keys-requires
without_keys-requires g c = record {
  lanes = lanes_fit c.args.lanes c.args.cache (sym c.first_outside.ensures ∙ c.in_default.is);
}

pub returns-in-Some-clause-refused : goal.returns-in-Some-clause-refused
returns-in-Some-clause-refused g c = inl (sym c.first_outside.ensures ∙ c.in-Some.is)

pub returns-in-Some-without_keys-clause-limits : goal.returns-in-Some-without_keys-clause-limits
returns-in-Some-without_keys-clause-limits g c = sym c.first_outside.ensures ∙ c.in_default.is

pub returns-in-Some-without_keys-clause-keys : goal.returns-in-Some-without_keys-clause-keys
returns-in-Some-without_keys-clause-keys g c =
    let count : length c.in-Ok.keys.items ≡ length c.args.config.now.devices = search rules in
    let most : non_zero_usize_get c.in-Some-new.most ≡ c.args.cache = c.in-Some-new.ensures ∙ c.from.ensures in
    all_keys _ c.args.config.now c.args.cache c.in-Ok.keys.items c.in-Some-without_keys.ensures.settings
    count (subst (λ (n : ℕ). (i : ℕ) (key : PortKey _) → slice_get c.in-Ok.keys.items i ≡ Some key
    → (key.device.0 ≡ i + 1) × (key.cache.pages.cap ≡ n)) most c.in-Ok.ensures.each)

pub returns-in_default-keys_of-clause-refused : goal.returns-in_default-keys_of-clause-refused
returns-in_default-keys_of-clause-refused g c = inr (sym c.first_outside.ensures ∙ c.in_default.is, refl)

pub returns-in-None-clause-refused : goal.returns-in-None-clause-refused
returns-in-None-clause-refused g c = inr (sym c.first_outside.ensures ∙ c.in_default.is, refl)
