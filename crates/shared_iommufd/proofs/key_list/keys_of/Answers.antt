use Rattle.std.proofs.Common.{◌≡◌, ℕ, ◌+◌, List, Some, slice_get, sym, ap, subst, rules}
use Rattle.std.specs.NonZero.{non_zero_usize_get}
use Rattle.iofd_words.specs.declared.numbers.DeviceNo.{DeviceNo}
use Rattle.shared_iommufd.specs.declared.port_key.PortKey.{PortKey}
use Rattle.shared_iommufd.proofs.Keys.{one_more}
use Rattle.shared_iommufd.proofs.key_list.keys_of.Goals as goal

pub loop-number-preserved : goal.loop-number-preserved
loop-number-preserved g c =
    let loop = c.loop-number in
    let most = non_zero_usize_get c.args.most in
    record {
      room = search rules;
      count = search rules;
      each = subst (λ (keys : List (PortKey _)). (i : ℕ) (key : PortKey _) → slice_get keys i ≡ Some key
          → (key.device.0 ≡ i + 1) × (key.cache.pages.cap ≡ most)) (sym c.push_reserved.ensures.items)
          (one_more most loop.keys.items c.in-Ok.key loop.number loop.invariant.each loop.invariant.count
          (ap (λ (d : DeviceNo). d.0) c.in-Ok.ensures.0) c.in-Ok.ensures.1);
    }
