use Rattle.std.proofs.Common.{arith, ◌≤◌, sym, inl, inr}
use Rattle.iofd_words.specs.DeviceSet.{has_bit, most_devices}
use Rattle.iofd_words.proofs.Members.{without_device-filter, without_device-absent, most_devices-is}
use Rattle.iofd_words.proofs.Bits.{has_bit-clear, has_bit-clear_other}
use Rattle.iofd_words.proofs.device_set.DeviceSet.remove.Goals as goal
use Rattle.iofd_words.proofs.device_set.DeviceSet.remove.Goals.{then-device-eq0-via-then-device-eq0}
use Rattle.iofd_words.proofs.device_set.DeviceSet.remove.Goals.{then-device-eq0-via-else-device-eq0+then-device-gt-MAX}

pub returns-then-device-eq0 : goal.returns-then-device-eq0
returns-then-device-eq0 c =
    let p = has_bit c.self.inside.words in
    let d = c.args.device.0 in
    elim c.then-device-eq0.branch [
      | then-device-eq0-via-then-device-eq0 w ↦
          rw (w.self-inside-is, ← c.self.view_is) (sym (without_device-absent p d 1 most_devices (inl (omega arith))))
      | then-device-eq0-via-else-device-eq0+then-device-gt-MAX w ↦
          rw (w.self-inside-is, ← c.self.view_is) (sym
          (without_device-absent p d 1 most_devices (inr (omega (arith, most_devices-is)))))
    ]

pub returns : goal.returns
returns c =
    let words = c.self.inside.words in
    let d = c.args.device.0 in
    let room = c.self.invariant in
    let low : 1 ≤ d = omega arith in
    let high : d ≤ 256 = omega arith in
    let one_fewer = without_device-filter (has_bit words) _ d 1 most_devices (has_bit-clear words d room low high)
    (λ e some within differ. has_bit-clear_other words d room low high e some differ) in
    rw (c.place-word.ensures.word, c.place-word.ensures.bit, ← c.self.view_is) (sym one_fewer)
