use Rattle.std.proofs.Common.{arith, sym, ⊎_elim}
use Rattle.std.proofs.lemmas.Nat.Bits.{shr_and_one}
use Rattle.iofd_words.specs.DeviceSet.{has_bit, most_devices}
use Rattle.iofd_words.proofs.Members.{has_device-below, has_device-above, has_device-within, most_devices-is}
use Rattle.iofd_words.proofs.device_set.DeviceSet.contains.Goals as goal

pub returns-then-device-eq0 : goal.returns-then-device-eq0
returns-then-device-eq0 c =
    let words = c.self.inside.words in
    let d = c.args.device.0 in
    let out = ⊎_elim
    (λ zero. has_device-below (has_bit words) d 1 most_devices (omega (arith, zero)))
    (λ above. has_device-above (has_bit words) d 1 most_devices (omega (arith, above.1, most_devices-is)))
    c.then-device-eq0.either in
    rw c.self.view_is at (sym out)

pub returns : goal.returns
returns c =
    let words = c.self.inside.words in
    let d = c.args.device.0 in
    let within = has_device-within (has_bit words) d 1 most_devices (omega arith) (omega (arith, most_devices-is)) in
    rw (c.place-word.ensures.word, c.place-word.ensures.bit, shr_and_one, ← c.self.view_is) (sym within)
