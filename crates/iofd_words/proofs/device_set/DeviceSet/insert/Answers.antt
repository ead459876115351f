use Rattle.std.proofs.Common.{arith, sym}
use Rattle.iofd_words.specs.DeviceSet.{has_bit, most_devices}
use Rattle.iofd_words.proofs.Members.{with_device-filter, most_devices-is}
use Rattle.iofd_words.proofs.Bits.{has_bit-set, has_bit-set_other}
use Rattle.iofd_words.proofs.device_set.DeviceSet.insert.Goals as goal

pub returns : goal.returns
returns c =
    let words = c.self.inside.words in
    let d = c.args.device.0 in
    let room = c.self.invariant in
    let one_more = with_device-filter (has_bit words) _ d 1 most_devices (omega arith) (omega (arith, most_devices-is))
    (has_bit-set words d room c.requires.from c.requires.to)
    (λ e some differ. has_bit-set_other words d room c.requires.from c.requires.to e some differ) in
    rw (c.place-word.ensures.word, c.place-word.ensures.bit, ← c.self.view_is) (sym one_more)
