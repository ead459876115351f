use Rattle.std.proofs.Common.{◌≡◌, take}
use Rattle.iofd_words.proofs.config.copied_devices.Given as goal

-- a copy of each device so far
abbrev pub invariant-loop-device : goal.invariant-loop-device
invariant-loop-device g l = l.copies.items ≡ take l.device-index l.devices
