use Rattle.std.proofs.Common.{◌≡◌, drop}
use Rattle.iofd_words.specs.Pins.{pinned_frame}
use Rattle.journal_audit_world.proofs.pins.pinned_frame.Given as goal

abbrev pub invariant-loop-pin : goal.invariant-loop-pin
invariant-loop-pin l =
    pinned_frame (drop l.pin-index l.pins) (record { memory = l.memory; index = l.index })
    ≡ pinned_frame l.pins (record { memory = l.memory; index = l.index })
