use Rattle.std.proofs.Common.{◌≡◌, ℕ, ◌-◌, ◌<◌, false, get_or}
use Rattle.std.specs.Slots.{slots_filled, slots_len}
use Rattle.std.specs.Slots.Ownership.{Filled}
use Rattle.lane_lock.proofs.lock.LaneLock.finish.Given as goal

abbrev pub invariant-loop-slot : goal.invariant-loop-slot
invariant-loop-slot g l = Filled (slots_filled l.closed.slots) l.slot (slots_len l.closed.slots)
    × ((k : ℕ) → k < l.slot → get_or (slots_filled l.closed.slots) k false ≡ false)

abbrev pub decreases-loop-slot : goal.decreases-loop-slot
decreases-loop-slot g l = slots_len l.closed.slots - l.slot
