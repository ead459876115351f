-- A device's turns: the events before which it has to forget the translations that it keeps. Whoever keeps them for a
-- device tells by their number whether another caller made one.
use Rattle.std.specs.Prelude.{ℕ, Bool, false, ◌==◌, List}
use Rattle.std.specs.List.{count_by}
use Rattle.iofd_words.specs.Record.{Record}
use Rattle.iofd_words.specs.declared.event.Event.{Event}
use Rattle.iofd_words.specs.declared.event.Event.TheVariants as event
use Rattle.iofd_words.specs.declared.numbers.DeviceNo.{DeviceNo}

-- the device is attached, detached or flushed
abbrev pub is_turn_of : {A : Type 0} → DeviceNo → Event A → Bool
is_turn_of device (event.Attach other pt_id) = other.0 == device.0
is_turn_of device (event.Detach other) = other.0 == device.0
is_turn_of device (event.Flush other) = other.0 == device.0
is_turn_of device e = false

-- how many of the records are turns of the device, those that were refused too
abbrev pub turns_of : {A : Type 0} → DeviceNo → List (Record A) → ℕ
turns_of device records = count_by (λ r. is_turn_of device r.event) records
