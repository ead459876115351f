-- How many turns each device has had, kept by its number beside the records: the nth count is device n's, from 1 on.
use Rattle.std.specs.Prelude.{◌≡◌, ℕ, ◌+◌, ◌<◌, ◌^◌, Option, Some, List, if◌then◌else◌}
use Rattle.std.specs.Option.{option_map}
use Rattle.iofd_words.specs.Files.{device_of, numbered}
use Rattle.iofd_words.specs.Record.{Record}
use Rattle.iofd_words.specs.Settings.{Settings}
use Rattle.iofd_words.specs.Turns.{is_turn_of, turns_of}
use Rattle.iofd_words.specs.declared.event.Event.{Event}
use Rattle.iofd_words.specs.declared.numbers.DeviceNo.{DeviceNo}

-- the count that is kept for a device
abbrev pub count_for : List ℕ → DeviceNo → Option ℕ
count_for counts device = numbered counts device.0

module _ {A : Type 0} where
  -- one is kept for each device that is there, and no other: how many of the records are its turns
  abbrev pub AreTurns : List ℕ → Settings → List (Record A) → Type 0
  AreTurns counts settings records =
      (device : DeviceNo) →
      count_for counts device ≡ option_map (λ there. turns_of device records) (device_of settings device)

  -- one more where the event is the device's turn
  abbrev pub counted_with : Event A → DeviceNo → ℕ → ℕ
  counted_with e device count = if is_turn_of device e then count + 1 else count

-- each can be counted further
abbrev pub HaveRoom : List ℕ → Type 0
HaveRoom counts = (device : DeviceNo) (count : ℕ) → count_for counts device ≡ Some count → count + 1 < 2 ^ 64
