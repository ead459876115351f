-- A set of devices, which contracts see as its members by rising number, and which is kept as 256 bits.
use Rattle.std.specs.Prelude.{ℕ, ◌-◌, ◌/◌, ◌%◌, Bool, ◌==◌, nat_lt, not, List, [], ◌∷◌}
use Rattle.std.specs.Prelude.{filter, slice_index}
use Rattle.std.specs.Prelude.{if◌then◌else◌}
use Rattle.std.specs.List.{list_any, range_with_len}
use Rattle.std.specs.Int.{bit_at}

-- whether the device is one of them
abbrev pub has_device : List ℕ → ℕ → Bool
has_device devices device = list_any (λ d. d == device) devices

-- the devices and this one
abbrev pub with_device : ℕ → List ℕ → List ℕ
with_device device [] = device ∷ []
with_device device (d ∷ ds) =
    if nat_lt device d then device ∷ d ∷ ds else (if device == d then d ∷ ds else d ∷ with_device device ds)

-- the devices but this one
abbrev pub without_device : ℕ → List ℕ → List ℕ
without_device device devices = filter (λ d. not (d == device)) devices

-- device d has bit d - 1, of which 64 stand in each word
abbrev pub has_bit : List ℕ → ℕ → Bool
has_bit words device = bit_at (slice_index words ((device - 1) / 64)) ((device - 1) % 64) == 1

-- devices are numbered from 1 to 256
unfoldable pub most_devices : ℕ
most_devices = 256

-- the devices whose bits are set
abbrev pub members_of : List ℕ → List ℕ
members_of words = filter (has_bit words) (range_with_len 1 most_devices)
