-- Addresses from which on so many bytes may lie, one after the other.
use Rattle.std.specs.Prelude.{ℕ, Bool, false, ◌&&◌, not, nat_le, Option, Some, None, List, if◌then◌else◌}
use Rattle.iofd_words.specs.Bounds.{Bounds}
use Rattle.iofd_words.specs.Pages.{is_above_sum}
use Rattle.iofd_words.specs.Room.{fits}

-- so many bytes may lie from the address on: in the ranges, beside what is taken
abbrev pub may_lie : ℕ → List Bounds → List Bounds → ℕ → Bool
may_lie bytes choices taken start = not (is_above_sum start bytes) && fits bytes choices taken start

-- the number, if it passes the test
abbrev pub passing : (ℕ → Bool) → ℕ → Option ℕ
passing passes n = if passes n then Some n else None

-- one is found, at the number or before it
abbrev pub is_found_by : Option ℕ → ℕ → Bool
is_found_by None n = false
is_found_by (Some found) n = nat_le found n
