-- The ranges to which the addresses of an address space are bounded.
use Rattle.std.specs.Prelude.{ℕ, ◌^◌, Bool, ◌||◌, ◌==◌, nat_lt, List, [], ◌∷◌, length}
use Rattle.iofd_words.specs.Bounds.{Bounds}
use Rattle.iova_ranges.specs.Ranges.{AllIn, lies_in_one}
use Rattle.iofd_words.specs.Ranges.{in_spans}

-- with no range each span is allowed, and else one of which each number lies in a range
abbrev pub IsAllowed : List Bounds → Bounds → Type 0
IsAllowed [] span = Unit {0}
IsAllowed (range ∷ ranges) span = AllIn (range ∷ ranges) span

-- the test of it, for ranges of which no two overlap or adjoin
abbrev pub is_allowed : List Bounds → Bounds → Bool
is_allowed ranges span = (length ranges == 0) || lies_in_one ranges span

-- the number is allowed; numbers are below 2^64
abbrev pub is_allowed_number : List Bounds → ℕ → Bool
is_allowed_number [] n = nat_lt n (2 ^ 64)
is_allowed_number (range ∷ ranges) n = in_spans (range ∷ ranges) n
