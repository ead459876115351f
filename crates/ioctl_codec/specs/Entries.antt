-- The entries that follow a structure: ranges of addresses, each a `__u64 start` and a `__u64 last`, which is included
-- (uapi header, `struct iommu_iova_range`), one behind the other.
use Rattle.std.specs.Prelude.{ℕ, zero, suc, ◌^◌, ◌<◌, List, [], ◌∷◌, ◌++◌, take, drop}
use Rattle.std.specs.Int.{w64, from_le_bytes, to_le_bytes}
use Rattle.iofd_words.specs.Bounds.{Bounds}

unfoldable pub entry_bytes : Bounds → List ℕ
entry_bytes range = to_le_bytes w64 range.first ++ to_le_bytes w64 range.last

abbrev pub entries_bytes : List Bounds → List ℕ
entries_bytes [] = []
entries_bytes (range ∷ ranges) = entry_bytes range ++ entries_bytes ranges

-- both numbers of each fit their fields, as those of every range that a program has
abbrev pub AreAddresses : List Bounds → Type 0
AreAddresses [] = Unit {0}
AreAddresses (range ∷ ranges) = ((range.first < 2 ^ 64) × (range.last < 2 ^ 64)) × AreAddresses ranges

-- the entry that the bytes begin with, the bytes being long enough
unfoldable pub entry_at : List ℕ → Bounds
entry_at bytes = record { first = from_le_bytes w64 (take 8 bytes); last = from_le_bytes w64 (take 8 (drop 8 bytes)) }

-- as many of them
abbrev pub entries_at : ℕ → List ℕ → List Bounds
entries_at zero bytes = []
entries_at (suc count) bytes = entry_at bytes ∷ entries_at count (drop 16 bytes)
