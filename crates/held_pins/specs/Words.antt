-- Keys as words for a hasher.
use Rattle.std.specs.Prelude.{ℕ, ◌+◌, ◌*◌, ◌^◌, ◌%◌, Bool, if◌then◌else◌}

-- a file, and whether for writes too
abbrev pub tag : ℕ → Bool → ℕ
tag file write = file * 2 + (if write then 1 else 0)

-- two numbers of 32 bits side by side
abbrev pub object_word : ℕ → ℕ → ℕ
object_word high low = high * 2 ^ 32 + low

-- a page's number, and the tag in the highest 17 of 64 bits
abbrev pub page_word : ℕ → ℕ → Bool → ℕ
page_word page file write = (page + tag file write * 2 ^ 47) % 2 ^ 64

-- two numbers of 64 bits side by side
abbrev pub pair_word : ℕ → ℕ → ℕ
pair_word low high = high * 2 ^ 64 + low
