-- The levels of second-stage tables (VT-d, "Second-Stage Translation"). The entries of level 1 are pages, those of a
-- level above it tables of the level below.
use Rattle.std.specs.Prelude.{ℕ, ◌+◌, ◌-◌, ◌*◌, ◌/◌, ◌%◌, ◌^◌}
use Rattle.iofd_words.specs.Width.{bits_of}
use Rattle.iofd_words.specs.declared.width.Width.{Width}

-- how many levels the tables of a width have: each takes 9 bits of an address, above the 12 of a page's offset
abbrev pub levels_of : Width → ℕ
levels_of width = (bits_of width - 12) / 9

-- which of a level's tables a page goes through, counted from 0 by rising address
unfoldable pub number_at : ℕ → ℕ → ℕ
number_at level page = page / 2 ^ (9 * level)

-- the entry of that table through which it goes
abbrev pub index_at : ℕ → ℕ → ℕ
index_at level page = number_at (level - 1) page % 512

-- the first address that goes through that table
abbrev pub first_address : ℕ → ℕ → ℕ
first_address level page = number_at level page * 2 ^ (9 * level + 12)
