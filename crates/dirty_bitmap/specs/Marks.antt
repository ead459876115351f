-- Marked pages, as they are kept: a bit a page, 64 in each word.
use Rattle.std.specs.Prelude.{ℕ, ◌/◌, ◌%◌, Bool, ◌==◌, eqb, List}
use Rattle.std.specs.Int.{bit_at}
use Rattle.std.specs.Map.{lookup}
use Rattle.std.specs.Option.{unwrap_or}

-- words, each with its number
abbrev pub Words : Type 0
Words = List (ℕ × ℕ)

-- the word of this number; one that isn't there has no bit
abbrev pub word_at : Words → ℕ → ℕ
word_at words number = unwrap_or (lookup (eqb number) words) 0

-- bit k of the word is set
abbrev pub has_bit : ℕ → ℕ → Bool
has_bit word k = bit_at word k == 1

-- the page is marked: page p has bit p % 64 of word p / 64
abbrev pub is_marked : Words → ℕ → Bool
is_marked words page = has_bit (word_at words (page / 64)) (page % 64)
