-- Ranges by rising address.
use Rattle.std.specs.Prelude.{Bool, true, ◌&&◌, nat_lt, List, [], ◌∷◌}
use Rattle.iofd_words.specs.Bounds.{Bounds}

-- the range ends below the first of the others
abbrev pub ends_below : Bounds → List Bounds → Bool
ends_below range [] = true
ends_below range (next ∷ others) = nat_lt range.last next.first

-- each begins below its last address, and ends below the next one
abbrev pub are_rising : List Bounds → Bool
are_rising [] = true
are_rising (range ∷ ranges) = nat_lt range.first range.last && ends_below range ranges && are_rising ranges
