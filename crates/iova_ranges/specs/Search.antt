-- The steps of the search for a fit, which no public clause names.
use Rattle.std.specs.Prelude.{ℕ, ◌+◌, max, nat_lt, nat_le, Option, Some, None, List}
use Rattle.std.specs.Prelude.{[], ◌∷◌, if◌then◌else◌}
use Rattle.iofd_words.specs.Bounds.{Bounds}
use Rattle.iofd_words.specs.Fits.{whole_from}

-- where in a span this many numbers fit first, from the number on, if they do
abbrev pub room_in : Bounds → ℕ → ℕ → Option ℕ
room_in span from length =
    if nat_le (whole_from (max from span.first) + length) (span.last + 1)
    then Some (whole_from (max from span.first))
    else None

-- the first of the areas, if there is one and it begins below the number
abbrev pub first_below : ℕ → List Bounds → Option Bounds
first_below n [] = None
first_below n (area ∷ areas) = if nat_lt area.first n then Some area else None
