-- How the numbers of a span are taken out, which no public clause names: what it means is said of numbers.
use Rattle.std.specs.Prelude.{ℕ, ◌+◌, ◌-◌, ◌<◌, ◌≤◌, Bool, true, false, nat_lt, length}
use Rattle.std.specs.Prelude.{slice_index_or, List, [], ◌∷◌}
use Rattle.std.specs.Prelude.{min, max, if◌then◌else◌}
use Rattle.iofd_words.specs.Bounds.{Bounds}
use Rattle.iofd_words.specs.Span.{lies_in}

-- what is left of a span that isn't cut in two; one that lies in the cut stays as it is
abbrev pub trimmed : Bounds → Bounds → Bounds
trimmed cut span =
    if lies_in span cut then span
    else (if nat_lt span.first cut.first then record { first = span.first; last = min span.last (cut.first - 1) }
    else record { first = max span.first (cut.last + 1); last = span.last })

-- the two parts of a span that goes on below the cut and above it
abbrev pub halves : Bounds → Bounds → List Bounds
halves cut span =
    record { first = span.first; last = cut.first - 1 } ∷ record { first = cut.last + 1; last = span.last } ∷ []

-- whether a span stands at the place that goes on below the cut and above it
abbrev pub HasAround : Bool → List Bounds → ℕ → Bounds → Type 0
HasAround true spans place cut =
    (place < length spans)
    × ((slice_index_or spans place cut).first < cut.first)
    × (cut.last < (slice_index_or spans place cut).last)
HasAround false spans place cut =
    place < length spans
    → (slice_index_or spans place cut).first < cut.first
    → (slice_index_or spans place cut).last ≤ cut.last
