-- How a span is added, which no public clause names: what it means is said of numbers.
use Rattle.std.specs.Prelude.{ℕ, ◌+◌, Bool, nat_lt, List, [], ◌∷◌, min, max, if◌then◌else◌}
use Rattle.iofd_words.specs.Bounds.{Bounds}

-- the span ends below the number, and at least one number stands between them
abbrev pub is_clear_below : ℕ → Bounds → Bool
is_clear_below n span = nat_lt (span.last + 1) n

-- from the lesser beginning to the greater end
abbrev pub joined : Bounds → Bounds → Bounds
joined a b = record { first = min a.first b.first; last = max a.last b.last }

-- the span, joined with those in front that it reaches, before the others
abbrev pub joined_on : Bounds → List Bounds → List Bounds
joined_on span [] = span ∷ []
joined_on span (next ∷ spans) =
    if nat_lt (span.last + 1) next.first then span ∷ next ∷ spans else joined_on (joined span next) spans
