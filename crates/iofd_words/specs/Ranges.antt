-- Sets of numbers, told by spans.
use Rattle.std.specs.Prelude.{ℕ, ◌+◌, ◌≤◌, Bool, List, [], ◌∷◌}
use Rattle.std.specs.List.{list_any}
use Rattle.iofd_words.specs.Bounds.{Bounds}
use Rattle.iofd_words.specs.Span.{holds, meets}

-- the number is in the set: some span holds it
abbrev pub in_spans : List Bounds → ℕ → Bool
in_spans spans n = list_any (λ span. holds span n) spans

-- some span has a number in common with this one
abbrev pub meets_some : List Bounds → Bounds → Bool
meets_some spans span = list_any (λ one. meets one span) spans

-- no span begins below this number, and between each span and the next one a number is left out
abbrev pub AreMergedFrom : ℕ → List Bounds → Type 0
AreMergedFrom low [] = Unit {0}
AreMergedFrom low (span ∷ spans) =
    (low ≤ span.first) × (span.first ≤ span.last) × AreMergedFrom (span.last + 2) spans

-- by rising start, and no two overlap or adjoin
abbrev pub AreMerged : List Bounds → Type 0
AreMerged spans = AreMergedFrom 0 spans
