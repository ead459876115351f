-- Sets of numbers, told by spans.
use Rattle.std.specs.Prelude.{ℕ, ◌+◌, ◌≤◌, ◌≡◌, Bool, true, ◌&&◌, nat_le, nat_lt, List}
use Rattle.std.specs.List.{list_any}
use Rattle.iofd_words.specs.Bounds.{Bounds}
use Rattle.iofd_words.specs.Ranges.{in_spans}
use Rattle.iofd_words.specs.Span.{lies_in}

-- each number of the span is in the set
abbrev pub AllIn : List Bounds → Bounds → Type 0
AllIn spans span = (n : ℕ) → span.first ≤ n → n ≤ span.last → in_spans spans n ≡ true

-- the span lies in one of the spans
abbrev pub lies_in_one : List Bounds → Bounds → Bool
lies_in_one spans span = list_any (λ one. lies_in span one) spans

-- the span meets one of the spans, or adjoins it
abbrev pub touches_one : List Bounds → Bounds → Bool
touches_one spans span = list_any (λ one. nat_le one.first (span.last + 1) && nat_le span.first (one.last + 1)) spans

-- one of the spans goes on below the span and above it
abbrev pub splits_one : List Bounds → Bounds → Bool
splits_one spans span = list_any (λ one. nat_lt one.first span.first && nat_lt span.last one.last) spans
