-- Whether a length of addresses fits, by computing. The lists may stand in any order, and their spans may overlap.
use Rattle.std.specs.Prelude.{ℕ, ◌+◌, ◌%◌, ◌≤◌, Bool, ◌==◌, ◌&&◌, ◌||◌, not, nat_lt, List}
use Rattle.std.specs.Prelude.{[], ◌∷◌, ◌++◌, map}
use Rattle.std.specs.List.{list_all, list_any}
use Rattle.iofd_words.specs.Bounds.{Bounds}
use Rattle.iofd_words.specs.Span.{holds, span_from}
use Rattle.iofd_words.specs.Ranges.{in_spans, meets_some}
use Rattle.iofd_words.specs.Fits.{whole_from}

-- no span ends before it begins
abbrev pub AreOrdered : List Bounds → Type 0
AreOrdered [] = Unit {0}
AreOrdered (span ∷ spans) = (span.first ≤ span.last) × AreOrdered spans

-- the first number is in the set, and for each span of the set that ends inside, so is the number behind its end
abbrev pub is_covered_by : List Bounds → Bounds → Bool
is_covered_by spans span =
    in_spans spans span.first
    && list_all (λ one. not (holds span (one.last + 1)) || in_spans spans (one.last + 1)) spans

-- this many addresses fit from the start on
abbrev pub fits : ℕ → List Bounds → List Bounds → ℕ → Bool
fits length spans areas start =
    (start % 4096 == 0)
    && nat_lt 0 length
    && is_covered_by spans (span_from start length)
    && not (meets_some areas (span_from start length))

-- where a fit may have nothing before it: at the beginning of a span, or behind an area
abbrev pub starts_to_try : List Bounds → List Bounds → List ℕ
starts_to_try spans areas =
    map (λ span. whole_from span.first) spans ++ map (λ area. whole_from (area.last + 1)) areas

-- this many addresses fit somewhere
abbrev pub has_fit : ℕ → List Bounds → List Bounds → Bool
has_fit length spans areas = list_any (fits length spans areas) (starts_to_try spans areas)
