-- The spans that devices keep for themselves.
use Rattle.std.specs.Prelude.{ℕ, Bool, ◌==◌, not, List, map, filter}
use Rattle.std.specs.List.{list_any}
use Rattle.iofd_words.specs.Bounds.{Bounds}
use Rattle.iofd_words.specs.Span.{holds, meets}
use Rattle.iofd_words.specs.declared.numbers.DeviceNo.{DeviceNo}
use Rattle.iova_ranges.specs.declared.reserved.ReservedSpan.{ReservedSpan}

-- the reserved spans in the order in which they came, and for how many more there is memory
pub record ReservedTable : Type 0 where
  pub rows : List ReservedSpan
  pub room : ℕ

-- the spans, as rows of this device
abbrev pub rows_of : DeviceNo → List Bounds → List ReservedSpan
rows_of owner spans = map (λ span. record { owner = owner; span = span }) spans

-- the rows of all other devices
abbrev pub without_owner : DeviceNo → List ReservedSpan → List ReservedSpan
without_owner owner rows = filter (λ row. not (row.owner.0 == owner.0)) rows

-- the number lies in a reserved span
abbrev pub is_reserved : List ReservedSpan → ℕ → Bool
is_reserved rows n = list_any (λ row. holds row.span n) rows

-- some number of the span does
abbrev pub meets_reserved : List ReservedSpan → Bounds → Bool
meets_reserved rows span = list_any (λ row. meets row.span span) rows
