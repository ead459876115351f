-- Pages of a span that lie in areas.
use Rattle.std.specs.Prelude.{◌≡◌, ◌≤◌, ◌<◌, ℕ, ◌+◌, ◌*◌, Bool, true, false, Option, Some, None}
use Rattle.iofd_words.specs.Span.{lies_in, span_from}
use Rattle.iofd_words.specs.declared.rows.Area.{Area}

-- the page of this index from the first address on lies in the area
abbrev pub is_page_in : ℕ → ℕ → Area → Bool
is_page_in first index area = lies_in (span_from (first + 4096 * index) 4096) area.span

-- the number fails the test; or it passes it, and all up to the next one that is told do
abbrev pub Reaches : (ℕ → Bool) → ℕ → Option ℕ → Type 0
Reaches passes index None = passes index ≡ false
Reaches passes index (Some next) = (index < next) × ((n : ℕ) → index ≤ n → n < next → passes n ≡ true)
