-- What spans hold, and how they meet.
use Rattle.std.specs.Prelude.{ℕ, ◌+◌, ◌-◌, ◌%◌, Bool, ◌==◌, ◌&&◌, nat_le}
use Rattle.iofd_words.specs.Bounds.{Bounds}

-- the number is one of them
abbrev pub holds : Bounds → ℕ → Bool
holds span n = nat_le span.first n && nat_le n span.last

-- the two have a number in common
abbrev pub meets : Bounds → Bounds → Bool
meets a b = nat_le a.first b.last && nat_le b.first a.last

-- each number of the first is one of the second
abbrev pub lies_in : Bounds → Bounds → Bool
lies_in inner outer = nat_le outer.first inner.first && nat_le inner.last outer.last

-- it begins and ends at a page's border
abbrev pub is_whole_pages : Bounds → Bool
is_whole_pages span = (span.first % 4096 == 0) && (span.last % 4096 == 4095)

-- the span of this many numbers from the first on
abbrev pub span_from : ℕ → ℕ → Bounds
span_from first length = record { first = first; last = first + length - 1 }

-- how many numbers it holds
abbrev pub size_of : Bounds → ℕ
size_of span = span.last + 1 - span.first
