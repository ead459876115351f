-- The pages that accesses pin, and how many pins stand on each.
use Rattle.std.specs.Prelude.{ℕ, Bool, ◌==◌, ◌&&◌, nat_lt, nat_le, ◌+◌, Option, Some, None, List, [], ◌∷◌}
use Rattle.std.specs.FinMap.{put}
use Rattle.std.specs.List.{list_all}
use Rattle.std.specs.Map.{lookup}
use Rattle.std.specs.Ordering.{nat_cmp}
use Rattle.iofd_words.specs.declared.numbers.FrameNo.{FrameNo}
use Rattle.pinned_pages.specs.declared.access_pins.AccessPin.{AccessPin}

-- the pages on which a pin by an access stands, by rising index: each page's frame, and how many pins stand on it
abbrev pub AccessRows : Type 0
AccessRows = List (ℕ × AccessPin)

-- what is seen of a map of them: the rows, and for how many more there is room
pub record AccessMap : Type 0 where
  pub rows : AccessRows
  pub room : ℕ

-- what is seen of a map that is there; of none no rows, and no room
abbrev pub kept_map : {X : Type 0} → (X → AccessMap) → Option X → AccessMap
kept_map seen None = record { rows = []; room = 0 }
kept_map seen (Some map) = seen map

-- the rows of a map by rising index, in whatever order the map has them
abbrev pub rising_rows : List (ℕ × AccessPin) → AccessRows
rising_rows [] = []
rising_rows (entry ∷ entries) = put nat_cmp entry.0 entry.1 (rising_rows entries)

-- the row of a page
abbrev pub row_at : AccessRows → ℕ → Option AccessPin
row_at rows index = lookup (λ other. index == other) rows

-- its frame, and how many pins by accesses stand on it
abbrev pub frame_in : Option AccessPin → Option FrameNo
frame_in None = None
frame_in (Some pin) = Some pin.frame

abbrev pub pins_in : Option AccessPin → ℕ
pins_in None = 0
pins_in (Some pin) = pin.pins

-- each row is of one of so many pages, and says at least one pin
abbrev pub are_counted : ℕ → AccessRows → Bool
are_counted count rows = list_all (λ row. nat_lt row.0 count && nat_lt 0 row.1.pins) rows

-- the page is one of so many from a first one on
abbrev pub is_in : ℕ → ℕ → ℕ → Bool
is_in first count index = nat_le first index && nat_lt index (first + count)
