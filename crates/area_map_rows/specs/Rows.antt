-- Areas in rows, one row behind the other.
use Rattle.std.specs.Prelude.{ℕ, suc, zero, ◌+◌, ◌-◌, ◌<◌, ◌≤◌, ◌≡◌, Bool, true, false}
use Rattle.std.specs.Prelude.{nat_le, max}
use Rattle.std.specs.Prelude.{Option, Some, None, List, [], ◌∷◌, ◌++◌, length}
use Rattle.std.specs.Prelude.{take, drop, if◌then◌else◌}
use Rattle.std.specs.List.{list_any}
use Rattle.std.specs.Option.{option_or}
use Rattle.iofd_words.specs.Bounds.{Bounds}
use Rattle.iofd_words.specs.Span.{lies_in}
use Rattle.iofd_words.specs.declared.rows.Area.{Area}
use Rattle.iofd_words.specs.declared.rows.Phase.{Phase}
use Rattle.iofd_words.specs.declared.rows.Phase.TheVariants.{Live, Leaving}
use Rattle.area_map_rows.specs.declared.marking.Change.{Change}
use Rattle.area_map_rows.specs.declared.marking.Change.TheVariants.{Leave, Pay, SetTries}

-- the areas of all rows
abbrev pub in_rows : List (List Area) → List Area
in_rows [] = []
in_rows (row ∷ rows) = row ++ in_rows rows

-- each row has areas, and place for one more
abbrev pub AreRows : List (List Area) → Type 0
AreRows [] = Unit {0}
AreRows (row ∷ rows) = (0 < length row) × (length row < 32) × AreRows rows

-- where the first area begins; the highest address where there is none
abbrev pub first_of : List Area → ℕ
first_of [] = 18446744073709551615
first_of (area ∷ areas) = area.span.first

-- where the last area ends
abbrev pub end_of : List Area → ℕ
end_of [] = 0
end_of (area ∷ []) = area.span.last
end_of (area ∷ next ∷ areas) = end_of (next ∷ areas)

-- how many free addresses the widest gap has behind an area that ends there and between the others
abbrev pub widest_behind : ℕ → List Area → ℕ
widest_behind last [] = 0
widest_behind last (area ∷ areas) = max (area.span.first - last - 1) (widest_behind area.span.last areas)

-- how many the widest gap between two neighbours has
abbrev pub widest_of : List Area → ℕ
widest_of [] = 0
widest_of (area ∷ areas) = widest_behind area.span.last areas

-- how many free addresses lie before the area at this place, behind one that ends there and the others before it; more
-- than any gap has where no area stands at the place
abbrev pub gap_behind : ℕ → ℕ → List Area → ℕ
gap_behind last place [] = 18446744073709551615
gap_behind last zero (area ∷ areas) = area.span.first - last - 1
gap_behind last (suc place) (area ∷ areas) = gap_behind area.span.last place areas

-- how many free addresses lie between the area at this place and the one before it; more than any gap has where there
-- is none on a side
abbrev pub gap_at : ℕ → List Area → ℕ
gap_at place [] = 18446744073709551615
gap_at zero (area ∷ areas) = 18446744073709551615
gap_at (suc place) (area ∷ areas) = gap_behind area.span.last place areas

-- some side by side from this place on are gone
pub record IsCutAt (place : ℕ) (old new : List Area) : Type 0 where
  pub to : ℕ
  pub order : place ≤ to
  pub rest : new ≡ take place old ++ drop to old

-- no area begins below this number
abbrev pub starts_from : ℕ → List Area → Bool
starts_from low [] = true
starts_from low (area ∷ areas) = nat_le low area.span.first

-- the least place from which so many addresses lie before the first area, between two, or behind the last
abbrev pub first_free : ℕ → ℕ → List Area → ℕ
first_free at count [] = at
first_free at count (area ∷ areas) =
    if nat_le (at + count) area.span.first then at else first_free (max at (area.span.last + 1)) count areas

-- those before the first that ends above this number, if there is one
abbrev pub up_to : Option ℕ → List Area → List Area
up_to None areas = areas
up_to (Some last) [] = []
up_to (Some last) (area ∷ areas) = if nat_le area.span.last last then area ∷ up_to (Some last) areas else []

-- an UNMAP was called
abbrev pub is_leaving : Phase → Bool
is_leaving Live = false
is_leaving (Leaving owed tries) = true

abbrev pub leaves : Area → Bool
leaves area = is_leaving area.phase

-- an UNMAP was called of one of them
abbrev pub has_leaving : List Area → Bool
has_leaving areas = list_any leaves areas

-- the last of them of which an UNMAP was called
abbrev pub last_leaving : List Area → Option Area
last_leaving [] = None
last_leaving (area ∷ areas) = option_or (last_leaving areas) (if leaves area then Some area else None)

-- the change makes live areas leaving; each other is of areas that are leaving
abbrev pub reaches_live : Change → Bool
reaches_live (Leave owed) = true
reaches_live (Pay device) = false
reaches_live (SetTries tries) = false

-- the area isn't leaving, or it lies in the span, if there is one
abbrev pub LeavesIn : Option Bounds → Area → Type 0
LeavesIn None area = is_leaving area.phase ≡ false
LeavesIn (Some span) area = is_leaving area.phase ≡ true → lies_in area.span span ≡ true

-- each leaving area lies in the span; without a span none is leaving
abbrev pub LeaveIn : Option Bounds → List Area → Type 0
LeaveIn span [] = Unit {0}
LeaveIn span (area ∷ areas) = LeavesIn span area × LeaveIn span areas

-- the areas that are changed lie in the span
abbrev pub ChangesIn : Change → Bounds → List Area → Type 0
ChangesIn (Leave owed) span areas = Unit {0}
ChangesIn (Pay device) span areas = LeaveIn (Some span) areas
ChangesIn (SetTries tries) span areas = Unit {0}
