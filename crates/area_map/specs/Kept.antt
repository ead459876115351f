-- How the areas of an address space are kept in rows.
use Rattle.std.specs.Prelude.{ℕ, suc, ◌+◌, ◌<◌, ◌≡◌, Bool, ◌||◌, get_or, nat_le, min, max, fold}
use Rattle.std.specs.Prelude.{Option, Some, None, IfSome, List, [], ◌∷◌, length, take, drop, if◌then◌else◌}
use Rattle.iofd_words.specs.Bounds.{Bounds}
use Rattle.iofd_words.specs.declared.rows.Area.{Area}
use Rattle.area_map_rows.specs.Areas.{AreApart, AreKept, areas_outside}
use Rattle.area_map_rows.specs.Rows.{in_rows, is_leaving, AreRows}

-- for how many more areas there is memory, whichever row they go to
abbrev pub room_of : Option (List Area) → ℕ
room_of None = 0
room_of (Some row) = 1

-- a spare row has no areas, and there is place for it among the others
abbrev pub IsSpare : Option (List Area) → ℕ → ℕ → Type 0
IsSpare spare count capacity = IfSome spare (λ row. (row ≡ []) × (count < capacity))

-- the least span that holds both
abbrev pub joined : Option Bounds → Bounds → Option Bounds
joined None span = Some span
joined (Some hull) span = Some (record { first = min hull.first span.first; last = max hull.last span.last })

-- the least span that holds the areas of one and this area, if it is leaving
abbrev pub with_leaving : Option Bounds → Area → Option Bounds
with_leaving hull area = if is_leaving area.phase then joined hull area.span else hull

-- the least span that holds all leaving ones of these areas; none where none is leaving
abbrev pub leaving_span : List Area → Option Bounds
leaving_span areas = fold with_leaving None areas

-- these are left of areas that lie apart, of which the leaving ones lie in the hull and in no lesser span: those that
-- lie in another span are gone
pub record IsLeft (hull : Option Bounds) (gone : Bounds) (left : List Area) : Type 0 where
  pub before : List Area
  pub apart : AreApart before
  pub hull_is : hull ≡ leaving_span before
  pub left_is : left ≡ areas_outside gone before

-- a row and the one behind it, if there is one, together have more areas than half a row
abbrev pub FillsHalf : List Area → List (List Area) → Type 0
FillsHalf row [] = Unit {0}
FillsHalf row (next ∷ rows) = 16 < length row + length next

-- so does each with the one behind it
abbrev pub AreJoined : List (List Area) → Type 0
AreJoined [] = Unit {0}
AreJoined (row ∷ rows) = FillsHalf row rows × AreJoined rows

-- so do those up to the one and those from the other on
pub record AreJoinedBut (from to : ℕ) (rows : List (List Area)) : Type 0 where
  pub front : AreJoined (take (suc from) rows)
  pub back : AreJoined (drop to rows)

-- the rows from this one on are the last ones of others
pub record EndsAlike (from : ℕ) (old new : List (List Area)) : Type 0 where
  pub place : ℕ
  pub rest : drop from new ≡ drop place old

-- the areas of an address space, as their rows are kept
pub record AreInRows (rows : List (List Area)) (count : ℕ) (leaving : Option Bounds) : Type 0 where
  pub kept : AreKept (in_rows rows)
  pub each : AreRows rows
  pub counted : count ≡ length (in_rows rows)
  pub joined : AreJoined rows
  pub leave : leaving ≡ leaving_span (in_rows rows)

-- one more area in this row takes a row more
abbrev pub takes_row : List (List Area) → ℕ → Bool
takes_row rows index = nat_le 31 (length (get_or rows index [])) || nat_le (length rows) index
