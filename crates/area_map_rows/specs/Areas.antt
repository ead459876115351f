-- Lists of areas: which areas a span names, and what a step makes of them.
use Rattle.std.specs.Prelude.{ℕ, ◌+◌, ◌^◌, ◌<◌, ◌≤◌, ◌≡◌, Bool, true, false, ◌==◌}
use Rattle.std.specs.Prelude.{◌&&◌, not, nat_lt, nat_le, Option}
use Rattle.std.specs.Prelude.{Some, None, List, [], ◌∷◌, length, filter, sum_by}
use Rattle.std.specs.Prelude.{find, if◌then◌else◌}
use Rattle.std.specs.List.{list_any}
use Rattle.iofd_words.specs.Areas.{area_at, areas_meet, leaving, most_areas, paid, with_tries}
use Rattle.iofd_words.specs.Bounds.{Bounds}
use Rattle.iofd_words.specs.Sorted.{inserted}
use Rattle.iofd_words.specs.Span.{lies_in, holds, meets, size_of, span_from}
use Rattle.iofd_words.specs.declared.numbers.DeviceNo.{DeviceNo}
use Rattle.iofd_words.specs.declared.rows.Area.{Area}
use Rattle.area_map_rows.specs.declared.marking.Change.{Change}
use Rattle.area_map_rows.specs.declared.marking.Change.TheVariants.{Leave, Pay, SetTries}

-- no area begins below this number, and each ends below the beginning of the next one
abbrev pub AreApartFrom : ℕ → List Area → Type 0
AreApartFrom low [] = Unit {0}
AreApartFrom low (area ∷ areas) =
    (low ≤ area.span.first) × (area.span.first ≤ area.span.last) × AreApartFrom (area.span.last + 1) areas

-- by rising start, and no two overlap
abbrev pub AreApart : List Area → Type 0
AreApart areas = AreApartFrom 0 areas

-- the areas of an address space, as they are kept
pub record AreKept (areas : List Area) : Type 0 where
  pub apart : AreApart areas
  pub few : length areas ≤ most_areas

-- the areas with this one, before the first that begins after it
abbrev pub with_area : Area → List Area → List Area
with_area = inserted (λ (area : Area) (next : Area). nat_lt area.span.first next.span.first)

-- there is an area, and it ends after the address
abbrev pub ends_after : ℕ → Option Area → Bool
ends_after address None = false
ends_after address (Some area) = nat_lt address area.span.last

-- the two begin and end alike
abbrev pub is_same : Bounds → Bounds → Bool
is_same a b = (a.first == b.first) && (a.last == b.last)

-- the area of exactly this span
abbrev pub area_of : Bounds → List Area → Option Area
area_of span areas = find (λ area. is_same area.span span) areas

-- each number of the span lies in some area
abbrev pub IsCovered : Bounds → List Area → Type 0
IsCovered span areas =
    (n : ℕ) → span.first ≤ n → n ≤ span.last → list_any (λ area. holds area.span n) areas ≡ true

-- some number of the span lies in no area
pub record HasGap (span : Bounds) (areas : List Area) : Type 0 where
  pub number : ℕ
  pub from : span.first ≤ number
  pub to : number ≤ span.last
  pub free : area_at number areas ≡ None

-- the areas, from the first on, hold the addresses from the one to the other without a gap
abbrev pub runs_on : ℕ → ℕ → List Area → Bool
runs_on next last [] = false
runs_on next last (area ∷ areas) =
    if nat_lt next area.span.first then false
    else (if nat_le last area.span.last then true else runs_on (area.span.last + 1) last areas)

-- the areas that end in the span or behind it hold the span's addresses without a gap
abbrev pub is_covered : Bounds → List Area → Bool
is_covered span areas = runs_on span.first span.last (filter (λ area. nat_le span.first area.span.last) areas)

-- from each of these addresses on so many meet an area
abbrev pub HasNoneFree : ℕ → ℕ → List Area → Type 0
HasNoneFree start count areas =
    (x : ℕ) → start ≤ x → x + count ≤ 2 ^ 64 → areas_meet (span_from x count) areas ≡ true

-- the least address from which so many meet no area
pub record IsFirstFree (start count : ℕ) (areas : List Area) (at : ℕ) : Type 0 where
  pub from : start ≤ at
  pub within : at + count ≤ 2 ^ 64
  pub free : areas_meet (span_from at count) areas ≡ false
  pub least : (x : ℕ) → start ≤ x → x < at → areas_meet (span_from x count) areas ≡ true

-- the areas that lie in the span
abbrev pub areas_within : Bounds → List Area → List Area
areas_within span areas = filter (λ area. lies_in area.span span) areas

-- the others
abbrev pub areas_outside : Bounds → List Area → List Area
areas_outside span areas = filter (λ area. not (lies_in area.span span)) areas

-- the areas that meet the span
abbrev pub areas_meeting : Bounds → List Area → List Area
areas_meeting span areas = filter (λ area. meets area.span span) areas

-- where the area ends that holds the address, among areas by rising start; the address itself where none does
abbrev pub end_from : ℕ → List Area → ℕ
end_from address [] = address
end_from address (area ∷ areas) =
    if nat_le address area.span.last
    then (if nat_le area.span.first address then area.span.last else address)
    else end_from address areas

-- how many addresses they have together
abbrev pub bytes_of : List Area → ℕ
bytes_of areas = sum_by (λ area. size_of area.span) areas

-- the area, leaving with this debt if it is live and lies in the span
abbrev pub marked : Bounds → List ℕ → Area → Area
marked span owed area = record area { phase = if lies_in area.span span then leaving owed area.phase else area.phase }

-- the area without the device's debt
abbrev pub without_debt : DeviceNo → Area → Area
without_debt device area = record area { phase = paid device area.phase }

-- the area with so many tries, if it is leaving and lies in the span
abbrev pub tried : Bounds → ℕ → Area → Area
tried span tries area =
    record area { phase = if lies_in area.span span then with_tries tries area.phase else area.phase }

-- the area after a change of a span's areas
abbrev pub changed : Change → Bounds → Area → Area
changed (Leave owed) span area = marked span owed area
changed (Pay device) span area = without_debt device area
changed (SetTries tries) span area = tried span tries area
