-- Rows as they are kept, after a change of their areas.
use Rattle.std.proofs.Common.{◌≡◌, ℕ, ◌+◌, ◌<◌, ◌≤◌, false, not, Option, Some, None, List, [], ◌∷◌, ◌++◌, length, take}
use Rattle.std.proofs.Common.{drop, map, refl, sym, ◌∙◌, arith}
use Rattle.std.proofs.lemmas.List.{length-map}
use Rattle.iofd_words.specs.Bounds.{Bounds}
use Rattle.iofd_words.specs.Span.{lies_in}
use Rattle.iofd_words.specs.declared.numbers.DeviceNo.{DeviceNo}
use Rattle.iofd_words.specs.declared.rows.Area.{Area}
use Rattle.iofd_words.specs.Areas.{areas_meet}
use Rattle.area_map_rows.specs.Areas.{areas_outside, with_area, without_debt}
use Rattle.area_map_rows.specs.Rows.{in_rows, AreRows, LeaveIn}
use Rattle.area_map.specs.Kept.{AreInRows, AreJoined, IsSpare, leaving_span, with_leaving}
use Rattle.area_map_rows.proofs.Added.{with_area-apart, length-with_area}
use Rattle.area_map_rows.proofs.Kept.{kept-map, kept-filter}
use Rattle.area_map_rows.proofs.Rows.{in_rows-map_map, written_back}
use Rattle.area_map_rows.proofs.RowsChanged.{live_paid}
use Rattle.area_map.proofs.Hull.{span_with}
use Rattle.area_map.proofs.Joined.{joined-map}

pub AreRows-map : (f : Area → Area) (rows : List (List Area)) → AreRows rows → AreRows (map (map f) rows)
AreRows-map f [] each = tt
AreRows-map f (row ∷ rows) each =
    let same = length-map row f in
    (omega (arith, same, each.0), omega (arith, same, each.1), AreRows-map f rows each.2)

pub rows_mapped : (f : Area → Area) → ((a : Area) → (f a).span ≡ a.span)
    → (rows : List (List Area)) (count : ℕ) (old new : Option Bounds)
    → AreInRows rows count old → new ≡ leaving_span (map f (in_rows rows)) → AreInRows (map (map f) rows) count new
rows_mapped f same rows count old new kept leave =
    let mapped = in_rows-map_map f rows in
    record {
      kept = rw mapped (kept-map f same (in_rows rows) kept.kept);
      each = AreRows-map f rows kept.each;
      joined = joined-map f rows kept.joined;
      counted = rw mapped (kept.counted ∙ sym (length-map (in_rows rows) f));
      leave = rw mapped leave;
    }

-- the vector of the rows after each was changed in its slice
pub mapped_back : (f : Area → Area) (rows new : List (List Area)) (n : ℕ) → new ≡ map (map f) rows → length rows ≡ n
    → take n (new ++ drop (length new) rows) ≡ map (map f) rows
mapped_back f rows new n same long = written_back rows new (map (map f) rows) n same (length-map rows (map f) ∙ long)

-- with one more area
pub rows_with : (a : Area) (rows new : List (List Area)) (count : ℕ) (old hull : Option Bounds)
    → AreInRows rows count old → AreRows new → AreJoined new → in_rows new ≡ with_area a (in_rows rows)
    → a.span.first ≤ a.span.last → areas_meet a.span (in_rows rows) ≡ false → count < 65535
    → hull ≡ with_leaving old a → AreInRows new (count + 1) hull
rows_with a rows new count old hull kept each joined added ordered alone few leaves =
    let more = length-with_area a (in_rows rows) in
    let counted = kept.counted in
    record {
      kept = rw added (record {
        apart = with_area-apart a (in_rows rows) kept.kept.apart ordered alone;
        few = omega arith;
      });
      each = each;
      joined = joined;
      counted = rw added (omega (arith, more, counted));
      leave = rw added (leaves ∙ span_with a (in_rows rows) old kept.leave);
    }

-- where none is leaving no debt changes
pub live_all : (device : DeviceNo) (xs : List Area) → LeaveIn None xs → map (without_debt device) xs ≡ xs
live_all device [] leave = refl
live_all device (x ∷ xs) leave =
    let rest = live_all device xs leave.1 in
    let same = live_paid device x.phase leave.0 in
    rw (same, rest) refl

-- a spare row stays one where no more rows stand in as much place
pub spare_stays : (spare : Option (List Area)) (count left capacity place : ℕ) → left ≤ count → place ≡ capacity
    → IsSpare spare count capacity → IsSpare spare left place
spare_stays None count left capacity place fewer same is = tt
spare_stays (Some row) count left capacity place fewer same is = (is.0, omega (arith, fewer, same, is.1))

-- without the areas of a span
pub rows_without : (span : Bounds) (rows new : List (List Area)) (count left : ℕ) (old hull : Option Bounds)
    → AreInRows rows count old → AreRows new → AreJoined new
    → in_rows new ≡ areas_outside span (in_rows rows) → left ≡ length (in_rows new) → hull ≡ leaving_span (in_rows new)
    → AreInRows new left hull
rows_without span rows new count left old hull kept each joined gone counted leave = record {
  kept = rw gone (kept-filter (λ a. not (lies_in a.span span)) (in_rows rows) kept.kept);
  each = each;
  joined = joined;
  counted = counted;
  leave = leave;
}
