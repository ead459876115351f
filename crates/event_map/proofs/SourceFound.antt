-- The area that a COPY names: of areas that stand apart one at most has exactly its span, so that it is found by its
-- span alone.
use Rattle.std.proofs.Common.{◌≡◌, ℕ, ◌+◌, ◌<◌, Bool, true, false, cond, ◌&&◌, eqb, Option, Some, None, List, []}
use Rattle.std.proofs.Common.{◌∷◌, refl, arith}
use Rattle.std.specs.List.{find}
use Rattle.std.proofs.lemmas.Bool.Decides.{nat_tests}
use Rattle.area_map_rows.specs.Areas.{AreApartFrom, area_of}
use Rattle.iofd_words.specs.Bounds.{Bounds}
use Rattle.iofd_words.specs.Copies.{is_live_at}
use Rattle.iofd_words.specs.TablePlaces.{is_live}
use Rattle.iofd_words.specs.declared.rows.Area.{Area}

-- of an area that is found, whether it is live
abbrev pub live_of : Option Area → Option Area
live_of None = None
live_of (Some area) = cond (is_live area.phase) (Some area) None

-- areas that begin behind the span's first address haven't that span
none_behind : (span : Bounds) (low : ℕ) (areas : List Area) → AreApartFrom low areas → span.first < low
    → find (is_live_at span) areas ≡ None
none_behind span low [] apart behind = refl
none_behind span low (a ∷ areas) (from, ends, rest) behind =
    let other : eqb a.span.first span.first ≡ false = grind (arith, nat_tests) in
    rw other (no_test (is_live a.phase) (eqb a.span.last span.last)
    (none_behind span (a.span.last + 1) areas rest (omega (arith, from, ends, behind))))
  where
    no_test : (p q : Bool) → find (is_live_at span) areas ≡ None
        → cond ((p && false) && q) (Some a) (find (is_live_at span) areas) ≡ None
    no_test true q none = none
    no_test false q none = none

-- so the one that is live and has it is the one that has it, if that is live
pub source_found : (span : Bounds) (low : ℕ) (areas : List Area) → AreApartFrom low areas
    → find (is_live_at span) areas ≡ live_of (area_of span areas)
source_found span low [] apart = refl
source_found span low (a ∷ areas) (from, ends, rest) =
    by_tests (is_live a.phase) (eqb a.span.first span.first) (eqb a.span.last span.last) refl refl refl
    (source_found span (a.span.last + 1) areas rest)
  where
    starts : eqb a.span.first span.first ≡ true → span.first < a.span.last + 1
    starts same = let is : a.span.first ≡ span.first = search (same, arith, nat_tests) in omega (arith, is, ends)

    by_tests : (l f e : Bool) → is_live a.phase ≡ l → eqb a.span.first span.first ≡ f → eqb a.span.last span.last ≡ e
        → find (is_live_at span) areas ≡ live_of (area_of span areas)
        → cond ((l && f) && e) (Some a) (find (is_live_at span) areas) ≡ live_of
        (cond (f && e) (Some a) (area_of span areas))
    by_tests true true true lives first last later = rw lives refl
    by_tests true true false lives first last later = later
    by_tests true false e lives first last later = later
    by_tests false true true lives first last later =
        rw lives (none_behind span (a.span.last + 1) areas rest (starts first))
    by_tests false true false lives first last later = later
    by_tests false false e lives first last later = later
