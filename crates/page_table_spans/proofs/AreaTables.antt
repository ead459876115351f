-- The tables of one level through which the live areas of a list go.
use Rattle.std.proofs.Common.{◌≡◌, ℕ, zero, suc, ◌+◌, ◌-◌, ◌<◌, ◌≤◌, Bool, true, false, cond, eqb, ◌&&◌, List, [], ◌∷◌}
use Rattle.std.proofs.Common.{◌++◌, length, max, refl, ◌∙◌, ap, ⊎_elim, arith}
use Rattle.std.specs.List.{All, AllByRecursion, count_by, filter, flat_map, range_with_len, sum_by}
use Rattle.std.proofs.lemmas.Bool.{cases_Bool, ne_eqb}
use Rattle.std.proofs.lemmas.List.Concat.{flat_map-cons}
use Rattle.std.proofs.lemmas.List.Elements.{All-head, All-tail}
use Rattle.std.proofs.lemmas.List.Sums.{sum_by-cons}
use Rattle.iofd_words.specs.Levels.{first_address, number_at}
use Rattle.iofd_words.specs.Pages.{page_of}
use Rattle.iofd_words.specs.Span.{is_whole_pages}
use Rattle.iofd_words.specs.TablePlaces.{TablePlace, is_live, lacking, live_pages, pages_in, places_from}
use Rattle.iofd_words.specs.declared.rows.Area.{Area}
use Rattle.area_map_rows.specs.Areas.{AreApartFrom}
use Rattle.page_table_words.proofs.Members.{each_then}
use Rattle.page_table_words.proofs.Needs.{number_grows}
use Rattle.page_table_spans.proofs.ByLevel.{by_levels, lacked_at}
use Rattle.page_table_spans.proofs.Lacking.{and_one, lacking_alike}
use Rattle.page_table_spans.proofs.LevelNumbers.{both_all, from_on, is_new, or_before, pages_of_level}
use Rattle.page_table_spans.proofs.SpanNeeds.{further, last_page, pages_are}

-- without its first area a list is shorter
pub shorter : (all rest : List Area) (area : Area) → all ≡ area ∷ rest → length rest < length all
shorter all rest area is =
    let longer : length (area ∷ rest) ≡ length rest + 1 = omega arith in
    let same = ap (λ (l : List Area). length l) is in
    omega (arith, longer, same)

-- what is counted of numbers below a bound is no more than that
pub at_most : (total next most : ℕ) → total ≤ next → next ≤ most → total ≤ most
at_most total next most few bound = omega (arith, few, bound)

-- no table is there
abbrev pub nothing : TablePlace → Bool
nothing place = false

all_new : (level from n : ℕ) → count_by (is_new nothing level) (range_with_len from n) ≡ n
all_new level from zero = refl
all_new level from (suc n) =
    let rest = all_new level (from + 1) n in
    let first = sum_by-cons (λ (k : ℕ). cond (is_new nothing level k) 1 0) from (range_with_len (from + 1) n) in
    omega (arith, rest, first)

-- ---- one area and others

pub live_first : (area : Area) (areas : List Area) → is_live area.phase ≡ true
    → live_pages (area ∷ areas) ≡ pages_in area.span ++ live_pages areas
live_first area areas live =
    ap (λ (b : Bool). flat_map (λ (a : Area). pages_in a.span)
    (cond b (area ∷ filter (λ (a : Area). is_live a.phase) areas)
    (filter (λ (a : Area). is_live a.phase) areas))) live
    ∙ flat_map-cons (λ (a : Area). pages_in a.span) area (filter (λ (a : Area). is_live a.phase) areas)

pub leaving_first : (area : Area) (areas : List Area) → is_live area.phase ≡ false
    → live_pages (area ∷ areas) ≡ live_pages areas
leaving_first area areas leaving =
    ap (λ (b : Bool). flat_map (λ (a : Area). pages_in a.span)
    (cond b (area ∷ filter (λ (a : Area). is_live a.phase) areas)
    (filter (λ (a : Area). is_live a.phase) areas))) leaving

abbrev pub AreWhole : List Area → Type 0
AreWhole areas = All (λ area. is_whole_pages area.span ≡ true) areas

-- no page lies before the one where they may begin
pub pages_from : (low : ℕ) (areas : List Area) → AreApartFrom low areas → AreWhole areas
    → AllByRecursion (λ q. page_of low ≤ q) (live_pages areas)
pages_from low [] apart whole = tt
pages_from low (area ∷ areas) apart whole =
    let head = All-head (λ (a : Area). is_whole_pages a.span ≡ true) area areas whole in
    let begin = apart.0 in
    let order = apart.1 in
    let rest = each_then (λ q. page_of (area.span.last + 1) ≤ q) (λ q. page_of low ≤ q) (live_pages areas)
    (λ q far. omega (arith, far, begin, order))
    (pages_from (area.span.last + 1) areas apart.2
    (All-tail (λ (a : Area). is_whole_pages a.span ≡ true) area areas whole)) in
    ⊎_elim
    (λ (live : is_live area.phase ≡ true).
    rw (live_first area areas live, pages_are area.span head order)
    (both_all (λ q. page_of low ≤ q) (range_with_len (page_of area.span.first) (suc (further area.span)))
    (live_pages areas) (from_on (page_of area.span.first) (suc (further area.span)) (page_of low)
    (omega (arith, begin))) rest))
    (λ (leaving : is_live area.phase ≡ false). rw (leaving_first area areas leaving) rest)
    (cases_Bool (is_live area.phase))

-- the first is live: its tables from the next one on, and those of the others behind
pub area_more : (level low next : ℕ) (area : Area) (areas : List Area) → AreApartFrom low (area ∷ areas)
    → AreWhole (area ∷ areas) → next ≤ number_at level (page_of low) + 1 → is_live area.phase ≡ true
    → lacked_at (or_before nothing level next) (live_pages (area ∷ areas)) level
    ≡ number_at level (page_of area.span.last) + 1 - max next (number_at level (page_of area.span.first))
    + lacked_at (or_before nothing level (number_at level (page_of area.span.last) + 1)) (live_pages areas) level
area_more level low next area areas apart whole near live =
    let begin = apart.0 in
    let order = apart.1 in
    let first = page_of area.span.first in
    let head = All-head (λ (a : Area). is_whole_pages a.span ≡ true) area areas whole in
    let later = each_then (λ q. page_of (area.span.last + 1) ≤ q) (λ q. first + further area.span ≤ q)
    (live_pages areas) (λ q far. omega (arith, far, last_page area.span order))
    (pages_from (area.span.last + 1) areas apart.2
    (All-tail (λ (a : Area). is_whole_pages a.span ≡ true) area areas whole)) in
    let grown = number_grows level low area.span.first begin in
    ap (λ (pages : List ℕ). lacked_at (or_before nothing level next) pages level) (live_first area areas live
    ∙ ap (λ (pages : List ℕ). pages ++ live_pages areas) (pages_are area.span head order))
    ∙ pages_of_level nothing level next (further area.span) first (live_pages areas) (omega (arith, near, grown)) later
    ∙ ap (λ (n : ℕ). n + lacked_at (or_before nothing level (number_at level (first + further area.span) + 1))
    (live_pages areas) level)
    (all_new level (max next (number_at level first)) (number_at level (first + further area.span) + 1
    - max next (number_at level first)))
    ∙ ap (λ (page : ℕ). number_at level page + 1 - max next (number_at level first)
    + lacked_at (or_before nothing level (number_at level page + 1)) (live_pages areas) level)
    (last_page area.span order)

-- the root stands alone in its level
pub root_alone : (level first : ℕ) (pages : List ℕ) → 0 < level
    → length (lacking nothing (record { level = level; first = first } ∷ flat_map (places_from (level - 1)) pages)) ≡ 1
    + sum_by (lacked_at nothing pages) (range_with_len 1 (level - 1))
root_alone level first pages some =
    let root : TablePlace = record { level = level; first = first } in
    let rest = ap (λ (ps : List TablePlace). length ps)
    (lacking_alike (and_one nothing root) nothing (flat_map (places_from (level - 1)) pages) (all pages)) in
    let levels = by_levels nothing pages (level - 1) in
    omega (arith, rest, levels)
  where
    one : (n page : ℕ) → n < level → AllByRecursion (λ place. (eqb level place.level && eqb first place.first) ≡ false)
        (places_from n page)
    one zero page low = tt
    one (suc n) page low = (
      ap (λ (b : Bool). b && eqb first (first_address (suc n) page))
          (ne_eqb level (suc n) (omega (arith, low))),
      one n page (omega (arith, low)),
    )

    joined : (ps qs : List TablePlace) → AllByRecursion
        (λ place. (eqb level place.level && eqb first place.first) ≡ false) ps
        → AllByRecursion (λ place. (eqb level place.level && eqb first place.first) ≡ false) qs
        → AllByRecursion (λ place. (eqb level place.level && eqb first place.first) ≡ false) (ps ++ qs)
    joined [] qs none rest = rest
    joined (p ∷ ps) qs each rest = (each.0, joined ps qs each.1 rest)

    all : (qs : List ℕ) → AllByRecursion (λ place. (eqb level place.level && eqb first place.first) ≡ false)
        (flat_map (places_from (level - 1)) qs)
    all [] = tt
    all (q ∷ qs) = rw (flat_map-cons (places_from (level - 1)) q qs)
        (joined (places_from (level - 1) q) (flat_map (places_from (level - 1)) qs)
        (one (level - 1) q (omega (arith, some))) (all qs))
