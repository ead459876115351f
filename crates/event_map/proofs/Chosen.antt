-- The search for the least address that may be chosen: it starts at 0, and goes behind what is in the way.
use Rattle.std.proofs.Common.{◌≡◌, ℕ, ◌+◌, ◌-◌, ◌%◌, ◌<◌, ◌≤◌, Bool, true, false, ◌&&◌, ◌||◌, leb, Option, Some}
use Rattle.std.proofs.Common.{None, is_some, List, [], ◌∷◌, map, MatchOption, refl, ap, sym, ◌∙◌, ⊎_elim}
use Rattle.std.proofs.Common.{◌^◌, arith}
use Rattle.std.specs.List.{list_all, list_any}
use Rattle.std.proofs.lemmas.Bool.Decides.{nat_tests}
use Rattle.std.proofs.lemmas.Bool.{cases_lt, or_cases}
use Rattle.std.proofs.lemmas.List.Folds.{list_any-append}
use Rattle.iofd_rows.proofs.Bools.{and_true, both_false, clash, or_false}
use Rattle.iofd_rows.proofs.ListTests.{any_weaker, false_else, or_left, or_right}
use Rattle.area_map_rows.specs.Areas.{AreApart, AreApartFrom, HasNoneFree, IsFirstFree}
use Rattle.iofd_runs.specs.Fits.{begins_at_page, is_of_pages}
use Rattle.iofd_words.specs.Areas.{areas_meet}
use Rattle.iofd_words.specs.Bounds.{Bounds}
use Rattle.iofd_refusals.specs.Checks.{choices, has_choice, may_choose, taken_spans, unusable_in}
use Rattle.iofd_words.specs.Fits.{whole_from}
use Rattle.iofd_words.specs.Pages.{is_above_sum}
use Rattle.iofd_words.specs.Ranges as ranges
use Rattle.iofd_words.specs.Rights.{is_fixed}
use Rattle.iofd_words.specs.Room.{fits, is_covered_by, starts_to_try}
use Rattle.iofd_words.specs.Span.{meets, span_from}
use Rattle.iofd_words.specs.Usable.{occupied}
use Rattle.iova_ranges.proofs.Covering.{all-covered_by, covered_by-all}
use Rattle.iova_ranges.proofs.StartsFound.{start_found}
use Rattle.iova_ranges.specs.Gaps.{IsGap}
use Rattle.iova_ranges.specs.Ranges.{AllIn}
use Rattle.iofd_words.specs.View.{View}
use Rattle.iofd_words.specs.declared.event.MapRequest.{MapRequest}
use Rattle.iofd_words.specs.declared.numbers.FileNo.{FileNo}
use Rattle.iofd_words.specs.declared.rows.Area.{Area}
use Rattle.event_map.specs.Place.{IsClear, IsInTheWay, IsLeastSpan, IsOpen, IsPlace, IsPlaceBy}
use Rattle.server_state.specs.Reach.{IsOneOf}

-- ---- areas

abbrev spans_of : List Area → List Bounds
spans_of areas = map (λ (a : Area). a.span) areas

any-spans : (test : Bounds → Bool) (areas : List Area)
    → list_any test (spans_of areas) ≡ list_any (λ (a : Area). test a.span) areas
any-spans test [] = refl
any-spans test (a ∷ areas) = ap (λ b. test a.span || b) (any-spans test areas)

-- what can't be used is taken
pub unusable_one : (unusable : List Bounds) (areas : List Area) (span one : Bounds) → IsOneOf unusable span one
    → IsOneOf (occupied unusable areas) span one
unusable_one unusable areas span one is =
    record {
      met = is.met;
      among = λ test passes. list_any-append test unusable (spans_of areas)
          ∙ or_left (list_any test unusable) _ (is.among test passes);
    }

-- what is taken is what can't be used, and the areas
taken_is : (v : View) (file : FileNo) (request : MapRequest) (areas : List Area)
    → v.areas_of file request.ioas ≡ areas → (span : Bounds)
    → ranges.meets_some (taken_spans v file request) span ≡ (ranges.meets_some (unusable_in v file request.ioas) span
    || list_any (λ (one : Bounds). meets one span) (spans_of areas))
taken_is v file request areas here span =
    ap (λ (areas : List Area). ranges.meets_some (occupied (unusable_in v file request.ioas) areas) span) here
    ∙ list_any-append (λ (one : Bounds). meets one span) (unusable_in v file request.ioas) (spans_of areas)

-- where an area is met by so many addresses from the one before this on, and not from this one on, it ends before it;
-- an area has whole pages, and so a page begins there
ends_before : (a : Area) (at length : ℕ) → 0 < at → 0 < length → a.span.first ≤ a.span.last
    → begins_at_page a ≡ true → is_of_pages a ≡ true → meets a.span (span_from (at - 1) length) ≡ true
    → meets a.span (span_from at length) ≡ false → at % 4096 ≡ 0
ends_before a at length low some ordered start whole met free = grind (arith, nat_tests)

-- the same of some area, and of none
page_behind : (from : ℕ) (areas : List Area) (at length : ℕ) → 0 < at → 0 < length → AreApartFrom from areas
    → list_all begins_at_page areas ≡ true → list_all is_of_pages areas ≡ true
    → areas_meet (span_from (at - 1) length) areas ≡ true → areas_meet (span_from at length) areas ≡ false
    → at % 4096 ≡ 0
page_behind from [] at length low some apart starts pages met free = absurd (clash false refl met)
page_behind from (a ∷ areas) at length low some apart starts pages met free =
    let start = and_true (begins_at_page a) (list_all begins_at_page areas) starts in
    let whole = and_true (is_of_pages a) (list_all is_of_pages areas) pages in
    let clear = or_false (meets a.span (span_from at length)) (areas_meet (span_from at length) areas) free in
    ⊎_elim
    (λ (here : meets a.span (span_from (at - 1) length) ≡ true).
    ends_before a at length low some apart.1 start.0 whole.0 here clear.0)
    (λ (later : areas_meet (span_from (at - 1) length) areas ≡ true).
    page_behind (a.span.last + 1) areas at length low some apart.2 start.1 whole.1 later clear.1)
    (or_cases (meets a.span (span_from (at - 1) length)) (areas_meet (span_from (at - 1) length) areas) met)

-- ---- the search

module _ (v : View) (file : FileNo) (request : MapRequest) where
  abbrev taken : List Bounds
  taken = taken_spans v file request

  -- no address below may be chosen, and the start is the first of a page
  pub record IsSearched (start : ℕ) : Type 0 where
    pub below : (x : ℕ) → x < start → may_choose v file request x ≡ false
    pub whole : start % 4096 ≡ 0

  -- what a choice is
  pub record IsChoice (x : ℕ) : Type 0 where
    pub sum : is_above_sum x request.length ≡ false
    pub whole : x % 4096 ≡ 0
    pub inside : is_covered_by (choices v file request) (span_from x request.length) ≡ true
    pub free : ranges.meets_some taken (span_from x request.length) ≡ false

  pub parts : (x : ℕ) → may_choose v file request x ≡ true → IsChoice x
  parts x may = record {
    sum = grind (arith, nat_tests);
    whole = grind (arith, nat_tests);
    inside = grind (arith, nat_tests);
    free = grind (arith, nat_tests);
  }

  -- what is taken and meets the span stands in its way
  pub taken_in_the_way : (span one : Bounds) → 0 < request.length → span ≡ span_from span.first request.length
      → IsOneOf taken span one → IsInTheWay v file request span one
  taken_in_the_way span one some from is =
      let lasts : span.last ≡ span.first + request.length - 1 = ap (λ (s : Bounds). s.last) from in
      let met = is.met in
      record {
        reaches = grind (arith, nat_tests);
        none = λ x low high. false_else (may_choose v file request x) (λ may.
            clash _ (parts x may).free (is.among (λ (o : Bounds). meets o (span_from x request.length))
            (in_the_way x lasts low high)));
      }
    where
      in_the_way : (x : ℕ) → span.last ≡ span.first + request.length - 1 → span.first ≤ x → x ≤ one.last
          → meets one (span_from x request.length) ≡ true
      in_the_way x lasts low high = let met = is.met in grind (arith, nat_tests)

  -- and so do addresses that aren't allowed
  pub gap_in_the_way : (span gap : Bounds) → 0 < request.length → span ≡ span_from span.first request.length
      → IsGap (choices v file request) span gap → IsInTheWay v file request span gap
  gap_in_the_way span gap some from is =
      let lasts : span.last ≡ span.first + request.length - 1 = ap (λ (s : Bounds). s.last) from in
      let met = is.met in
      record {
        reaches = grind (arith, nat_tests);
        none = λ x low high. false_else (may_choose v file request x) (λ may.
            let all = covered_by-all (choices v file request) (span_from x request.length) (parts x may).inside in
            ⊎_elim
            (λ (before : x < gap.first).
            clash _ (is.out gap.first (omega arith) is.ordered)
            (all gap.first (omega (arith, before)) (ends x lasts low)))
            (λ (inside : gap.first ≤ x). clash _ (is.out x inside high) (all x (omega arith) (omega (arith, some))))
            (cases_lt x gap.first));
      }
    where
      ends : (x : ℕ) → span.last ≡ span.first + request.length - 1 → span.first ≤ x → gap.first ≤ x + request.length - 1
      ends x lasts low = let met = is.met in grind (arith, nat_tests)

  -- behind what is in the way
  pub goes_on : (start : ℕ) (one : Bounds) → IsSearched start
      → IsInTheWay v file request (span_from start request.length) one → IsSearched (whole_from (one.last + 1))
  goes_on start one searched is =
      record { below = below; whole = omega arith }
    where
      below : (x : ℕ) → x < whole_from (one.last + 1) → may_choose v file request x ≡ false
      below x under =
          false_else (may_choose v file request x) (λ may.
          let told = (parts x may).whole in
          ⊎_elim
          (λ (before : x < start). clash _ (searched.below x before) may)
          (λ (from : start ≤ x). clash _ (is.none x from (omega (arith, told, under))) may)
          (cases_lt x start))

  -- an address at which the span would end above all may not be chosen
  pub none_above : (start : ℕ) → IsSearched start → 18446744073709551616 < start + request.length → (x : ℕ)
      → may_choose v file request x ≡ false
  none_above start searched above x =
      false_else (may_choose v file request x) (λ may.
      let told = (parts x may).sum in
      ⊎_elim
      (λ (before : x < start). clash _ (searched.below x before) may)
      (λ (from : start ≤ x). absurd (grind (arith, nat_tests)))
      (cases_lt x start))

  -- from an address from which an area is met none is chosen
  met_not_chosen : (areas : List Area) → v.areas_of file request.ioas ≡ areas → (x : ℕ)
      → areas_meet (span_from x request.length) areas ≡ true → may_choose v file request x ≡ false
  met_not_chosen areas here x met =
      let next = span_from x request.length in
      let taken_there = any-spans (λ (one : Bounds). meets one next) areas ∙ met in
      false_else (may_choose v file request x) (λ may.
      clash _ (parts x may).free (taken_is v file request areas here next ∙ or_right _ _ taken_there))

  -- so none is, where an area is met from each
  pub none_free : (start : ℕ) (areas : List Area) → v.areas_of file request.ioas ≡ areas → IsSearched start
      → HasNoneFree start request.length areas → (x : ℕ) → may_choose v file request x ≡ false
  none_free start areas here searched none x =
      false_else (may_choose v file request x) (λ may.
      let sum = (parts x may).sum in
      let within : x + request.length ≤ 2 ^ 64 = grind (arith, nat_tests) in
      ⊎_elim
      (λ (before : x < start). clash _ (searched.below x before) may)
      (λ (from : start ≤ x). clash _ (met_not_chosen areas here x (none x from within)) may)
      (cases_lt x start))

  -- the search goes on at the least address from which no area is met
  pub goes_to : (start at : ℕ) (areas : List Area) → v.areas_of file request.ioas ≡ areas → 0 < request.length
      → AreApart areas → list_all begins_at_page areas ≡ true → list_all is_of_pages areas ≡ true → IsSearched start
      → IsFirstFree start request.length areas at → IsSearched at
  goes_to start at areas here some apart starts pages searched first =
      record { below = below; whole = whole }
    where
      below : (x : ℕ) → x < at → may_choose v file request x ≡ false
      below x under =
          ⊎_elim
          (λ (before : x < start). searched.below x before)
          (λ (from : start ≤ x). met_not_chosen areas here x (first.least x from under))
          (cases_lt x start)

      whole : at % 4096 ≡ 0
      whole =
          ⊎_elim
          (λ (above : start < at).
          page_behind 0 areas at request.length (omega (arith, above)) some apart starts pages
          (first.least (at - 1) (omega (arith, above)) (omega (arith, above))) first.free)
          (λ (below : at ≤ start).
          let from = first.from in
          let page = searched.whole in
          omega (arith, below, from, page))
          (cases_lt start at)

  pub begins : IsSearched 0
  begins = record { below = λ x under. absurd (omega (arith, under)); whole = refl }

  pub may_at : (start : ℕ) → 0 < request.length → start + request.length ≤ 18446744073709551616 → start % 4096 ≡ 0
      → IsClear v file request (span_from start request.length) → may_choose v file request start ≡ true
  may_at start some high whole clear =
      let inside = clear.inside in
      let free = clear.free in
      grind (arith, nat_tests)

  pub found : (start : ℕ) → 0 < request.length → start + request.length ≤ 18446744073709551616 → IsSearched start
      → IsClear v file request (span_from start request.length) → may_choose v file request start ≡ true
  found start some high searched clear = may_at start some high searched.whole clear

  pub is_least : (start : ℕ) → IsSearched start → (x : ℕ) → may_choose v file request x ≡ true → start ≤ x
  is_least start searched x may =
      ⊎_elim (λ (before : x < start). absurd (clash _ (searched.below x before) may))
      (λ (from : start ≤ x). from) (cases_lt x start)

  -- where an address may be chosen, one of those that are tried may and isn't above it
  pub tried_below : (start : ℕ) → may_choose v file request start ≡ true
      → list_any (λ s. leb s start && may_choose v file request s) (starts_to_try (choices v file request) taken) ≡ true
  tried_below start may =
      let sum = (parts start may).sum in
      let fit : fits request.length (choices v file request) taken start ≡ true = grind (arith, nat_tests) in
      any_weaker (λ s. leb s start && fits request.length (choices v file request) taken s) (λ s. leb s start
      && may_choose v file request s) (starts_to_try (choices v file request) taken) (λ s is. below s sum is)
      (start_found request.length (choices v file request) taken start fit)
    where
      below : (s : ℕ) → is_above_sum start request.length ≡ false
          → (leb s start && fits request.length (choices v file request) taken s) ≡ true
          → (leb s start && may_choose v file request s) ≡ true
      below s sum is = grind (arith, nat_tests)

  pub is_there : (start : ℕ) → may_choose v file request start ≡ true → has_choice v file request ≡ true
  is_there start may =
      any_weaker (λ s. leb s start && may_choose v file request s) (may_choose v file request)
      (starts_to_try (choices v file request) taken)
      (λ s both. (and_true (leb s start) (may_choose v file request s) both).1) (tried_below start may)

  -- each step of the search goes on
  pub rises : (start : ℕ) (one : Bounds) → IsInTheWay v file request (span_from start request.length) one
      → start < whole_from (one.last + 1)
  rises start one is = let reaches = is.reaches in omega (arith, reaches)

-- allowed and usable, or behind a gap
pub open_or_gap : (v : View) (file : FileNo) (request : MapRequest) (span : Bounds) (o : Option Bounds)
    → 0 < request.length → span ≡ span_from span.first request.length → span.first ≤ span.last
    → ranges.meets_some (unusable_in v file request.ioas) span ≡ false
    → MatchOption o (AllIn (choices v file request) span) (IsGap (choices v file request) span)
    → MatchOption o (IsOpen v file request span) (IsInTheWay v file request span)
open_or_gap v file request span None some from ordered usable all =
    record { inside = all-covered_by (choices v file request) span ordered all; usable = usable }
open_or_gap v file request span (Some gap) some from ordered usable is =
    gap_in_the_way v file request span gap some from is

-- free of areas too
pub is_clear : (v : View) (file : FileNo) (request : MapRequest) (areas : List Area) (span : Bounds)
    → v.areas_of file request.ioas ≡ areas → IsOpen v file request span → areas_meet span areas ≡ false
    → IsClear v file request span
is_clear v file request areas span here is_open free =
    record {
      inside = is_open.inside;
      free = taken_is v file request areas here span
          ∙ both_false _ _ is_open.usable (any-spans (λ (one : Bounds). meets one span) areas ∙ free);
    }

pub fewer_left : (start next high : ℕ) → start < next → start < high → high - next < high - start
fewer_left start next high above below = omega (arith, above, below)

-- what the search tells
pub choice_told : (v : View) (file : FileNo) (request : MapRequest) (o : Option Bounds)
    → MatchOption o ((x : ℕ) → may_choose v file request x ≡ false) (IsLeastSpan v file request)
    → is_some o ≡ has_choice v file request
choice_told v file request None fails = sym
    (none_of (may_choose v file request) (starts_to_try (choices v file request) (taken_spans v file request)) fails)
  where
    none_of : (p : ℕ → Bool) (starts : List ℕ) → ((x : ℕ) → p x ≡ false) → list_any p starts ≡ false
    none_of p [] fails = refl
    none_of p (x ∷ starts) fails = both_false _ _ (fails x) (none_of p starts fails)
choice_told v file request (Some span) is = sym is.there

-- a place is a span of the length
pub is_spanned : (v : View) (file : FileNo) (request : MapRequest) (span : Bounds) → IsPlace v file request span
    → span ≡ span_from span.first request.length
is_spanned v file request span place = by_flag (is_fixed request.flags) place
  where
    by_flag : (fixed : Bool) → IsPlaceBy v file request fixed span → span ≡ span_from span.first request.length
    by_flag true at = at ∙ ap (λ (n : ℕ). span_from n request.length) (sym (ap (λ (x : Bounds). x.first) at))
    by_flag false chosen = chosen.is
