-- Whether areas of whole pages lie under each page of a span of whole pages, and which pages a pin of the span pins.
use Rattle.std.proofs.Common.{◌≡◌, ℕ, zero, suc, ◌+◌, ◌-◌, ◌*◌, ◌/◌, ◌%◌, ◌^◌, ◌<◌, ◌≤◌, Bool, true, false, ◌&&◌}
use Rattle.std.proofs.Common.{◌||◌, not}
use Rattle.std.proofs.Common.{MatchBool, eqb, leb, List, [], ◌∷◌, map, refl, ap, sym, ◌∙◌, arith}
use Rattle.std.specs.List.{filter, list_all, list_any, range_with_len}
use Rattle.std.proofs.Math.Nat.{div-add-mod, mod-lt}
use Rattle.std.proofs.lemmas.Bool.{eqb-true}
use Rattle.std.proofs.lemmas.Bool.Decides.{nat_tests}
use Rattle.area_map_rows.proofs.Kept.{gap_tells}
use Rattle.area_map_rows.specs.Areas.{HasGap, IsCovered, areas_meeting}
use Rattle.access_pins.proofs.Spanned.{whole_is}
use Rattle.iofd_rows.proofs.Bools.{and_true, both_false, both_true, or_false}
use Rattle.iofd_rows.proofs.Each.{of_any, of_each}
use Rattle.iofd_rows.proofs.ListTests.{any-filter, any_weaker}
use Rattle.iofd_runs.proofs.Accessed.{some_in}
use Rattle.iofd_runs.specs.Fits.{begins_at_page, is_of_pages}
use Rattle.iofd_words.specs.Accesses.{has_gap}
use Rattle.iofd_words.specs.Bounds.{Bounds}
use Rattle.iofd_words.specs.Pages.{is_whole}
use Rattle.iofd_words.specs.Span.{holds, is_whole_pages, lies_in, meets, size_of, span_from}
use Rattle.iofd_words.specs.declared.rows.Area.{Area}

-- a test of the areas that meet a span
pub any_met : (test : Area → Bool) (span : Bounds) (areas : List Area)
    → list_any test (filter (λ (area : Area). meets area.span span) areas)
    ≡ list_any (λ area. meets area.span span && test area) areas
any_met test span areas = any-filter test (λ (area : Area). meets area.span span) areas

-- a test of the indices from one on finds none
none_among : (test : ℕ → Bool) (from count : ℕ) → ((i : ℕ) → from ≤ i → i < from + count → test i ≡ false)
    → list_any test (range_with_len from count) ≡ false
none_among test from zero none = refl
none_among test from (suc count) none =
    both_false _ _ (none from (omega arith) (omega arith))
    (none_among test (from + 1) count (λ i low high. none i (omega (arith, low)) (omega (arith, high))))

-- none is found: so it fails at each
each_fails : (test : ℕ → Bool) (from count i : ℕ) → list_any test (range_with_len from count) ≡ false → from ≤ i
    → i < from + count → test i ≡ false
each_fails test from zero i none low high = absurd (omega (arith, low, high))
each_fails test from (suc count) i none low high =
    let parts = or_false (test from) (list_any test (range_with_len (from + 1) count)) none in
    by_place (eqb i from) refl parts.0 (λ above. each_fails test (from + 1) count i parts.1 above (omega (arith, high)))
  where
    by_place : (b : Bool) → eqb i from ≡ b → test from ≡ false → (from + 1 ≤ i → test i ≡ false) → test i ≡ false
    by_place true is here later = ap test (eqb-true i from is) ∙ here
    by_place false is here later = later (search (is, low, arith, nat_tests))

any_mapped : {X : Type 0} (test : X → Bool) (f : ℕ → X) (is : List ℕ)
    → list_any test (map f is) ≡ list_any (λ i. test (f i)) is
any_mapped test f [] = refl
any_mapped test f (i ∷ is) = ap (λ b. test (f i) || b) (any_mapped test f is)

-- the whole page of an address lies in an area of whole pages that holds its first address
page_under : (first last n : ℕ) → is_whole first ≡ true → is_whole (last + 1 - first) ≡ true → is_whole n ≡ true
    → (leb first n && leb n last) ≡ true → (leb first n && leb (n + 4096 - 1) last) ≡ true
page_under first last n begins sized whole here =
    let parts = and_true (leb first n) (leb n last) here in
    let low : first ≤ n = let is = parts.0 in search (is, arith, nat_tests) in
    let high : n ≤ last = let is = parts.1 in search (is, arith, nat_tests) in
    let start = whole_is first begins in
    let size = whole_is (last + 1 - first) sized in
    let page = whole_is n whole in
    let below : n + 4096 - 1 ≤ last = omega (arith, low, high, start, size, page) in
    both_true (leb first n) (leb (n + 4096 - 1) last) parts.0 (search (below, arith, nat_tests))

module _ (span : Bounds) (areas : List Area) (whole : is_whole_pages span ≡ true) (ordered : span.first ≤ span.last)
  where
    -- the page of this index
    abbrev page_at : ℕ → Bounds
    page_at i = span_from (span.first + 4096 * i) 4096

    abbrev is_bare : Bounds → Bool
    is_bare page = not (list_any (λ (area : Area). lies_in page area.span) areas)

    start_whole : is_whole span.first ≡ true
    start_whole = (and_true (eqb (span.first % 4096) 0) (eqb (span.last % 4096) 4095) whole).0

    count_is : size_of span ≡ 4096 * (size_of span / 4096)
    count_is =
        let rest : span.last % 4096 ≡ 4095 =
        eqb-true (span.last % 4096) 4095 (and_true (eqb (span.first % 4096) 0) (eqb (span.last % 4096) 4095) whole).1 in
        let start = whole_is span.first start_whole in
        let parts = div-add-mod span.last 4096 in
        let cut = div-add-mod (size_of span) 4096 in
        let less = mod-lt (size_of span) {m = 4096} (omega arith) in
        omega (arith, ordered, rest, start, parts, cut, less)

    whole_page : (i : ℕ) → is_whole (span.first + 4096 * i) ≡ true
    whole_page i =
        let start = whole_is span.first start_whole in
        let cut = div-add-mod (span.first + 4096 * i) 4096 in
        let less = mod-lt (span.first + 4096 * i) {m = 4096} (omega arith) in
        let none : (span.first + 4096 * i) % 4096 ≡ 0 = omega (arith, start, cut, less) in
        search (none, arith, nat_tests)

    -- where each address lies in an area, each page does
    no_gap : list_all is_of_pages areas ≡ true → list_all begins_at_page areas ≡ true → IsCovered span areas
        → has_gap span areas ≡ false
    no_gap sizes starts covered =
        any_mapped is_bare page_at (range_with_len 0 (size_of span / 4096))
        ∙ none_among (λ i. is_bare (page_at i)) 0 (size_of span / 4096) (λ i low high.
        let within : span.first + 4096 * i ≤ span.last = let count = count_is in omega (arith, high, count, ordered) in
        let (area, among, here) = some_in (λ (a : Area). holds a.span (span.first + 4096 * i)) areas
        (covered (span.first + 4096 * i) (omega arith) within) in
        let pages = (and_true (is_whole (size_of area.span)) (leb (size_of area.span) (2 ^ 48))
        (of_each is_of_pages areas area sizes among)).0 in
        ap not (of_any (λ (a : Area). lies_in (page_at i) a.span) areas area among
        (page_under area.span.first area.span.last (span.first + 4096 * i)
        (of_each begins_at_page areas area starts among) pages (whole_page i) here)))

    -- and where each page does, each address
    covered_by_pages : has_gap span areas ≡ false → IsCovered span areas
    covered_by_pages none n low high =
        let count = count_is in
        let parts = div-add-mod (n - span.first) 4096 in
        let less = mod-lt (n - span.first) {m = 4096} (omega arith) in
        let i = (n - span.first) / 4096 in
        let few : (n - span.first) / 4096 < 0 + size_of span / 4096 =
        omega (arith, low, high, count, parts, less) in
        let some = not_not (list_any (λ (area : Area). lies_in (page_at i) area.span) areas)
        (each_fails (λ i. is_bare (page_at i)) 0 (size_of span / 4096) i
        (sym (any_mapped is_bare page_at (range_with_len 0 (size_of span / 4096))) ∙ none) (omega arith) few) in
        let from : span.first + 4096 * i ≤ n = omega (arith, low, parts) in
        let to : n ≤ span.first + 4096 * i + 4096 - 1 = omega (arith, low, parts, less) in
        any_weaker (λ (area : Area). lies_in (page_at i) area.span) (λ (area : Area). holds area.span n) areas
        (λ area lies. held area.span.first area.span.last (span.first + 4096 * i) lies from to) some
      where
        not_not : (b : Bool) → not b ≡ false → b ≡ true
        not_not true is = refl
        not_not false is = cc

        held : (first last at : ℕ) → (leb first at && leb (at + 4096 - 1) last) ≡ true → at ≤ n → n ≤ at + 4096 - 1
            → (leb first n && leb n last) ≡ true
        held first last at lies from to =
            let ends = and_true (leb first at) (leb (at + 4096 - 1) last) lies in
            let low : first ≤ at = let is = ends.0 in search (is, arith, nat_tests) in
            let high : at + 4096 - 1 ≤ last = let is = ends.1 in search (is, arith, nat_tests) in
            let one : first ≤ n = omega (arith, low, from) in
            let two : n ≤ last = omega (arith, high, to) in
            both_true (leb first n) (leb n last) (search (one, arith, nat_tests)) (search (two, arith, nat_tests))

    -- what the areas that meet the span hold of it, all hold
    covered_by_all : IsCovered span (areas_meeting span areas) → IsCovered span areas
    covered_by_all covered n low high =
        any_weaker (λ (area : Area). meets area.span span && holds area.span n) (λ (area : Area). holds area.span n)
        areas (λ area is. (and_true (meets area.span span) (holds area.span n) is).1)
        (sym (any_met (λ (area : Area). holds area.span n) span areas) ∙ covered n low high)

    -- and what all hold of it, those that meet it do
    covered_by_met : IsCovered span areas → IsCovered span (areas_meeting span areas)
    covered_by_met covered n low high =
        any_met (λ (area : Area). holds area.span n) span areas
        ∙ any_weaker (λ (area : Area). holds area.span n) (λ (area : Area). meets area.span span && holds area.span n)
        areas (λ area held. both_true (meets area.span span) (holds area.span n) (met area.span held) held)
        (covered n low high)
      where
        met : (b : Bounds) → holds b n ≡ true → meets b span ≡ true
        met b held =
            let ends = and_true (leb b.first n) (leb n b.last) held in
            let from : b.first ≤ n = let is = ends.0 in search (is, arith, nat_tests) in
            let to : n ≤ b.last = let is = ends.1 in search (is, arith, nat_tests) in
            let one : b.first ≤ span.last = omega (arith, from, high) in
            let two : span.first ≤ b.last = omega (arith, to, low) in
            both_true (leb b.first span.last) (leb span.first b.last) (search (one, arith, nat_tests))
            (search (two, arith, nat_tests))

    -- where the areas that meet the span hold it no page lies in none, and else one does
    pub gap_told : list_all is_of_pages areas ≡ true → list_all begins_at_page areas ≡ true → (b : Bool)
        → MatchBool b (IsCovered span (areas_meeting span areas)) (HasGap span (areas_meeting span areas))
        → not b ≡ has_gap span areas
    gap_told sizes starts true covered = sym (no_gap sizes starts (covered_by_all covered))
    gap_told sizes starts false gap = sym (by_gap (has_gap span areas) refl)
      where
        by_gap : (b : Bool) → has_gap span areas ≡ b → b ≡ true
        by_gap true same = refl
        by_gap false same =
            absurd (gap_tells span (areas_meeting span areas) gap (covered_by_met (covered_by_pages same)))
