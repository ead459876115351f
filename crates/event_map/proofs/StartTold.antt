-- Where a MAP's area comes to lie, as its refusals tell it: where the span begins that is found. It can be used, and is
-- of whole pages.
use Rattle.std.proofs.Common.{◌≡◌, ℕ, ◌≤◌, ◌+◌, ◌-◌, ◌%◌, ◌<◌, Bool, true, false, cond, ◌&&◌, ◌||◌, eqb, ltb, leb, not}
use Rattle.std.proofs.Common.{Option, Some, None, List, [], ◌∷◌, MatchOption, refl, ap, sym, subst, ◌∙◌, arith}
use Rattle.std.specs.List.{filter, list_any, sum_by}
use Rattle.std.proofs.lemmas.Bool.{not-false}
use Rattle.std.proofs.lemmas.Bool.Decides.{nat_tests}
use Rattle.std.proofs.lemmas.List.Folds.{list_any-append}
use Rattle.iofd_rows.proofs.Bools.{both_true, clash, or_false}
use Rattle.iofd_words.specs.Bounds.{Bounds}
use Rattle.iofd_refusals.specs.Checks.{choices, is_outside_usable, lacks_mapped_frames, least, mapped_start, may_choose}
use Rattle.iofd_refusals.specs.Checks.{tables_lacked, tables_to_map, taken_spans, unusable_in}
use Rattle.iofd_words.specs.Objects.{has_hwpt, has_ioas, is_hwpt_over}
use Rattle.iofd_words.specs.Pages.{is_above_sum, is_whole}
use Rattle.iofd_words.specs.Ranges.{meets_some}
use Rattle.iofd_words.specs.Rights.{is_fixed}
use Rattle.iofd_words.specs.Room.{starts_to_try}
use Rattle.iofd_words.specs.Span.{is_whole_pages, meets, span_from}
use Rattle.iofd_words.specs.TablePlaces.{pages_in}
use Rattle.iofd_words.specs.View.{View}
use Rattle.iofd_words.specs.declared.event.MapRequest.{MapRequest}
use Rattle.iofd_words.specs.declared.numbers.FileNo.{FileNo}
use Rattle.iofd_words.specs.declared.rows.Object.{Object}
use Rattle.event_map.proofs.Chosen.{is_spanned, parts, tried_below}
use Rattle.event_map.specs.Place.{HasNoPlace, HasNoPlaceBy, IsLeastSpan, IsPlace, IsPlaceBy}

-- ---- the least of those that pass

abbrev IsFrom : ℕ → Option ℕ → Type 0
IsFrom n None = Unit {0}
IsFrom n (Some m) = n ≤ m

abbrev with_one : ℕ → Option ℕ → Option ℕ
with_one n o = elim o [ Some other ↦ Some (cond (ltb other n) other n) | None ↦ Some n ]

from_all : (p : ℕ → Bool) (n : ℕ) (starts : List ℕ) → ((x : ℕ) → p x ≡ true → n ≤ x)
    → IsFrom n (least (filter p starts))
from_all p n [] above = tt
from_all p n (s ∷ starts) above = by_test (p s) refl (from_all p n starts above)
  where
    by_order : (m : ℕ) → n ≤ s → n ≤ m → (b : Bool) → n ≤ cond b m s
    by_order m low from true = from
    by_order m low from false = low

    by_one : (o : Option ℕ) → n ≤ s → IsFrom n o → IsFrom n (with_one s o)
    by_one None low from = low
    by_one (Some m) low from = by_order m low from (ltb m s)

    by_test : (b : Bool) → p s ≡ b → IsFrom n (least (filter p starts))
        → IsFrom n (least (cond b (s ∷ filter p starts) (filter p starts)))
    by_test true is rest = by_one (least (filter p starts)) (above s is) rest
    by_test false is rest = rest

-- one that is no greater than any of them, and not below one
least_is : (p : ℕ → Bool) (n : ℕ) (starts : List ℕ) → ((x : ℕ) → p x ≡ true → n ≤ x)
    → list_any (λ s. leb s n && p s) starts ≡ true → least (filter p starts) ≡ Some n
least_is p n [] above some = cc
least_is p n (s ∷ starts) above some =
    by_tests (p s) (leb s n) refl refl some (from_all p n starts above) (least_is p n starts above)
  where
    here : (o : Option ℕ) → s ≡ n → IsFrom n o → with_one s o ≡ Some n
    here None same from = ap (λ (x : ℕ). Some x) same
    here (Some m) same from = let no : ltb m s ≡ false = let low : s ≤ m =
        omega (arith, same, from) in search (low, arith, nat_tests) in rw no (ap (λ (x : ℕ). Some x) same)

    later : (o : Option ℕ) → leb s n ≡ false → o ≡ Some n → with_one s o ≡ Some n
    later o high is = let less : ltb n s ≡ true = search (high, arith, nat_tests) in rw (is, less) refl

    by_tests : (b c : Bool) → p s ≡ b → leb s n ≡ c → ((c && b) || list_any (λ s. leb s n && p s) starts) ≡ true
        → IsFrom n (least (filter p starts))
        → (list_any (λ s. leb s n && p s) starts ≡ true → least (filter p starts) ≡ Some n)
        → least (cond b (s ∷ filter p starts) (filter p starts)) ≡ Some n
    by_tests true true is low some from rest =
        let least_one = above s is in
        let most : s ≤ n = search (low, arith, nat_tests) in
        here (least (filter p starts)) (omega (arith, least_one, most)) from
    by_tests true false is low some from rest = later (least (filter p starts)) low (rest some)
    by_tests false true is low some from rest = rest some
    by_tests false false is low some from rest = rest some

none_left : (p : ℕ → Bool) (starts : List ℕ) → ((x : ℕ) → p x ≡ false) → least (filter p starts) ≡ None
none_left p [] fails = refl
none_left p (s ∷ starts) fails = rw (fails s) (none_left p starts fails)

-- ---- what is found

abbrev pub start_of : Option Bounds → Option ℕ
start_of o = elim o [ Some span ↦ Some span.first | None ↦ None ]

module _ (v : View) (file : FileNo) (request : MapRequest) where
  -- by the fixed address, and by the search
  pub fixed_place : (o : Option Bounds) → is_fixed request.flags ≡ true
      → MatchOption o (HasNoPlaceBy v file request true) (IsPlaceBy v file request true)
      → MatchOption o (HasNoPlace v file request) (IsPlace v file request)
  fixed_place o fixed place =
      subst (λ (b : Bool). MatchOption o (HasNoPlaceBy v file request b) (IsPlaceBy v file request b)) (sym fixed) place

  pub chosen_place : (o : Option Bounds) → is_fixed request.flags ≡ false
      → MatchOption o ((x : ℕ) → may_choose v file request x ≡ false) (IsLeastSpan v file request)
      → MatchOption o (HasNoPlace v file request) (IsPlace v file request)
  chosen_place o chosen place =
      subst (λ (b : Bool). MatchOption o (HasNoPlaceBy v file request b) (IsPlaceBy v file request b)) (sym chosen)
      (by_result o place)
    where
      by_result : (o : Option Bounds)
          → MatchOption o ((x : ℕ) → may_choose v file request x ≡ false) (IsLeastSpan v file request)
          → MatchOption o (HasNoPlaceBy v file request false) (IsPlaceBy v file request false)
      by_result None none = λ there. none
      by_result (Some span) least = least

  pub start_told : (o : Option Bounds) → (is_fixed request.flags && is_above_sum request.iova.0 request.length) ≡ false
      → has_ioas v.objects file request.ioas ≡ true
      → MatchOption o (HasNoPlace v file request) (IsPlace v file request) → mapped_start v file request ≡ start_of o
  start_told o sum space told = by_flag (is_fixed request.flags) o sum told
    where
      by_flag : (fixed : Bool) (o : Option Bounds) → (fixed && is_above_sum request.iova.0 request.length) ≡ false
          → MatchOption o (HasNoPlaceBy v file request fixed) (IsPlaceBy v file request fixed)
          → cond fixed (Some request.iova.0) (least
          (filter (may_choose v file request) (starts_to_try (choices v file request)
          (taken_spans v file request)))) ≡ start_of o
      by_flag true None sum above = absurd (clash _ sum above)
      by_flag true (Some span) sum at = ap (λ (x : Bounds). Some x.first) (sym at)
      by_flag false None sum fails = none_left (may_choose v file request)
          (starts_to_try (choices v file request) (taken_spans v file request)) (fails space)
      by_flag false (Some span) sum chosen =
          least_is (may_choose v file request) span.first
          (starts_to_try (choices v file request) (taken_spans v file request)) chosen.least
          (tried_below v file request span.first chosen.may)

  pub lacks_nowhere : mapped_start v file request ≡ None → lacks_mapped_frames v file request ≡ false
  lacks_nowhere none =
      ap (λ (o : Option ℕ). elim o as (λ _. Bool) [
        | Some s ↦ ltb v.free_count (tables_to_map v file request.ioas (span_from s request.length))
        | None ↦ false
      ]) none

  module _ (span : Bounds) (place : IsPlace v file request span) where
    pub lacks_there : mapped_start v file request ≡ Some span.first
        → lacks_mapped_frames v file request ≡ ltb v.free_count (tables_to_map v file request.ioas span)
    lacks_there start =
        ap (λ (o : Option ℕ). elim o as (λ _. Bool) [
          | Some s ↦ ltb v.free_count (tables_to_map v file request.ioas (span_from s request.length))
          | None ↦ false
        ]) start
        ∙ ap (λ (x : Bounds). ltb v.free_count (tables_to_map v file request.ioas x))
        (sym (is_spanned v file request span place))

    pub place_usable : is_outside_usable v file request ≡ false
        → meets_some (unusable_in v file request.ioas) span ≡ false
    place_usable usable = by_flag (is_fixed request.flags) usable place
      where
        by_flag : (fixed : Bool) → (fixed && meets_some (unusable_in v file request.ioas)
            (span_from request.iova.0 request.length)) ≡ false → IsPlaceBy v file request fixed span
            → meets_some (unusable_in v file request.ioas) span ≡ false
        by_flag true usable at = ap (meets_some (unusable_in v file request.ioas)) at ∙ usable
        by_flag false usable chosen =
            let free : meets_some (taken_spans v file request) span ≡ false =
            ap (meets_some (taken_spans v file request)) chosen.is
            ∙ (parts v file request span.first chosen.may).free in
            (or_false (meets_some (unusable_in v file request.ioas) span) _
            (sym (list_any-append (λ (one : Bounds). meets one span) (unusable_in v file request.ioas) _)
            ∙ free)).0

    first_whole : (is_fixed request.flags && not (is_whole request.iova.0)) ≡ false → is_whole span.first ≡ true
    first_whole starts = by_flag (is_fixed request.flags) starts place
      where
        by_flag : (fixed : Bool) → (fixed && not (is_whole request.iova.0)) ≡ false
            → IsPlaceBy v file request fixed span → is_whole span.first ≡ true
        by_flag true starts at = ap (λ (x : Bounds). is_whole x.first) at ∙ not-false (is_whole request.iova.0) starts
        by_flag false starts chosen =
            let whole = (parts v file request span.first chosen.may).whole in search (whole, arith, nat_tests)

    pub place_whole : eqb request.length 0 ≡ false → is_whole request.length ≡ true
        → (is_fixed request.flags && not (is_whole request.iova.0)) ≡ false → is_whole_pages span ≡ true
    place_whole some whole starts =
        let begins = first_whole starts in
        let first : span.first % 4096 ≡ 0 = search (begins, arith, nat_tests) in
        let length : request.length % 4096 ≡ 0 = search (whole, arith, nat_tests) in
        let more : 0 < request.length = search (some, arith, nat_tests) in
        let last_is : span.last ≡ span.first + request.length - 1 =
        ap (λ (x : Bounds). x.last) (is_spanned v file request span place) in
        let last : span.last % 4096 ≡ 4095 = omega (arith, first, length, more, last_is) in
        both_true _ _ begins (search (last, arith, nat_tests))

  -- ---- where no page table is over the address space

  none_over : (objects : List Object) → has_hwpt objects file request.ioas ≡ false
      → filter (λ o. eqb o.file.0 file.0 && is_hwpt_over request.ioas o.kind) objects ≡ []
  none_over [] none = refl
  none_over (o ∷ objects) none =
      let parts = or_false (eqb o.file.0 file.0 && is_hwpt_over request.ioas o.kind)
      (has_hwpt objects file request.ioas) none in
      rw parts.0 (none_over objects parts.1)

  pub lacks_none : has_hwpt v.objects file request.ioas ≡ false → lacks_mapped_frames v file request ≡ false
  lacks_none none = by_start (mapped_start v file request)
    where
      no_less : (n : ℕ) → ltb n 0 ≡ false
      no_less n = grind (arith, nat_tests)

      by_start : (o : Option ℕ) → elim o as (λ _. Bool) [
        | Some s ↦ ltb v.free_count (tables_to_map v file request.ioas (span_from s request.length))
        | None ↦ false
      ] ≡ false
      by_start None = refl
      by_start (Some s) =
          ap (λ (os : List Object). ltb v.free_count
          (sum_by (λ (o : Object). tables_lacked v file o.id (pages_in (span_from s request.length)) o.kind)
          os)) (none_over v.objects none)
          ∙ no_less v.free_count
