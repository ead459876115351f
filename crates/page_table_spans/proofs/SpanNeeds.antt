-- What one span needs, by the look-ups of a page table and by the words of the definitions.
use Rattle.std.proofs.Common.{◌≡◌, ℕ, zero, suc, ◌+◌, ◌-◌, ◌*◌, ◌/◌, ◌%◌, ◌^◌, ◌<◌, ◌≤◌, Bool, true, false, cond, eqb}
use Rattle.std.proofs.Common.{leb, ltb, not, ◌&&◌, ◌||◌, Option, Some, None, List, [], ◌∷◌, ◌++◌, length, map, max, min}
use Rattle.std.proofs.Common.{refl, sym, ◌∙◌, ap, arith}
use Rattle.std.specs.Prelude.{is_none, is_some}
use Rattle.std.specs.List.{count_by, list_any, range_with_len, sum_by}
use Rattle.std.proofs.lemmas.Bool.{and_parts, eqb-true, le-ltb}
use Rattle.std.proofs.lemmas.Bool.Decides.{nat_tests}
use Rattle.std.proofs.lemmas.List.{append-nil}
use Rattle.std.proofs.lemmas.List.Sums.{sum_by-cons}
use Rattle.iofd_words.specs.Bounds.{Bounds}
use Rattle.iofd_words.specs.Levels.{levels_of, number_at}
use Rattle.iofd_words.specs.Pages.{page_of}
use Rattle.iofd_words.specs.Span.{is_whole_pages, size_of}
use Rattle.iofd_words.specs.TablePlaces.{TablePlace, pages_in}
use Rattle.iofd_words.specs.declared.numbers.FrameNo.{FrameNo}
use Rattle.iofd_words.specs.declared.width.Width.{Width}
use Rattle.page_table_words.specs.Needed.{first_page, goes_through, is_absent, needed, needed_at}
use Rattle.page_table_words.specs.Rows.{TableRow, table_at}
use Rattle.page_table_words.proofs.Needs.{count_window, in_window, number_below, number_grows}
use Rattle.page_table_words.proofs.Numbers.{number-page}
use Rattle.page_table_spans.specs.Levels.{place_at}
use Rattle.page_table_spans.specs.Spans.{IsOfPages, has_row, lacked}
use Rattle.page_table_spans.proofs.ByLevel.{by_levels, lacked_at}
use Rattle.page_table_spans.proofs.Lacking.{lacking_same}
use Rattle.page_table_spans.proofs.LevelNumbers.{is_new, numbered, or_before, pages_of_level}
use Rattle.page_table_spans.proofs.OnePage.{row_there}

-- ---- sums and counts

pub count_alike : (p q : ℕ → Bool) (xs : List ℕ) → ((x : ℕ) → p x ≡ q x) → count_by p xs ≡ count_by q xs
count_alike p q [] each = refl
count_alike p q (x ∷ xs) each =
    sum_by-cons (λ (y : ℕ). cond (p y) 1 0) x xs ∙ ap {B = ℕ} (λ (b : Bool). cond b 1 0 + count_by p xs) (each x)
    ∙ ap (λ (c : ℕ). cond (q x) 1 0 + c) (count_alike p q xs each)
    ∙ sym (sum_by-cons (λ (y : ℕ). cond (q y) 1 0) x xs)

pub sum_alike : (f g : ℕ → ℕ) (from n : ℕ) → ((i : ℕ) → from ≤ i → i < from + n → f i ≡ g i)
    → sum_by f (range_with_len from n) ≡ sum_by g (range_with_len from n)
sum_alike f g from zero each = refl
sum_alike f g from (suc n) each =
    let rest = sum_alike f g (from + 1) n (λ i low high. each i (omega (arith, low)) (omega (arith, high))) in
    let here = each from (omega arith) (omega arith) in
    omega (
      arith,
      rest,
      here,
      sum_by-cons f from (range_with_len (from + 1) n),
      sum_by-cons g from (range_with_len (from + 1) n),
    )

-- ---- the pages of a span

pub whole_first : (span : Bounds) → is_whole_pages span ≡ true → span.first % 4096 ≡ 0
whole_first span whole = eqb-true _ _ (and_parts (eqb (span.first % 4096) 0) (eqb (span.last % 4096) 4095) whole).0

pub whole_last : (span : Bounds) → is_whole_pages span ≡ true → span.last % 4096 ≡ 4095
whole_last span whole = eqb-true _ _ (and_parts (eqb (span.first % 4096) 0) (eqb (span.last % 4096) 4095) whole).1

-- so many after the first
abbrev pub further : Bounds → ℕ
further span = page_of span.last - page_of span.first

pub pages_are : (span : Bounds) → is_whole_pages span ≡ true → span.first ≤ span.last
    → pages_in span ≡ range_with_len (page_of span.first) (suc (further span))
pages_are span whole order =
    let first = whole_first span whole in
    let last = whole_last span whole in
    let count : size_of span / 4096 ≡ suc (further span) = omega (arith, first, last, order) in
    ap (range_with_len (page_of span.first)) count

pub last_page : (span : Bounds) → span.first ≤ span.last → page_of span.first + further span ≡ page_of span.last
last_page span order = omega (arith, order)

-- ---- no table lies before the first one

none_before : (level : ℕ) (place : TablePlace) → ltb place.first (0 * 2 ^ (9 * level + 12)) ≡ false
none_before level place = le-ltb _ _ (omega arith)

pub before_none : (there : TablePlace → Bool) (level : ℕ) (pages : List ℕ)
    → lacked_at (or_before there level 0) pages level ≡ lacked_at there pages level
before_none there level pages =
    ap (λ (ps : List TablePlace). length ps)
    (lacking_same (or_before there level 0) there (map (place_at level) pages)
    (λ place. ap (λ (b : Bool). there place || b) (none_before level place) ∙ or_false (there place)))
  where
    or_false : (b : Bool) → (b || false) ≡ b
    or_false true = refl
    or_false false = refl

-- ---- one level of one span

module _ (rows : List TableRow) (levels level : ℕ) (span : Bounds) where
  absent_is : (number : ℕ) → is_new (has_row rows) level number ≡ is_absent rows level number
  absent_is number =
      ap (λ (n : ℕ). not (has_row rows (numbered level n))) (sym (number-page level number))
      ∙ ap not (row_there rows level (first_page level number)) ∙ turned (table_at rows level (first_page level number))
    where
      turned : (o : Option FrameNo) → not (is_some o) ≡ is_none o
      turned None = refl
      turned (Some frame) = refl

  window : (number : ℕ) → (list_any (goes_through level number) (span ∷ []) && is_absent rows level number) ≡ in_window
      (is_absent rows level) (number_at level (page_of span.first)) (number_at level (page_of span.last) + 1) number
  unfolding in_window
  window number =
      by_test (is_absent rows level number) (number_at level (page_of span.first)) (number_at level (page_of span.last))
    where
      by_test : (a : Bool) (lo hi : ℕ) → ((leb lo number && leb number hi || false)
          && a) ≡ ((leb lo number && ltb number (hi + 1)) && a)
      by_test a lo hi = grind (arith, nat_tests)

  pub level_needs : is_whole_pages span ≡ true → span.first ≤ span.last
      → number_at level (page_of span.last) < 2 ^ (9 * (levels - level))
      → needed_at rows levels level (span ∷ []) ≡ lacked_at (has_row rows) (pages_in span) level
  unfolding needed_at
  level_needs whole order end =
      let lo = number_at level (page_of span.first) in
      let hi = number_at level (page_of span.last) + 1 in
      let grown = number_grows level span.first span.last order in
      let fits : min (2 ^ (9 * (levels - level))) hi ≡ hi = omega (arith, end) in
      let begin : lo ≡ max 0 lo = omega arith in
      let all = pages_of_level (has_row rows) level 0 (further span) (page_of span.first) [] (omega arith) tt in
      let behind : count_by (is_new (has_row rows) level) (range_with_len lo (hi - lo))
      + 0 ≡ count_by (is_new (has_row rows) level) (range_with_len lo (hi - lo)) = omega arith in
      count_alike _ (in_window (is_absent rows level) lo hi) (range_with_len 0 (2 ^ (9 * (levels - level)))) window
      ∙ count_window (is_absent rows level) lo hi (2 ^ (9 * (levels - level))) (omega (arith, grown))
      ∙ ap (λ (n : ℕ). count_by (is_absent rows level) (range_with_len lo (n - lo))) fits
      ∙ count_alike (is_absent rows level) (is_new (has_row rows) level) (range_with_len lo (hi - lo))
      (λ n. sym (absent_is n))
      ∙ sym
      (ap (λ (ps : List ℕ). lacked_at (has_row rows) ps level) (pages_are span whole order
      ∙ sym (append-nil (range_with_len (page_of span.first) (suc (further span)))))
      ∙ sym (before_none (has_row rows) level (range_with_len (page_of span.first) (suc (further span)) ++ []))
      ∙ all
      ∙ ap (λ (page : ℕ). count_by (is_new (has_row rows) level)
      (range_with_len (max 0 lo) (number_at level page + 1 - max 0 lo)) + 0) (last_page span order)
      ∙ ap (λ (m : ℕ). count_by (is_new (has_row rows) level) (range_with_len m (hi - m)) + 0) (sym begin)
      ∙ behind)

-- ---- all levels

pub span_needs : (rows : List TableRow) (width : Width) (span : Bounds) → IsOfPages width span → span.first ≤ span.last
    → needed rows (levels_of width) (span ∷ []) ≡ length (lacked rows (levels_of width) (pages_in span))
span_needs rows width span fits order =
    sum_alike (λ level. needed_at rows (levels_of width) level (span ∷ []))
    (lacked_at (has_row rows) (pages_in span)) 1 (levels_of width - 1)
    (λ level some few. level_needs rows (levels_of width) level span fits.whole order
    (number_below width level span.last (omega (arith, few)) fits.below))
    ∙ sym (by_levels (has_row rows) (pages_in span) (levels_of width - 1))
