-- Pages of a span that lie in areas, run after run.
use Rattle.std.proofs.Common.{◌≡◌, ℕ, zero, suc, ◌+◌, ◌*◌, ◌-◌, ◌≤◌, ◌<◌, Bool, true, false, ◌||◌, not, List, [], ◌∷◌, map}
use Rattle.std.proofs.Common.{◌/◌, Option, Some, None, is_some, length, get_or, inl, inr, refl, sym, ap, subst, ◌∙◌, arith}
use Rattle.std.specs.List.{list_any, range_with_len}
use Rattle.iofd_rows.proofs.Each.{IsIn, in_kept, of_any}
use Rattle.iofd_words.specs.Accesses.{has_gap}
use Rattle.iofd_words.specs.Areas.{areas_of, is_of}
use Rattle.iofd_words.specs.Bounds.{Bounds}
use Rattle.iofd_words.specs.Span.{lies_in, size_of, span_from}
use Rattle.iofd_words.specs.declared.numbers.FileNo.{FileNo}
use Rattle.iofd_words.specs.declared.numbers.ObjId.{ObjId}
use Rattle.iofd_words.specs.declared.rows.Area.{Area}
use Rattle.journal_audit_maps.specs.Gaps.{Reaches, is_page_in}

-- some page lies in no area, from this one on, of so many
abbrev pub gap_from : List Area → ℕ → ℕ → ℕ → Bool
gap_from areas first from count =
    list_any (λ i. not (list_any (is_page_in first i) areas)) (range_with_len from count)

-- pages that lie in areas are passed over
passed_by : (areas : List Area) (first : ℕ) (k from count : ℕ)
    → ((n : ℕ) → from ≤ n → n < from + k → list_any (is_page_in first n) areas ≡ true)
    → gap_from areas first from (count - from) ≡ gap_from areas first (from + k) (count - (from + k))
passed_by areas first zero from count inside =
    let same : from + 0 ≡ from = omega arith in
    rw same refl
passed_by areas first (suc k) from count inside =
    by_size (count - from) refl (passed_by areas first k (from + 1) count
    (λ n low high. inside n (omega (arith, low)) (omega (arith, high))))
  where
    by_size : (c : ℕ) → count - from ≡ c
        → gap_from areas first (from + 1) (count - (from + 1))
        ≡ gap_from areas first (from + 1 + k) (count - (from + 1 + k))
        → gap_from areas first from (count - from) ≡ gap_from areas first (from + suc k) (count - (from + suc k))
    by_size zero is rest =
        let gone : count - (from + suc k) ≡ 0 = omega (arith, is) in rw (is, gone) refl
    by_size (suc c) is rest =
        let size : count - (from + 1) ≡ c = omega (arith, is) in
        let moved : from + 1 + k ≡ from + suc k = omega arith in
        ap (gap_from areas first from) is
        ∙ ap (λ (b : Bool). not b || gap_from areas first (from + 1) c) (inside from (omega arith) (omega arith))
        ∙ ap (gap_from areas first (from + 1)) (sym size)
        ∙ rest
        ∙ ap (λ (n : ℕ). gap_from areas first n (count - n)) moved

pub passed : (areas : List Area) (first from next count : ℕ) (gap : Bool) → from < next
    → ((n : ℕ) → from ≤ n → n < next → list_any (is_page_in first n) areas ≡ true)
    → gap ≡ gap_from areas first from (count - from) → gap ≡ gap_from areas first next (count - next)
passed areas first from next count gap low inside is =
    let all : from + (next - from) ≡ next = omega (arith, low) in
    is ∙ passed_by areas first (next - from) from count (λ n begin high. inside n begin (omega (arith, high, low)))
    ∙ ap (λ (n : ℕ). gap_from areas first n (count - n)) all

-- all pages of the span
pub gap_begins : (areas : List Area) (span : Bounds) (count : ℕ) → count ≡ size_of span / 4096
    → has_gap span areas ≡ gap_from areas span.first 0 (count - 0)
gap_begins areas span count is =
    let all : size_of span / 4096 ≡ count - 0 = omega (arith, is) in
    any_map (λ page. not (list_any (λ (area : Area). lies_in page area.span) areas))
    (λ i. span_from (span.first + 4096 * i) 4096) (range_with_len 0 (size_of span / 4096))
    ∙ ap (gap_from areas span.first 0) all
  where
    any_map : (p : Bounds → Bool) (f : ℕ → Bounds) (ns : List ℕ) → list_any p (map f ns) ≡ list_any (λ n. p (f n)) ns
    any_map p f [] = refl
    any_map p f (n ∷ ns) = ap (λ (b : Bool). p (f n) || b) (any_map p f ns)

-- none is left
pub gap_over : (areas : List Area) (first index count : ℕ) (gap : Bool) → count ≤ index
    → gap ≡ gap_from areas first index (count - index) → false ≡ gap
gap_over areas first index count gap over is =
    let none : count - index ≡ 0 = omega (arith, over) in
    sym (is ∙ ap (gap_from areas first index) none)

pub gap_here : (areas : List Area) (first index count : ℕ) (gap : Bool) (next : Option ℕ) → index < count
    → next ≡ None → Reaches (λ i. list_any (is_page_in first i) areas) index next
    → gap ≡ gap_from areas first index (count - index) → true ≡ gap
gap_here areas first index count gap next within none reach is =
    let some : count - index ≡ suc (count - (index + 1)) = omega (arith, within) in
    let out = subst (Reaches (λ i. list_any (is_page_in first i) areas) index) none reach in
    sym (is ∙ ap (gap_from areas first index) some
    ∙ ap (λ (b : Bool). not b || gap_from areas first (index + 1) (count - (index + 1))) out)

pub gap_passed : (areas : List Area) (first index count : ℕ) (gap : Bool) (reached : Option ℕ) (next : ℕ)
    → reached ≡ Some next → Reaches (λ i. list_any (is_page_in first i) areas) index reached
    → gap ≡ gap_from areas first index (count - index) → (index < next) × (gap ≡ gap_from areas first next (count - next))
gap_passed areas first index count gap reached next some reach is =
    let on = subst (Reaches (λ i. list_any (is_page_in first i) areas) index) some reach in
    (on.0, passed areas first index next count gap on.0 on.1 is)

pub told_of : (told first : ℕ) (areas : List Area) (index : ℕ) (next : Option ℕ) → told ≡ first
    → Reaches (λ i. list_any (is_page_in told i) areas) index next
    → Reaches (λ i. list_any (is_page_in first i) areas) index next
told_of told first areas index next same reach =
    subst (λ (f : ℕ). Reaches (λ i. list_any (is_page_in f i) areas) index next) same reach

-- ---- in one of several areas

in_at : (areas : List Area) (k : ℕ) (d : Area) → k < length areas → IsIn areas (get_or areas k d)
in_at [] k d within = absurd (omega (arith, within))
in_at (a ∷ areas) zero d within = inl refl
in_at (a ∷ areas) (suc k) d within = inr (in_at areas k d (omega (arith, within)))

pub reached_so : (areas : List Area) (file : FileNo) (ioas : ObjId) (first index k : ℕ) (area : Area) (own : Bool)
    (next : Option ℕ) → k < length areas → area ≡ get_or areas k area → own ≡ is_of file ioas area → own ≡ true
    → is_some next ≡ true → Reaches (λ i. is_page_in first i area) index next
    → Reaches (λ i. list_any (is_page_in first i) (areas_of areas file ioas)) index next
reached_so areas file ioas first index k area own None within at is mine some reach = cc
reached_so areas file ioas first index k area own (Some next) within at is mine some reach = (
  reach.0,
  λ n low high. of_any (is_page_in first n) (areas_of areas file ioas) area
      (in_kept (is_of file ioas) areas area (subst (IsIn areas) (sym at) (in_at areas k area within))
      (sym is ∙ mine)) (reach.1 n low high),
)
