-- Which pages are in a list, and which are those of areas that a page table translates.
use Rattle.std.proofs.Common.{◌≡◌, ℕ, zero, suc, ◌+◌, Bool, true, false, cond, ◌&&◌, ◌||◌, eqb, leb, ltb, List, [], ◌∷◌}
use Rattle.std.proofs.Common.{map, refl, ap, sym, ◌∙◌, arith}
use Rattle.std.specs.List.{filter, flat_map, list_all, list_any, range_with_len}
use Rattle.std.proofs.lemmas.Bool.Decides.{nat_tests}
use Rattle.std.proofs.lemmas.Bool.{eqb-true}
use Rattle.std.proofs.lemmas.List.Folds.{list_any-append}
use Rattle.iofd_words.specs.Areas.{lies_before, with_area}
use Rattle.iofd_words.specs.Objects.{has_hwpt}
use Rattle.iofd_words.specs.Pins.{ObjectPage, is_page, area_pages, pages_from}
use Rattle.iofd_words.specs.declared.rows.Area.{Area}
use Rattle.iofd_words.specs.declared.rows.Object.{Object}
use Rattle.iofd_rows.proofs.Bools.{and_true, both_true, or_false}
use Rattle.iofd_rows.proofs.Inserted.{any-inserted}
use Rattle.iofd_rows.proofs.ListTests.{alike, any-filter, any_weaker, or_left, or_right}

-- ---- one page

pub same_page : (a b : ObjectPage) → is_page a b ≡ true → a ≡ b
same_page a b is =
    let parts = and_true (eqb a.memory b.memory) (eqb a.index b.index) is in
    let memory : a.memory ≡ b.memory = eqb-true a.memory b.memory parts.0 in
    let index : a.index ≡ b.index = eqb-true a.index b.index parts.1 in
    let both : record { memory = a.memory; index = a.index } ≡ record { memory = b.memory; index = b.index } = cc in
    both

pub page_itself : (page : ObjectPage) → is_page page page ≡ true
page_itself page = grind (arith, nat_tests)

-- ---- the pages of a list

pub at_page : (q : ObjectPage → Bool) (pages : List ObjectPage) (page : ObjectPage) → list_all q pages ≡ true
    → list_any (is_page page) pages ≡ true → q page ≡ true
at_page q [] page all within = cc
at_page q (p ∷ pages) page all within =
    let parts = and_true (q p) (list_all q pages) all in
    by_test (is_page page p) refl within parts.0 (at_page q pages page parts.1)
  where
    by_test : (b : Bool) → is_page page p ≡ b → (b || list_any (is_page page) pages) ≡ true → q p ≡ true
        → (list_any (is_page page) pages ≡ true → q page ≡ true) → q page ≡ true
    by_test true is here passes later = let same = same_page page p is in rw same passes
    by_test false is here passes later = later here

pub all_pages : (q : ObjectPage → Bool) (pages : List ObjectPage)
    → ((page : ObjectPage) → list_any (is_page page) pages ≡ true → q page ≡ true) → list_all q pages ≡ true
all_pages q [] each = refl
all_pages q (p ∷ pages) each =
    both_true (q p) (list_all q pages)
    (each p (or_left (is_page p p) (list_any (is_page p) pages) (page_itself p)))
    (all_pages q pages (λ page within. each page (or_right (is_page page p) (list_any (is_page page) pages) within)))

-- the pages that a filter keeps
pub kept_page : (q : ObjectPage → Bool) (pages : List ObjectPage) (page : ObjectPage)
    → list_any (is_page page) (filter q pages) ≡ true → (list_any (is_page page) pages ≡ true) × (q page ≡ true)
kept_page q pages page within =
    let is = sym (any-filter (is_page page) q pages) ∙ within in (
      any_weaker (λ p. q p && is_page page p) (is_page page) pages
          (λ p both. (and_true (q p) (is_page page p) both).1) is,
      at_test pages is,
    )
  where
    at_test : (ps : List ObjectPage) → list_any (λ p. q p && is_page page p) ps ≡ true → q page ≡ true
    at_test [] any = cc
    at_test (p ∷ ps) any = by_test (q p && is_page page p) refl any (at_test ps)
      where
        by_test : (b : Bool) → (q p && is_page page p) ≡ b → (b || list_any (λ p. q p && is_page page p) ps) ≡ true
            → (list_any (λ p. q p && is_page page p) ps ≡ true → q page ≡ true) → q page ≡ true
        by_test true is here later =
            let parts = and_true (q p) (is_page page p) is in let same = same_page page p parts.1 in rw same parts.0
        by_test false is here later = later here

pub page_kept : (q : ObjectPage → Bool) (pages : List ObjectPage) (page : ObjectPage)
    → list_any (is_page page) pages ≡ true → q page ≡ true → list_any (is_page page) (filter q pages) ≡ true
page_kept q pages page within passes =
    any-filter (is_page page) q pages
    ∙ any_weaker (is_page page) (λ p. q p && is_page page p) pages
    (λ p is. let same = same_page page p is in both_true (q p) (is_page page p) (ap q (sym same) ∙ passes) is)
    within

-- ---- the pages of areas that a page table translates

-- those of each area, one area after the other
abbrev pub pages_by_area : List Object → List Area → List ObjectPage
pages_by_area objects areas = flat_map (λ area. cond (has_hwpt objects area.file area.ioas) (area_pages area) []) areas

-- the page is one of an area with a page table
abbrev pub pins_page : List Object → ObjectPage → Area → Bool
pins_page objects page area = has_hwpt objects area.file area.ioas && list_any (is_page page) (area_pages area)

pub any-if : (page : ObjectPage) (pages : List ObjectPage) (b : Bool)
    → list_any (is_page page) (cond b pages []) ≡ (b && list_any (is_page page) pages)
any-if page pages true = refl
any-if page pages false = refl

pub any-pinned : (objects : List Object) (areas : List Area) (page : ObjectPage)
    → list_any (is_page page) (pages_by_area objects areas) ≡ list_any (pins_page objects page) areas
any-pinned objects [] page = refl
any-pinned objects (area ∷ areas) page =
    list_any-append (is_page page) (cond (has_hwpt objects area.file area.ioas) (area_pages area) [])
    (pages_by_area objects areas)
    ∙ rw (any-if page (area_pages area) (has_hwpt objects area.file area.ioas), any-pinned objects areas page) refl

memory_of_each : (memory : ℕ) (indexes : List ℕ) (page : ObjectPage)
    → list_any (is_page page) (map (λ i. record { memory = memory; index = i }) indexes) ≡ true
    → eqb memory page.memory ≡ true
memory_of_each memory [] page within = cc
memory_of_each memory (i ∷ indexes) page within =
    by_test (eqb page.memory memory && eqb page.index i) refl within (memory_of_each memory indexes page)
  where
    by_test : (b : Bool) → (eqb page.memory memory && eqb page.index i) ≡ b
        → (b || list_any (is_page page) (map (λ i. record { memory = memory; index = i }) indexes)) ≡ true
        → (list_any (is_page page) (map (λ i. record { memory = memory; index = i }) indexes) ≡ true
        → eqb memory page.memory ≡ true) → eqb memory page.memory ≡ true
    by_test true is here later = grind (arith, nat_tests)
    by_test false is here later = later here

-- a page of an area is one of its memory object
pub memory_of_page : (area : Area) (page : ObjectPage) → list_any (is_page page) (area_pages area) ≡ true
    → eqb area.memory page.memory ≡ true
memory_of_page area page within = memory_of_each area.memory _ page within

-- ---- one more area

pub any-with_area : (p : Area → Bool) (x : Area) (areas : List Area)
    → list_any p (with_area x areas) ≡ (p x || list_any p areas)
any-with_area = any-inserted lies_before

-- ---- what a filter keeps, as an equation

pub any_kept : (q : ObjectPage → Bool) (pages : List ObjectPage) (page : ObjectPage)
    → list_any (is_page page) (filter q pages) ≡ (list_any (is_page page) pages && q page)
any_kept q pages page =
    alike _ _
    (λ within. let parts = kept_page q pages page within in both_true _ _ parts.0 parts.1)
    (λ both. let parts = and_true (list_any (is_page page) pages) (q page) both in page_kept q
    pages page parts.0 parts.1)

-- a test that no page passes fails at each
pub no_page : (t : ObjectPage → Bool) (pages : List ObjectPage) (page : ObjectPage) → list_any t pages ≡ false
    → list_any (is_page page) pages ≡ true → t page ≡ false
no_page t [] page none within = cc
no_page t (p ∷ pages) page none within =
    let parts = or_false (t p) (list_any t pages) none in
    by_test (is_page page p) refl within parts.0 (no_page t pages page parts.1)
  where
    by_test : (b : Bool) → is_page page p ≡ b → (b || list_any (is_page page) pages) ≡ true → t p ≡ false
        → (list_any (is_page page) pages ≡ true → t page ≡ false) → t page ≡ false
    by_test true is here fails later = let same = same_page page p is in rw same fails
    by_test false is here fails later = later here

-- the pages of a memory object
pub in_pages : (page : ObjectPage) (number count : ℕ)
    → list_any (is_page page) (pages_from number count) ≡ (eqb page.memory number && ltb page.index count)
in_pages page number count = in_range 0 count
    ∙ (let low : leb 0 page.index ≡ true = search (arith, nat_tests) in let end : 0
    + count ≡ count = omega arith in rw (low, end) refl)
  where
    in_range : (from count : ℕ) → list_any (is_page page)
        (map (λ i. record { memory = number; index = i }) (range_with_len from count)) ≡ (eqb page.memory number
        && (leb from page.index && ltb page.index (from + count)))
    in_range from zero = grind (arith, nat_tests)
    in_range from (suc count) = let rest = in_range (from + 1) count in rw rest (grind (arith, nat_tests))
