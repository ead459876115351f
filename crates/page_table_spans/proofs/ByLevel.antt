-- The tables that pages lack, counted level by level.
use Rattle.std.proofs.Common.{◌≡◌, ℕ, zero, suc, ◌+◌, ◌-◌, ◌<◌, Bool, true, cond, eqb, not, List, [], ◌∷◌, ◌++◌, length}
use Rattle.std.proofs.Common.{map, refl, sym, ◌∙◌, ap, arith}
use Rattle.std.specs.List.{filter, flat_map, range_with_len, sum_by}
use Rattle.std.proofs.lemmas.Bool.{and_parts, eq-eqb, eqb-true, ne_eqb}
use Rattle.std.proofs.lemmas.List.Elements.{filter-append}
use Rattle.std.proofs.lemmas.List.Concat.{flat_map-cons}
use Rattle.iofd_words.specs.TablePlaces.{TablePlace, is_place, lacking, places_from}
use Rattle.page_table_words.proofs.Needs.{sum_range_more}
use Rattle.page_table_spans.specs.Levels.{place_at}
use Rattle.page_table_spans.proofs.Lacking.{kinds_apart}

-- the table is of this level
abbrev pub is_of_level : ℕ → TablePlace → Bool
is_of_level level place = eqb place.level level

same_level : (level : ℕ) (a b : TablePlace) → is_place a b ≡ true → is_of_level level a ≡ is_of_level level b
same_level level a b same = ap (λ (n : ℕ). eqb n level)
    (eqb-true a.level b.level (and_parts (eqb a.level b.level) (eqb a.first b.first) same).0)

-- ---- one page

none_of_level : (level n page : ℕ) → n < level → filter (is_of_level level) (places_from n page) ≡ []
none_of_level level zero page low = refl
none_of_level level (suc n) page low =
    ap (λ (b : Bool). cond b (place_at (suc n) page ∷ filter (is_of_level level) (places_from n page))
    (filter (is_of_level level) (places_from n page))) (ne_eqb (suc n) level (omega (arith, low)))
    ∙ none_of_level level n page (omega (arith, low))

all_of_others : (level n page : ℕ) → n < level
    → filter (λ p. not (is_of_level level p)) (places_from n page) ≡ places_from n page
all_of_others level zero page low = refl
all_of_others level (suc n) page low =
    ap (λ (b : Bool). cond (not b) (place_at (suc n) page
    ∷ filter (λ p. not (is_of_level level p)) (places_from n page)) (filter (λ p. not (is_of_level level p))
    (places_from n page))) (ne_eqb (suc n) level (omega (arith, low)))
    ∙ ap (λ (ps : List TablePlace). place_at (suc n) page ∷ ps) (all_of_others level n page (omega (arith, low)))

-- ---- all pages

module _ (n : ℕ) where
  upper : (page : ℕ) → filter (is_of_level (suc n)) (places_from (suc n) page) ≡ place_at (suc n) page ∷ []
  upper page =
      ap (λ (b : Bool). cond b (place_at (suc n) page ∷ filter (is_of_level (suc n)) (places_from n page))
      (filter (is_of_level (suc n)) (places_from n page))) (eq-eqb (suc n) (suc n) refl)
      ∙ ap (λ (ps : List TablePlace). place_at (suc n) page ∷ ps) (none_of_level (suc n) n page (omega arith))

  lower : (page : ℕ) → filter (λ p. not (is_of_level (suc n) p)) (places_from (suc n) page) ≡ places_from n page
  lower page =
      ap (λ (b : Bool). cond (not b) (place_at (suc n) page
      ∷ filter (λ p. not (is_of_level (suc n) p)) (places_from n page)) (filter
      (λ p. not (is_of_level (suc n) p)) (places_from n page))) (eq-eqb (suc n) (suc n) refl)
      ∙ all_of_others (suc n) n page (omega arith)

  uppers : (pages : List ℕ) → filter (is_of_level (suc n)) (flat_map (places_from (suc n)) pages) ≡ map
      (place_at (suc n)) pages
  uppers [] = refl
  uppers (page ∷ pages) =
      ap (filter (is_of_level (suc n))) (flat_map-cons (places_from (suc n)) page pages)
      ∙ filter-append (is_of_level (suc n)) (places_from (suc n) page) (flat_map (places_from (suc n)) pages)
      ∙ ap (λ (ps : List TablePlace). ps ++ filter (is_of_level (suc n)) (flat_map (places_from (suc n)) pages))
      (upper page)
      ∙ ap (λ (ps : List TablePlace). place_at (suc n) page ∷ ps) (uppers pages)

  lowers : (pages : List ℕ) → filter (λ p. not (is_of_level (suc n) p)) (flat_map (places_from (suc n)) pages)
      ≡ flat_map (places_from n) pages
  lowers [] = refl
  lowers (page ∷ pages) =
      ap (filter (λ p. not (is_of_level (suc n) p))) (flat_map-cons (places_from (suc n)) page pages)
      ∙ filter-append (λ p. not (is_of_level (suc n) p)) (places_from (suc n) page)
      (flat_map (places_from (suc n)) pages)
      ∙ ap (λ (ps : List TablePlace). ps ++ filter (λ p. not (is_of_level (suc n) p))
      (flat_map (places_from (suc n)) pages)) (lower page)
      ∙ ap (λ (ps : List TablePlace). places_from n page ++ ps) (lowers pages)
      ∙ sym (flat_map-cons (places_from n) page pages)

no_places : (pages : List ℕ) → flat_map (places_from 0) pages ≡ []
no_places [] = refl
no_places (page ∷ pages) = flat_map-cons (places_from 0) page pages ∙ no_places pages

-- how many of a level's tables are lacked
abbrev pub lacked_at : (TablePlace → Bool) → List ℕ → ℕ → ℕ
lacked_at there pages level = length (lacking there (map (place_at level) pages))

pub by_levels : (there : TablePlace → Bool) (pages : List ℕ) (n : ℕ)
    → length (lacking there (flat_map (places_from n) pages)) ≡ sum_by (lacked_at there pages) (range_with_len 1 n)
by_levels there pages zero = ap (λ (ps : List TablePlace). length (lacking there ps)) (no_places pages)
by_levels there pages (suc n) =
    let apart = kinds_apart (is_of_level (suc n)) (same_level (suc n)) there (flat_map (places_from (suc n)) pages) in
    let up = ap (λ (ps : List TablePlace). length (lacking there ps)) (uppers n pages) in
    let low = ap (λ (ps : List TablePlace). length (lacking there ps)) (lowers n pages) in
    let less : n ≡ suc n - 1 = omega arith in
    let sum = sum_range_more (lacked_at there pages) (suc n) (length (lacking there (flat_map (places_from n) pages)))
    (lacked_at there pages (suc n)) (omega arith) (by_levels there pages n
    ∙ ap (λ (k : ℕ). sum_by (lacked_at there pages) (range_with_len 1 k)) less) refl in
    let all : suc n + 1 - 1 ≡ suc n = omega arith in
    let range = ap (λ (k : ℕ). sum_by (lacked_at there pages) (range_with_len 1 k)) all in
    omega (arith, apart, up, low, sum, range)
