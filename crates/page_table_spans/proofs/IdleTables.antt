-- Idle tables of one level, number by number.
use Rattle.std.proofs.Common.{◌≡◌, ◌≢◌, ℕ, ◌+◌, ◌-◌, ◌*◌, ◌/◌, ◌^◌, ◌<◌, ◌≤◌, Bool, true, false, cond, eqb, leb, ltb, not}
use Rattle.std.proofs.Common.{◌&&◌, ◌||◌, Option, Some, None, is_none, List, [], ◌∷◌, length, refl, sym, ◌∙◌, ap}
use Rattle.std.proofs.Common.{subst, arith, ⊎_elim}
use Rattle.std.specs.List.{AllByRecursion, count_by, filter, find, list_any}
use Rattle.std.specs.Option.{option_map}
use Rattle.std.proofs.lemmas.Bool.{and_left, and_parts, and_right, cases_eq, cases_lt, eq-eqb, eqb-true}
use Rattle.std.proofs.lemmas.Bool.{and_from, false≢true, false_from_ne_true, le-leb, le-ltb, leb-true, lt-ltb, ne_eqb}
use Rattle.std.proofs.lemmas.Bool.Decides.{nat_tests}
use Rattle.std.proofs.lemmas.List.Sums.{length-filter}
use Rattle.std.proofs.lemmas.Nat.{div-mul-add, pow-add, pow_pos}
use Rattle.std.proofs.Math.Nat.{div-le_self, div-mul-le_self, lt-div-mul-add, mul-le-mul_right}
use Rattle.iofd_words.specs.Areas.{areas_meet}
use Rattle.iofd_words.specs.Bounds.{Bounds}
use Rattle.iofd_words.specs.Levels.{first_address, levels_of, number_at}
use Rattle.iofd_words.specs.Pages.{page_of}
use Rattle.iofd_words.specs.Span.{meets, span_from}
use Rattle.iofd_words.specs.Width.{bits_of}
use Rattle.iofd_words.specs.declared.numbers.FrameNo.{FrameNo}
use Rattle.iofd_words.specs.declared.rows.Area.{Area}
use Rattle.iofd_words.specs.declared.width.Width.{Width}
use Rattle.iofd_words.specs.declared.width.Width.TheVariants.{Bits39, Bits48, Bits57}
use Rattle.frame_memory.specs.Pool.{FramePool}
use Rattle.page_table_words.specs.Emptied.{IsEmpty, is_numbered, number_of}
use Rattle.page_table_words.specs.Needed.{first_page, is_absent}
use Rattle.page_table_words.specs.Rows.{MappedPage, TableRow, is_table, page_at, table_at}
use Rattle.page_table_words.specs.Stands.{Stands}
use Rattle.page_table_words.proofs.Lookups.{cases_Option, count_none}
use Rattle.page_table_words.proofs.Members.{each_then, filter_alike, find_counted, found_each}
use Rattle.page_table_words.proofs.Numbers.{number-page, same_first}
use Rattle.page_table_words.proofs.RowsUnder.{IsPlaced, all_placed}
use Rattle.area_map_rows.specs.Areas.{areas_outside, areas_within}
use Rattle.page_table.proofs.Cutting.{row_number}
use Rattle.page_table.proofs.Parting.{count_never, count_split}
use Rattle.page_table.proofs.Wanted.{up_same}
use Rattle.page_table_spans.proofs.IdleAreas.{met_within, parted}
use Rattle.page_table_spans.proofs.Shedding.{both_each, none_any}
use Rattle.page_table_spans.specs.Idle.{MayShed, is_idle, is_idle_at, is_idle_between, span_at, span_of_page, span_of_row}

-- ---- counts

pub count_alike : {X : Type 0} (p q : X → Bool) (xs : List X) → AllByRecursion (λ x. p x ≡ q x) xs
    → count_by p xs ≡ count_by q xs
count_alike p q xs all =
    sym (length-filter p xs) ∙ ap (λ (ys : List _). length ys) (filter_alike p q xs all) ∙ length-filter q xs

-- ---- one row

-- a row that stands where it begins has the addresses of its number
row_span : (rows : List TableRow) (row : TableRow) → IsPlaced rows row → span_of_row row ≡ span_at row.level (number_of row)
row_span rows row placed = ap (λ (first : ℕ). span_from first (2 ^ (9 * row.level + 12))) placed.first

-- the row is of an idle table of this number
abbrev pub is_idle_one : ℕ → List Area → ℕ → ℕ → TableRow → Bool
is_idle_one levels areas level number row = is_idle_at levels areas level row && eqb (number_of row) number

pub one_told : (levels : ℕ) (areas : List Area) (level number : ℕ) (rows : List TableRow) (row : TableRow)
    → level < levels → IsPlaced rows row
    → is_idle_one levels areas level number row
    ≡ (not (areas_meet (span_at level number) areas) && is_numbered level number row)
one_told levels areas level number rows row low placed =
    ⊎_elim
    (λ (same : row.level ≡ level).
    ⊎_elim
    (λ (is : number_of row ≡ number).
    let span : span_of_row row ≡ span_at level number =
    row_span rows row placed ∙ ap (λ (k : ℕ). span_at k (number_of row)) same ∙ ap (span_at level) is in
    let other : eqb row.level levels ≡ false = ne_eqb row.level levels (λ top. absurd (omega (arith, same, low, top))) in
    let here : eqb row.level level ≡ true = eq-eqb row.level level same in
    let numbered : eqb (number_of row) number ≡ true = eq-eqb (number_of row) number is in
    all_true (eqb row.level levels) (areas_meet (span_of_row row) areas) (areas_meet (span_at level number) areas)
    (eqb row.level level) (eqb (number_of row) number) other here numbered (ap (λ (b : Bounds). areas_meet b areas) span))
    (λ (differ : number_of row ≢ number).
    let not_it : eqb (number_of row) number ≡ false = ne_eqb (number_of row) number differ in
    and_right (is_idle_at levels areas level row) _ not_it
    ∙ sym (and_right (not (areas_meet (span_at level number) areas)) _ (and_right (eqb row.level level) _ not_it)))
    (cases_eq (number_of row) number))
    (λ (differ : row.level ≢ level).
    let not_it : eqb row.level level ≡ false = ne_eqb row.level level differ in
    and_left (is_idle_at levels areas level row) _ (and_right (is_idle levels areas row) _ not_it)
    ∙ sym (and_right (not (areas_meet (span_at level number) areas)) _ (and_left (eqb row.level level) _ not_it)))
    (cases_eq row.level level)
  where
    all_true : (t m n l k : Bool) → t ≡ false → l ≡ true → k ≡ true → m ≡ n
        → (((not t && not m) && l) && k) ≡ (not n && (l && k))
    all_true t m n l k is_t is_l is_k same = rw (is_t, is_l, is_k, same) (twice (not n))
      where
        twice : (b : Bool) → ((b && true) && true) ≡ (b && true)
        twice true = refl
        twice false = refl

-- ---- one number more

next_numbers : (first m n : ℕ) → first ≤ n → ((leb first m && ltb m (n + 1)) ≡ ((leb first m && ltb m n) || eqb m n))
    × (((leb first m && ltb m n) && eqb m n) ≡ false)
next_numbers first m n low = (grind (arith, nat_tests), grind (arith, nat_tests))

pub next_between : (levels : ℕ) (areas : List Area) (level first n : ℕ) → first ≤ n → (row : TableRow)
    → (is_idle_between levels areas level first (n + 1) row
    ≡ (is_idle_between levels areas level first n row || is_idle_one levels areas level n row))
    × ((is_idle_between levels areas level first n row && is_idle_one levels areas level n row) ≡ false)
next_between levels areas level first n low row =
    let tests = next_numbers first (number_of row) n low in
    spread (is_idle_at levels areas level row) _ _ _ tests.0 tests.1
  where
    spread : (g x a b : Bool) → x ≡ (a || b) → (a && b) ≡ false → ((g && x) ≡ ((g && a) || (g && b)))
        × (((g && a) && (g && b)) ≡ false)
    spread true x a b is apart = (is, apart)
    spread false x a b is apart = (refl, refl)

pub none_between : (levels : ℕ) (areas : List Area) (level first : ℕ) (row : TableRow)
    → is_idle_between levels areas level first first row ≡ false
none_between levels areas level first row =
    let never : (leb first (number_of row) && ltb (number_of row) first) ≡ false =
    nothing first (number_of row) in
    and_right (is_idle_at levels areas level row) _ never
  where
    nothing : (a b : ℕ) → (leb a b && ltb b a) ≡ false
    nothing a b = grind (arith, nat_tests)

-- ---- whether a table is there

module _ (pool : FramePool) (levels : ℕ) (root : FrameNo) (rows : List TableRow) (pages : List MappedPage)
    (stands : Stands pool levels root rows pages) (level number : ℕ) where
  numbered_test : (row : TableRow) → IsPlaced rows row
      → is_numbered level number row ≡ is_table level (first_page level number) row
  numbered_test row placed =
      ⊎_elim
      (λ (same : row.level ≡ level).
      let first : row.first ≡ first_address level (page_of row.first) =
      placed.first ∙ ap (λ (k : ℕ). first_address k (page_of row.first)) same in
      let is : number_of row ≡ number_at level (page_of row.first) =
      ap (λ (k : ℕ). number_at k (page_of row.first)) same in
      ap (λ (b : Bool). eqb row.level level && b)
      (⊎_elim
      (λ (equal : number_of row ≡ number).
      eq-eqb (number_of row) number equal
      ∙ sym (eq-eqb row.first (first_address level (first_page level number))
      (first ∙ ap (λ (n : ℕ). n * 2 ^ (9 * level + 12)) (sym is ∙ equal ∙ sym (number-page level number)))))
      (λ (differ : number_of row ≢ number).
      ne_eqb (number_of row) number differ
      ∙ sym (ne_eqb row.first (first_address level (first_page level number))
      (λ equal. differ (is ∙ same_first level (page_of row.first) (first_page level number) (sym first ∙ equal)
      ∙ number-page level number))))
      (cases_eq (number_of row) number)))
      (λ (differ : row.level ≢ level).
      and_left _ _ (ne_eqb row.level level differ) ∙ sym (and_left _ _ (ne_eqb row.level level differ)))
      (cases_eq row.level level)

  pub numbered_counted : count_by (is_numbered level number) rows ≡ cond (not (is_absent rows level number)) 1 0
  unfolding table_at
  numbered_counted =
      count_alike (is_numbered level number) (is_table level (first_page level number)) rows
      (each_then (IsPlaced rows) (λ row. is_numbered level number row ≡ is_table level (first_page level number) row) rows
      numbered_test (all_placed pool levels root rows pages stands))
      ∙ by_find (find (is_table level (first_page level number)) rows) refl
    where
      by_find : (o : Option TableRow) → find (is_table level (first_page level number)) rows ≡ o
          → count_by (is_table level (first_page level number)) rows
          ≡ cond (not (is_none (option_map (λ (row : TableRow). row.frame) o))) 1 0
      by_find None is = count_none (is_table level (first_page level number)) rows is
      by_find (Some row) is =
          let some = find_counted (is_table level (first_page level number)) rows row is in
          let few = stands.once level (first_page level number) in
          omega (arith, some, few)

  -- how many idle tables of this number there are
  pub one_counted : (areas : List Area) → level < levels
      → count_by (is_idle_one levels areas level number) rows
      ≡ cond (not (areas_meet (span_at level number) areas) && not (is_absent rows level number)) 1 0
  one_counted areas low =
      count_alike (is_idle_one levels areas level number)
      (λ row. not (areas_meet (span_at level number) areas) && is_numbered level number row) rows
      (each_then (IsPlaced rows) (λ row. is_idle_one levels areas level number row
      ≡ (not (areas_meet (span_at level number) areas) && is_numbered level number row)) rows
      (λ row placed. one_told levels areas level number rows row low placed) (all_placed pool levels root rows pages stands))
      ∙ by_test (not (areas_meet (span_at level number) areas))
    where
      by_test : (b : Bool) → count_by (λ row. b && is_numbered level number row) rows
          ≡ cond (b && not (is_absent rows level number)) 1 0
      by_test true = numbered_counted
      by_test false = count_never (λ (row : TableRow). false) rows (λ row. refl)

-- ---- where a table may be

pub end_fits : (width : Width) (level number : ℕ) → level ≤ levels_of width
    → number < 2 ^ (9 * (levels_of width - level)) → (number + 1) * 2 ^ (9 * level) ≤ 2 ^ 45
end_fits width level number few below =
    let all : 9 * (levels_of width - level) + 9 * level ≡ 9 * levels_of width = omega (arith, few) in
    let whole : 2 ^ (9 * (levels_of width - level)) * 2 ^ (9 * level) ≡ 2 ^ (9 * levels_of width) =
    sym (pow-add 2 (9 * (levels_of width - level)) (9 * level)) ∙ ap (λ (k : ℕ). 2 ^ k) all in
    let less = mul-le-mul_right {m = number + 1} {n = 2 ^ (9 * (levels_of width - level))} (2 ^ (9 * level)) (omega (arith, below)) in
    omega (arith, less, whole, most width)
  where
    most : (w : Width) → 2 ^ (9 * levels_of w) ≤ 2 ^ 45
    most Bits39 = omega arith
    most Bits48 = omega arith
    most Bits57 = omega arith

-- ---- tables of areas that go

-- what no area goes through any more areas in the span went through
needed_number : (levels : ℕ) (areas : List Area) (span : Bounds) (level : ℕ) (rows : List TableRow) (row : TableRow)
    → IsPlaced rows row → is_idle levels areas row ≡ false
    → is_idle_at levels (areas_outside span areas) level row ≡ true
    → areas_meet (span_at level (number_of row)) (areas_within span areas) ≡ true
needed_number levels areas span level rows row placed needed idle =
    let parts = and_parts (is_idle levels (areas_outside span areas) row) (eqb row.level level) idle in
    let both = and_parts (not (eqb row.level levels)) (not (areas_meet (span_of_row row) (areas_outside span areas))) parts.0 in
    let same = eqb-true row.level level parts.1 in
    let here : span_of_row row ≡ span_at level (number_of row) =
    row_span rows row placed ∙ ap (λ (k : ℕ). span_at k (number_of row)) same in
    let met = met_before (not (eqb row.level levels)) (areas_meet (span_of_row row) areas) both.0 needed in
    subst (λ (t : Bounds). areas_meet t (areas_within span areas) ≡ true) here
    (met_within (span_of_row row) span areas met (is_false _ both.1))
  where
    met_before : (a b : Bool) → a ≡ true → (a && not b) ≡ false → b ≡ true
    met_before a true is none = refl
    met_before a false is none = absurd (false≢true (sym none ∙ ap (λ (x : Bool). x && true) is))

    is_false : (b : Bool) → not b ≡ true → b ≡ false
    is_false false is = refl
    is_false true is = absurd (false≢true is)

windows : (m next first after : ℕ) → next ≤ first → first ≤ after → (next ≤ m → first ≤ m)
    → (leb 0 m && ltb m after) ≡ ((leb 0 m && ltb m next) || (leb first m && ltb m after))
windows m next first after low high jump =
    ⊎_elim
    (λ (before : m < next). grind (arith, nat_tests))
    (λ (behind : next ≤ m). let far = jump behind in grind (arith, nat_tests))
    (cases_lt m next)

module _ (levels : ℕ) (areas : List Area) (span : Bounds) (level : ℕ) (rows : List TableRow) (row : TableRow)
    (placed : IsPlaced rows row) (needed : is_idle levels areas row ≡ false) where
  -- those before the next number, and those from the first on that is behind it
  pub more_between : (next first after : ℕ) → next ≤ first → first ≤ after
      → ((n : ℕ) → next ≤ n → areas_meet (span_at level n) (areas_within span areas) ≡ true → first ≤ n)
      → is_idle_between levels (areas_outside span areas) level 0 after row
      ≡ (is_idle_between levels (areas_outside span areas) level 0 next row
      || is_idle_between levels (areas_outside span areas) level first after row)
  more_between next first after low high gap = by_test (is_idle_at levels (areas_outside span areas) level row) refl
    where
      by_test : (g : Bool) → is_idle_at levels (areas_outside span areas) level row ≡ g
          → (g && (leb 0 (number_of row) && ltb (number_of row) after))
          ≡ ((g && (leb 0 (number_of row) && ltb (number_of row) next))
          || (g && (leb first (number_of row) && ltb (number_of row) after)))
      by_test false is = refl
      by_test true is = windows (number_of row) next first after low high
          (λ from. gap (number_of row) from (needed_number levels areas span level rows row placed needed is))

  -- all of the level, where no area is left behind the next number
  pub all_between : (next : ℕ)
      → ((n : ℕ) → next ≤ n → areas_meet (span_at level n) (areas_within span areas) ≡ true → ⊥)
      → is_idle_at levels (areas_outside span areas) level row
      ≡ is_idle_between levels (areas_outside span areas) level 0 next row
  all_between next none = by_test (is_idle_at levels (areas_outside span areas) level row) refl
    where
      within : (m : ℕ) → m < next → true ≡ (leb 0 m && ltb m next)
      within m low = grind (arith, nat_tests)

      by_test : (g : Bool) → is_idle_at levels (areas_outside span areas) level row ≡ g
          → g ≡ (g && (leb 0 (number_of row) && ltb (number_of row) next))
      by_test false is = refl
      by_test true is =
          ⊎_elim (λ (low : number_of row < next). within (number_of row) low)
          (λ (behind : next ≤ number_of row).
          absurd (none (number_of row) behind (needed_number levels areas span level rows row placed needed is)))
          (cases_lt (number_of row) next)

-- windows are apart
pub between_apart : (levels : ℕ) (left : List Area) (level next first after : ℕ) → next ≤ first → (row : TableRow)
    → (is_idle_between levels left level 0 next row && is_idle_between levels left level first after row) ≡ false
between_apart levels left level next first after low row =
    spread (is_idle_at levels left level row) _ _ (apart (number_of row) next first after low)
  where
    spread : (g a b : Bool) → (a && b) ≡ false → ((g && a) && (g && b)) ≡ false
    spread true a b is = is
    spread false a b is = refl

    apart : (m next first after : ℕ) → next ≤ first
        → ((leb 0 m && ltb m next) && (leb first m && ltb m after)) ≡ false
    apart m next first after low = grind (arith, nat_tests)

pub sum_between : (levels : ℕ) (left : List Area) (level next first after : ℕ) (rows : List TableRow) → next ≤ first
    → AllByRecursion (λ row. is_idle_between levels left level 0 after row
    ≡ (is_idle_between levels left level 0 next row || is_idle_between levels left level first after row)) rows
    → count_by (is_idle_between levels left level 0 after) rows
    ≡ count_by (is_idle_between levels left level 0 next) rows + count_by (is_idle_between levels left level first after) rows
sum_between levels left level next first after rows low all =
    count_alike (is_idle_between levels left level 0 after)
    (λ row. is_idle_between levels left level 0 next row || is_idle_between levels left level first after row) rows all
    ∙ count_split (λ row. is_idle_between levels left level 0 next row || is_idle_between levels left level first after row)
    (is_idle_between levels left level 0 next) (is_idle_between levels left level first after) rows
    (λ row. (refl, between_apart levels left level next first after low row))

-- each row stands where it begins, and isn't idle
pub needed_each : (pool : FramePool) (levels : ℕ) (root : FrameNo) (rows : List TableRow) (pages : List MappedPage)
    (areas : List Area) → Stands pool levels root rows pages → list_any (is_idle levels areas) rows ≡ false
    → AllByRecursion (λ row. IsPlaced rows row × (is_idle levels areas row ≡ false)) rows
needed_each pool levels root rows pages areas stands none =
    both_each (IsPlaced rows) (λ row. is_idle levels areas row ≡ false) rows
    (all_placed pool levels root rows pages stands) (none_any (is_idle levels areas) rows none)

-- ---- levels

-- the row is of an idle table below this level
abbrev pub is_idle_below : ℕ → List Area → ℕ → TableRow → Bool
is_idle_below levels areas level row = is_idle levels areas row && ltb row.level level

next_levels : (l level : ℕ) → (ltb l (level + 1) ≡ (ltb l level || eqb l level)) × ((ltb l level && eqb l level) ≡ false)
next_levels l level = (grind (arith, nat_tests), grind (arith, nat_tests))

pub next_level : (levels : ℕ) (left : List Area) (level : ℕ) (row : TableRow)
    → (is_idle_below levels left (level + 1) row ≡ (is_idle_below levels left level row || is_idle_at levels left level row))
    × ((is_idle_below levels left level row && is_idle_at levels left level row) ≡ false)
next_level levels left level row =
    let tests = next_levels row.level level in
    spread (is_idle levels left row) _ _ _ tests.0 tests.1
  where
    spread : (g x a b : Bool) → x ≡ (a || b) → (a && b) ≡ false → ((g && x) ≡ ((g && a) || (g && b)))
        × (((g && a) && (g && b)) ≡ false)
    spread true x a b is apart = (is, apart)
    spread false x a b is apart = (refl, refl)

module _ (pool : FramePool) (levels : ℕ) (root : FrameNo) (rows : List TableRow) (pages : List MappedPage)
    (stands : Stands pool levels root rows pages) (left : List Area) where
  pub none_lowest : AllByRecursion (λ row. is_idle_below levels left 1 row ≡ false) rows
  none_lowest =
      each_then (IsPlaced rows) (λ row. is_idle_below levels left 1 row ≡ false) rows
      (λ row placed.
      let some = (stands.level row.level (page_of row.first) row.frame placed.found).0 in
      and_right (is_idle levels left row) _ (le-ltb row.level 1 (omega (arith, some))))
      (all_placed pool levels root rows pages stands)

  pub all_levels : (level : ℕ) → levels ≤ level
      → AllByRecursion (λ row. is_idle levels left row ≡ is_idle_below levels left level row) rows
  all_levels level high =
      each_then (IsPlaced rows) (λ row. is_idle levels left row ≡ is_idle_below levels left level row) rows
      (λ row placed.
      let few = (stands.level row.level (page_of row.first) row.frame placed.found).1 in
      below row.level (areas_meet (span_of_row row) left) few)
      (all_placed pool levels root rows pages stands)
    where
      below : (l : ℕ) (m : Bool) → l ≤ levels
          → (not (eqb l levels) && not m) ≡ ((not (eqb l levels) && not m) && ltb l level)
      below l m few =
          ⊎_elim
          (λ (top : l ≡ levels). let is : eqb l levels ≡ true = eq-eqb l levels top in rw is refl)
          (λ (low : l ≢ levels). let is : ltb l level ≡ true = lt-ltb l level (omega (arith, few, low, high)) in
          rw is (with_true (not (eqb l levels) && not m)))
          (cases_eq l levels)
        where
          with_true : (b : Bool) → b ≡ (b && true)
          with_true true = refl
          with_true false = refl

pub none_left : {X : Type 0} (p : X → Bool) (xs : List X) → list_any p (filter (λ x. not (p x)) xs) ≡ false
none_left p [] = refl
none_left p (x ∷ xs) = by_test (p x) refl (none_left p xs)
  where
    by_test : (b : Bool) → p x ≡ b → list_any p (filter (λ y. not (p y)) xs) ≡ false
        → list_any p (cond (not b) (x ∷ filter (λ y. not (p y)) xs) (filter (λ y. not (p y)) xs)) ≡ false
    by_test true is rest = rest
    by_test false is rest = ap (λ (c : Bool). c || list_any p (filter (λ y. not (p y)) xs)) is ∙ rest

-- ---- a table that nothing goes through

-- a table's addresses hold those of a page that goes through it
pub page_inside : (level page : ℕ) → ((span_at level (number_at level page)).first ≤ page * 4096)
    × (page * 4096 + 4095 ≤ (span_at level (number_at level page)).last)
unfolding number_at
page_inside level page =
    let whole : 2 ^ (9 * level + 12) ≡ 2 ^ (9 * level) * 4096 = pow-add 2 (9 * level) 12 in
    let some = pow_pos (9 * level) in
    let front = div-mul-le_self page (2 ^ (9 * level)) in
    let back = lt-div-mul-add {a = page} {b = 2 ^ (9 * level)} some in
    let moved : page / 2 ^ (9 * level) * 2 ^ (9 * level + 12) ≡ page / 2 ^ (9 * level) * 2 ^ (9 * level) * 4096 =
    ap (λ (n : ℕ). page / 2 ^ (9 * level) * n) whole ∙ parted (page / 2 ^ (9 * level)) (2 ^ (9 * level)) in
    (omega (arith, moved, front), omega (arith, moved, whole, back))

meets_wider : (inner outer : Bounds) (areas : List Area) → outer.first ≤ inner.first → inner.last ≤ outer.last
    → areas_meet inner areas ≡ true → areas_meet outer areas ≡ true
meets_wider inner outer [] first last met = met
meets_wider inner outer (area ∷ areas) first last met = by_test (meets area.span inner) refl met (meets_wider inner outer areas first last)
  where
    by_test : (b : Bool) → meets area.span inner ≡ b → (b || areas_meet inner areas) ≡ true
        → (areas_meet inner areas ≡ true → areas_meet outer areas ≡ true) → (meets area.span outer || areas_meet outer areas) ≡ true
    by_test true is any rest =
        let parts = and_parts (leb area.span.first inner.last) (leb inner.first area.span.last) is in
        let low = leb-true area.span.first inner.last parts.0 in
        let high = leb-true inner.first area.span.last parts.1 in
        let here : meets area.span outer ≡ true =
        and_from _ _ (le-leb area.span.first outer.last (omega (arith, low, last)))
        (le-leb outer.first area.span.last (omega (arith, high, first))) in
        ap (λ (c : Bool). c || areas_meet outer areas) here
    by_test false is any rest = either (meets area.span outer) (rest any)
      where
        either : (c : Bool) → areas_meet outer areas ≡ true → (c || areas_meet outer areas) ≡ true
        either true more = refl
        either false more = more

last_number : (level n : ℕ) → number_at level (n * 2 ^ (9 * level) + (2 ^ (9 * level) - 1)) ≡ n
unfolding number_at
last_number level n =
    let some = pow_pos (9 * level) in
    div-mul-add n (2 ^ (9 * level)) (2 ^ (9 * level) - 1) (omega (arith, some))

-- a page that areas have isn't one of an idle table
pub page_met : (level number page : ℕ) (areas : List Area) → number_at level page ≡ number
    → areas_meet (span_of_page page) areas ≡ true → areas_meet (span_at level number) areas ≡ true
page_met level number page areas is met =
    let inside = page_inside level page in
    subst (λ (n : ℕ). areas_meet (span_at level n) areas ≡ true) is
    (meets_wider (span_of_page page) (span_at level (number_at level page)) areas inside.0
    (omega (arith, inside.1)) met)

-- a lower table's addresses are those of tables above it
pub lower_met : (level other page : ℕ) (areas : List Area) → other ≤ level
    → areas_meet (span_at other (number_at other page)) areas ≡ true
    → areas_meet (span_at level (number_at level page)) areas ≡ true
lower_met level other page areas low met =
    let n = number_at other page in
    let first = n * 2 ^ (9 * other) in
    let last = n * 2 ^ (9 * other) + (2 ^ (9 * other) - 1) in
    let some = pow_pos (9 * other) in
    let up_first : number_at level first ≡ number_at level page =
    up_same other level first page low (number-page other n) in
    let up_last : number_at level last ≡ number_at level page =
    up_same other level last page low (last_number other n) in
    let front = (page_inside level first).0 in
    let back = (page_inside level last).1 in
    let whole : 2 ^ (9 * other + 12) ≡ 2 ^ (9 * other) * 4096 = pow-add 2 (9 * other) 12 in
    let moved : n * 2 ^ (9 * other + 12) ≡ n * 2 ^ (9 * other) * 4096 =
    ap (λ (k : ℕ). n * k) whole ∙ parted n (2 ^ (9 * other)) in
    let front_is = ap (λ (k : ℕ). (span_at level k).first) up_first in
    let back_is = ap (λ (k : ℕ). (span_at level k).last) up_last in
    meets_wider (span_at other n) (span_at level (number_at level page)) areas
    (omega (arith, front, moved, front_is)) (omega (arith, back, moved, whole, some, back_is)) met

module _ (pool : FramePool) (levels : ℕ) (root : FrameNo) (rows : List TableRow) (pages : List MappedPage)
    (stands : Stands pool levels root rows pages) (areas : List Area) (span : Bounds) (level number : ℕ)
    (may : MayShed levels areas span level rows pages) (low : level < levels)
    (idle : areas_meet (span_at level number) (areas_outside span areas) ≡ false) where
  abbrev left : List Area
  left = areas_outside span areas

  lower_absent : (other page : ℕ) → other < level → number_at level page ≡ number → table_at rows other page ≡ None
  unfolding table_at
  lower_absent other page lower is =
      ⊎_elim (λ (none : find (is_table other page) rows ≡ None). ap (option_map (λ (row : TableRow). row.frame)) none)
      (λ (some : (row : TableRow) × (find (is_table other page) rows ≡ Some row)).
      absurd (never some.0 (found_each (is_table other page)
      (λ row. IsPlaced rows row × ((is_idle levels left row && ltb row.level level) ≡ false)) rows some.0 some.1
      (both_each (IsPlaced rows) (λ row. (is_idle levels left row && ltb row.level level) ≡ false) rows
      (all_placed pool levels root rows pages stands) (none_any _ rows may.lower)))))
      (cases_Option (find (is_table other page) rows))
    where
      never : (row : TableRow) → (IsPlaced rows row × ((is_idle levels left row && ltb row.level level) ≡ false))
          × (is_table other page row ≡ true) → ⊥
      never row it =
          let place = row_number other other page row (omega arith) it.1 in
          let here : span_of_row row ≡ span_at other (number_at other page) =
          row_span rows row it.0.0
          ∙ ap (λ (k : ℕ). span_at k (number_at k (page_of row.first))) place.0
          ∙ ap (span_at other) place.1 in
          let unmet : areas_meet (span_of_row row) left ≡ false =
          false_from_ne_true _ (λ met. false≢true (sym idle
          ∙ subst (λ (n : ℕ). areas_meet (span_at level n) left ≡ true) is
          (lower_met level other page left (omega (arith, lower))
          (sym (ap (λ (t : Bounds). areas_meet t left) here) ∙ met)))) in
          let beneath : eqb row.level levels ≡ false =
          ne_eqb row.level levels (λ top. absurd (omega (arith, top, place.0, lower, low))) in
          let under : ltb row.level level ≡ true = lt-ltb row.level level (omega (arith, place.0, lower)) in
          false≢true (sym it.0.1
          ∙ and_from _ _ (and_from _ _ (ap not beneath) (ap not unmet)) under)

  pub is_empty : is_absent rows level number ≡ false → IsEmpty levels rows pages level number
  is_empty there = record {
    there = there;
    low = low;
    below = lower_absent;
    unmapped = λ page is.
        ⊎_elim (λ (none : page_at pages page ≡ None). none)
        (λ (some : (to : MappedPage) × (page_at pages page ≡ Some to)).
        absurd (false≢true (sym idle ∙ page_met level number page left is (may.mapped page some.0 some.1))))
        (cases_Option (page_at pages page));
  }

-- ---- fewer tables

pub wider_between : (levels : ℕ) (left : List Area) (level first end after : ℕ) → end ≤ after → (row : TableRow)
    → is_idle_between levels left level first end row ≡ true → is_idle_between levels left level first after row ≡ true
wider_between levels left level first end after more row is =
    let parts = and_parts (is_idle_at levels left level row) _ is in
    let both = and_parts (leb first (number_of row)) (ltb (number_of row) end) parts.1 in
    and_from _ _ parts.0 (and_from _ _ both.0 (further (number_of row) both.1))
  where
    further : (m : ℕ) → ltb m end ≡ true → ltb m after ≡ true
    further m low = grind (arith, nat_tests)

pub between_at : (levels : ℕ) (left : List Area) (level first end : ℕ) (row : TableRow)
    → is_idle_between levels left level first end row ≡ true → is_idle_at levels left level row ≡ true
between_at levels left level first end row is = (and_parts (is_idle_at levels left level row) _ is).0

pub below_idle : (levels : ℕ) (left : List Area) (level : ℕ) (row : TableRow)
    → is_idle_below levels left level row ≡ true → is_idle levels left row ≡ true
below_idle levels left level row is = (and_parts (is_idle levels left row) _ is).0

-- a table's number is below that of its pages
pub number_few : (width : Width) (level address : ℕ) → address < 2 ^ bits_of width
    → number_at level (page_of address) < 2 ^ 45
unfolding number_at
number_few width level address below =
    let less = div-le_self (page_of address) (2 ^ (9 * level)) in
    let small = page_few width below in
    omega (arith, less, small)
  where
    page_few : (w : Width) → address < 2 ^ bits_of w → page_of address < 2 ^ 45
    page_few Bits39 low = omega (arith, low)
    page_few Bits48 low = omega (arith, low)
    page_few Bits57 low = omega (arith, low)
