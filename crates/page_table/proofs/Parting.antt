-- The rows below a table that go, by the entries that lead to them.
use Rattle.std.proofs.Common.{◌≡◌, ◌≢◌, ℕ, zero, suc, ◌+◌, ◌-◌, ◌*◌, ◌/◌, ◌%◌, ◌^◌, ◌<◌, ◌≤◌, Bool, true, false, cond}
use Rattle.std.proofs.Common.{eqb, ltb, leb, not, ◌&&◌, ◌||◌, Some, None, List, [], ◌∷◌, ◌++◌, length, map, refl, sym}
use Rattle.std.proofs.Common.{◌∙◌, ap, arith, ⊎_elim}
use Rattle.std.specs.List.{AllByRecursion, count_by, filter}
use Rattle.std.proofs.Math.Nat.{mul-le-mul_right}
use Rattle.std.proofs.Math.Pow.{pow_mono}
use Rattle.std.proofs.lemmas.Bool.{and_from, and_left, and_parts, and_right, cases_Bool, cases_eq, eq-eqb, eqb-true}
use Rattle.std.proofs.lemmas.Bool.{false≢true, false_from_ne_true, le-ltb, leb-true, lt-ltb}
use Rattle.std.proofs.lemmas.Bool.Decides.{nat_tests}
use Rattle.std.proofs.lemmas.List.{length-append, length-map}
use Rattle.std.proofs.lemmas.List.Sorted.{length_permutation}
use Rattle.std.proofs.lemmas.List.Sums.{length-filter}
use Rattle.std.proofs.lemmas.Nat.{pow-add}
use Rattle.iofd_words.specs.Bounds.{Bounds}
use Rattle.iofd_words.specs.Pages.{page_of}
use Rattle.iofd_words.specs.declared.numbers.FrameNo.{FrameNo}
use Rattle.frame_memory.specs.Pool.{FramePool}
use Rattle.page_table_words.specs.Cut.{goes_below, is_below}
use Rattle.iofd_words.specs.Levels.{index_at, number_at}
use Rattle.page_table_words.specs.Pruned.{goes, gone, is_wanted}
use Rattle.page_table_words.specs.Rows.{MappedPage, TableRow, table_at}
use Rattle.page_table_words.specs.Stands.{Stands}
use Rattle.page_table_words.specs.Under.{frames_under}
use Rattle.page_table_words.proofs.FramesUnder.{rows_permute}
use Rattle.page_table_words.proofs.Lookups.{some_is, the_some}
use Rattle.page_table_words.proofs.Members.{count_first, count_other, each_then, filter_alike, filter_none}
use Rattle.page_table_words.proofs.Members.{filter_split}
use Rattle.page_table_words.proofs.Numbers.{index_below, number-up}
use Rattle.page_table_words.proofs.RowsUnder.{IsPlaced, all_placed, child_page, is_under, none_are_under}
use Rattle.page_table_words.proofs.Tables.{tables_above}
use Rattle.page_table_words.proofs.Tops.{number-first}
use Rattle.page_table.proofs.Wanted.{child_number, wanted_up}

-- ---- lists

module _ {X : Type 0} where
  pub filter_same : (p q : X → Bool) (xs : List X) → ((x : X) → p x ≡ q x) → filter p xs ≡ filter q xs
  filter_same p q [] each = refl
  filter_same p q (x ∷ xs) each = ap (λ (b : Bool). cond b (x ∷ filter p xs) (filter p xs)) (each x)
      ∙ ap (λ (ys : List X). cond (q x) (x ∷ ys) ys) (filter_same p q xs each)

  pub count_same : (p q : X → Bool) (xs : List X) → ((x : X) → p x ≡ q x) → count_by p xs ≡ count_by q xs
  count_same p q xs each =
      sym (length-filter p xs) ∙ ap (λ (ys : List X). length ys) (filter_same p q xs each) ∙ length-filter q xs

  pub count_less : (p q : X → Bool) (xs : List X) → ((x : X) → p x ≡ true → q x ≡ true) → count_by p xs ≤ count_by q xs
  count_less p q [] each = omega arith
  count_less p q (x ∷ xs) each =
      let rest = count_less p q xs each in
      ⊎_elim (λ (it : p x ≡ true). omega (arith, count_first p x xs it, count_first q x xs (each x it), rest))
      (λ (other : p x ≡ false). ⊎_elim (λ (more : q x ≡ true). omega (
        arith,
        count_other p x xs other,
        count_first q x xs more,
        rest,
      )) (λ (no : q x ≡ false). omega (
        arith,
        count_other p x xs other,
        count_other q x xs no,
        rest,
      )) (cases_Bool (q x)))
      (cases_Bool (p x))

  pub count_never : (p : X → Bool) (xs : List X) → ((x : X) → p x ≡ false) → count_by p xs ≡ 0
  count_never p [] each = refl
  count_never p (x ∷ xs) each = count_other p x xs (each x) ∙ count_never p xs each

  pub count_split : (p q r : X → Bool) (xs : List X) → ((x : X) → (p x ≡ (q x || r x)) × ((q x && r x) ≡ false))
      → count_by p xs ≡ count_by q xs + count_by r xs
  count_split p q r xs each =
      omega (
        arith,
        length-filter p xs,
        length-filter q xs,
        length-filter r xs,
        length_permutation (filter q xs ++ filter r xs) (filter p xs) (filter_split p q r xs each),
        length-append (filter q xs) (filter r xs),
      )

-- ---- numbers

-- the number of a table below
pub number_fits : (level number i : ℕ) → 1 < level → level ≤ 5 → i < 512 → number < 2 ^ (9 * (5 - level))
    → (512 * number + i < 2 ^ (9 * (5 - (level - 1)))) × (512 * number + i < 2 ^ 45)
number_fits level number i low few small within =
    let more : 9 * (5 - level) + 9 ≡ 9 * (5 - (level - 1)) = omega (arith, low, few) in
    let wide : 2 ^ (9 * (5 - (level - 1))) ≡ 2 ^ (9 * (5 - level)) * 2 ^ 9 =
    ap (λ (k : ℕ). 2 ^ k) (sym more) ∙ pow-add 2 (9 * (5 - level)) 9 in
    let bound : 2 ^ (9 * (5 - level)) ≤ 2 ^ 36 = pow_mono {i = 9 * (5 - level)} {j = 36} (omega (arith, low)) in
    (omega (arith, wide, within, small), omega (arith, bound, within, small))

-- ---- rows below one entry after another

-- the row goes, and its table is below an entry before this one
abbrev pub cut_before : ℕ → List MappedPage → List Bounds → ℕ → ℕ → ℕ → TableRow → Bool
cut_before levels pages kept level page i row =
    goes levels pages kept row && (is_below level page row && ltb (index_at level (page_of row.first)) i)

-- it goes, and its table is below this entry
abbrev pub cut_at : ℕ → List MappedPage → List Bounds → ℕ → ℕ → ℕ → TableRow → Bool
cut_at levels pages kept level page i row =
    goes levels pages kept row && is_under (level - 1) (child_page level page i) row

spread : (g x a b : Bool) → x ≡ (a || b) → (a && b) ≡ false → ((g && x) ≡ ((g && a) || (g && b)))
    × (((g && a) && (g && b)) ≡ false)
spread true x a b is apart = (is, apart)
spread false x a b is apart = (refl, refl)

cut_numbers : (l level a n i : ℕ) → 1 < level → i < 512 →
    (((ltb l level && eqb (a / 512) n) && ltb (a % 512) (i + 1))
    ≡ (((ltb l level && eqb (a / 512) n) && ltb (a % 512) i) || (leb l (level - 1) && eqb a (n * 512 + i))))
    × ((((ltb l level && eqb (a / 512) n) && ltb (a % 512) i) && (leb l (level - 1) && eqb a (n * 512 + i))) ≡ false)
cut_numbers l level a n i low small = (grind (arith, nat_tests), grind (arith, nat_tests))

module _ (levels : ℕ) (pages : List MappedPage) (kept : List Bounds) (level page : ℕ) where
  pub cut_next : (i : ℕ) → 1 < level → i < 512 → (row : TableRow)
      → (cut_before levels pages kept level page (i + 1) row ≡ (cut_before levels pages kept level page i row
      || cut_at levels pages kept level page i row))
      × ((cut_before levels pages kept level page i row && cut_at levels pages kept level page i row) ≡ false)
  cut_next i low small row =
      let up : level - 1 + 1 ≡ level = omega (arith, low) in
      let above : number_at level (page_of row.first) ≡ number_at (level - 1) (page_of row.first) / 512 =
      ap (λ (k : ℕ). number_at k (page_of row.first)) (sym up) ∙ number-up (level - 1) (page_of row.first) in
      let tests : (((is_below level page row && ltb (index_at level (page_of row.first)) (i + 1))
      ≡ ((is_below level page row && ltb (index_at level (page_of row.first)) i)
      || is_under (level - 1) (child_page level page i) row))
      × (((is_below level page row && ltb (index_at level (page_of row.first)) i)
      && is_under (level - 1) (child_page level page i) row) ≡ false)) =
      rw (above, child_number level page i) (cut_numbers row.level level (number_at (level - 1) (page_of row.first))
      (number_at level page) i low small) in
      spread (goes levels pages kept row) _ _ _ tests.0 tests.1

  pub cut_none : (row : TableRow) → cut_before levels pages kept level page 0 row ≡ false
  cut_none row = and_right (goes levels pages kept row) _
      (and_right (is_below level page row) _ (le-ltb (index_at level (page_of row.first)) 0 (omega arith)))

  pub cut_all : (row : TableRow) → cut_before levels pages kept level page 512 row ≡ goes_below levels
      pages kept level page row
  cut_all row = ap (λ (b : Bool). goes levels pages kept row && b)
      (and_true (is_below level page row) _ (lt-ltb (index_at level (page_of row.first)) 512
      (index_below level (page_of row.first))))
    where
      and_true : (a b : Bool) → b ≡ true → (a && b) ≡ a
      and_true true b is = is
      and_true false b is = refl

  pub count_none : (rows : List TableRow) → count_by (cut_before levels pages kept level page 0) rows ≡ 0
  count_none rows = count_never (cut_before levels pages kept level page 0) rows cut_none

  pub count_all : (rows : List TableRow) → count_by (cut_before levels pages kept level page 512) rows ≡ count_by
      (goes_below levels pages kept level page) rows
  count_all rows =
      count_same (cut_before levels pages kept level page 512) (goes_below levels pages kept level page) rows cut_all

  pub count_next : (i : ℕ) → 1 < level → i < 512 → (rows : List TableRow)
      → count_by (cut_before levels pages kept level page (i + 1)) rows ≡ count_by
      (cut_before levels pages kept level page i) rows + count_by (cut_at levels pages kept level page i) rows
  count_next i low small rows = count_split (cut_before levels pages kept level page (i + 1))
      (cut_before levels pages kept level page i) (cut_at levels pages kept level page i) rows (cut_next i low small)

  -- where no page goes through the table below the entry, it goes with all below it
  pub idle_goes : (i : ℕ) → 1 < level → level ≤ levels
      → is_wanted pages kept (level - 1) (number_at (level - 1) (child_page level page i)) ≡ false → (row : TableRow)
      → is_under (level - 1) (child_page level page i) row ≡ true → goes levels pages kept row ≡ true
  idle_goes i low few idle row under =
      let parts = and_parts (leb row.level (level - 1))
      (eqb (number_at (level - 1) (page_of row.first)) (number_at (level - 1) (child_page level page i))) under in
      let lower = leb-true row.level (level - 1) parts.0 in
      let same = eqb-true _ _ parts.1 in
      let unwanted : is_wanted pages kept row.level (number_at row.level (page_of row.first)) ≡ false =
      false_from_ne_true _ (λ wanted. false≢true (sym idle ∙ ap (is_wanted pages kept (level - 1)) (sym same)
      ∙ wanted_up pages kept row.level (level - 1) (page_of row.first) lower wanted)) in
      and_from _ _ (lt-ltb row.level levels (omega (arith, lower, low, few))) (ap not unwanted)

  pub idle_at : (i : ℕ) → 1 < level → level ≤ levels
      → is_wanted pages kept (level - 1) (number_at (level - 1) (child_page level page i)) ≡ false → (row : TableRow)
      → cut_at levels pages kept level page i row ≡ is_under (level - 1) (child_page level page i) row
  idle_at i low few idle row = and_then (goes levels pages kept row)
      (is_under (level - 1) (child_page level page i) row) (idle_goes i low few idle row)
    where
      and_then : (g u : Bool) → (u ≡ true → g ≡ true) → (g && u) ≡ u
      and_then true u then = refl
      and_then false true then = then refl
      and_then false false then = refl

  -- where one does, it stays
  pub wanted_at : (i : ℕ) → is_wanted pages kept (level - 1) (number_at (level - 1) (child_page level page i)) ≡ true
      → (row : TableRow) → cut_at levels pages kept level page i row ≡ goes_below levels pages kept (level - 1)
      (child_page level page i) row
  wanted_at i wanted row =
      ⊎_elim
      (λ (same : row.level ≡ level - 1).
      let never : goes_below levels pages kept (level - 1) (child_page level page i) row ≡ false =
      and_right (goes levels pages kept row) _
      (and_left _ _ (le-ltb row.level (level - 1) (omega (arith, same)))) in
      ⊎_elim
      (λ (here : eqb (number_at (level - 1) (page_of row.first))
      (number_at (level - 1) (child_page level page i)) ≡ true).
      let stays : is_wanted pages kept row.level (number_at row.level (page_of row.first)) ≡ true =
      ap (λ (k : ℕ). is_wanted pages kept k (number_at k (page_of row.first))) same
      ∙ ap (is_wanted pages kept (level - 1)) (eqb-true _ _ here) ∙ wanted in
      and_left (goes levels pages kept row) _ (and_right (ltb row.level levels) _ (ap not stays)) ∙ sym never)
      (λ (there : eqb (number_at (level - 1) (page_of row.first)) (number_at (level - 1) (child_page level page i))
      ≡ false). and_right (goes levels pages kept row) _ (and_right (leb row.level (level - 1)) _ there)
      ∙ sym never)
      (cases_Bool (eqb (number_at (level - 1) (page_of row.first)) (number_at (level - 1) (child_page level page i)))))
      (λ (differ : row.level ≢ level - 1).
      ap (λ (b : Bool). goes levels pages kept row
      && (b && eqb (number_at (level - 1) (page_of row.first))
      (number_at (level - 1) (child_page level page i)))) (strict row.level (level - 1) differ))
      (cases_eq row.level (level - 1))
    where
      strict : (l k : ℕ) → l ≢ k → leb l k ≡ ltb l k
      strict l k differ = grind (arith, nat_tests)

-- ---- how many

module _ (pool : FramePool) (levels : ℕ) (root : FrameNo) (rows : List TableRow) (pages : List MappedPage)
    (stands : Stands pool levels root rows pages) (kept : List Bounds) (level page i : ℕ) (table : FrameNo)
    (low : 1 < level) (at : table_at rows level page ≡ Some table) where
  pub levels_over : level ≤ levels
  levels_over = (stands.level level page table at).1

  pub absent_counted : table_at rows (level - 1) (child_page level page i) ≡ None
      → count_by (cut_at levels pages kept level page i) rows ≡ 0
  absent_counted none =
      let empty = ap (λ (ys : List TableRow). length ys)
      (none_are_under pool levels root rows pages stands (level - 1) (child_page level page i)
      (omega (arith, levels_over)) none) in
      let fewer = count_less (cut_at levels pages kept level page i) (is_under (level - 1) (child_page level page i))
      rows (λ row cut. (and_parts (goes levels pages kept row) _ cut).1) in
      omega (arith, empty, fewer, length-filter (is_under (level - 1) (child_page level page i)) rows)

  pub idle_counted : (next : FrameNo) → table_at rows (level - 1) (child_page level page i) ≡ Some next
      → is_wanted pages kept (level - 1) (number_at (level - 1) (child_page level page i)) ≡ false
      → length (frames_under pool (level - 1 - 1) next) ≡ count_by (cut_at levels pages kept level page i) rows
  idle_counted next found idle =
      let under = filter (is_under (level - 1) (child_page level page i)) rows in
      let same = length_permutation (frames_under pool (level - 1 - 1) next) (map (λ (row : TableRow). row.frame) under)
      (rows_permute pool levels root rows pages stands (level - 1 - 1) (level - 1) (child_page level page i) next
      (omega (arith, low)) (omega (arith, levels_over)) found) in
      let all = count_same (cut_at levels pages kept level page i) (is_under (level - 1) (child_page level page i)) rows
      (idle_at levels pages kept level page i low levels_over idle) in
      omega (
        arith,
        same,
        all,
        length-map under (λ (row : TableRow). row.frame),
        length-filter (is_under (level - 1) (child_page level page i)) rows,
      )

  pub wanted_counted : is_wanted pages kept (level - 1) (number_at (level - 1) (child_page level page i)) ≡ true
      → count_by (goes_below levels pages kept (level - 1) (child_page level page i)) rows ≡ count_by
      (cut_at levels pages kept level page i) rows
  wanted_counted wanted = sym (count_same (cut_at levels pages kept level page i)
      (goes_below levels pages kept (level - 1) (child_page level page i)) rows
      (wanted_at levels pages kept level page i wanted))

-- a table of the last level has none below it
module _ (pool : FramePool) (levels : ℕ) (root : FrameNo) (rows : List TableRow) (pages : List MappedPage)
    (stands : Stands pool levels root rows pages) (kept : List Bounds) (level page : ℕ) where
  pub last_none : level ≡ 1 → AllByRecursion (λ row. goes_below levels pages kept level page row ≡ false) rows
  last_none one =
      each_then (IsPlaced rows) (λ row. goes_below levels pages kept level page row ≡ false) rows
      (λ row placed. and_right (goes levels pages kept row) _
      (and_left _ _ (le-ltb row.level level (omega (
        arith,
        one,
        (stands.level row.level (page_of row.first) row.frame placed.found).0,
      ))))) (all_placed pool
      levels root rows pages stands)

  pub last_counted : level ≡ 1 → count_by (goes_below levels pages kept level page) rows ≡ 0
  last_counted one =
      let empty = ap (λ (ys : List TableRow). length ys)
      (filter_none (goes_below levels pages kept level page) rows (last_none one)) in
      omega (arith, empty, length-filter (goes_below levels pages kept level page) rows)

-- below the root are all that go
module _ (pool : FramePool) (levels : ℕ) (root : FrameNo) (rows : List TableRow) (pages : List MappedPage)
    (stands : Stands pool levels root rows pages) (kept : List Bounds) where
  pub root_each : AllByRecursion (λ row. goes_below levels pages kept levels 0 row ≡ goes levels pages kept row) rows
  root_each =
      each_then (IsPlaced rows) (λ row. goes_below levels pages kept levels 0 row ≡ goes levels pages kept row) rows
      (λ row placed.
      let range = stands.level row.level (page_of row.first) row.frame placed.found in
      let sum : row.level + (levels - row.level) ≡ levels = omega (arith, range.1) in
      let up = rw sum at (tables_above pool levels root rows pages stands (levels - row.level) row.level
      (page_of row.first) (some_is _ row.frame placed.found) (omega (arith, range.1))) in
      let there = the_some (table_at rows levels (page_of row.first)) up in
      twice (ltb row.level levels) _ _ (eq-eqb _ _ (stands.top (page_of row.first) there.0 there.1
      ∙ sym (number-first levels)))) (all_placed pool levels root rows pages stands)
    where
      twice : (t w e : Bool) → e ≡ true → ((t && w) && (t && e)) ≡ (t && w)
      twice true true e is = is
      twice true false e is = refl
      twice false w e is = refl

  pub root_counted : count_by (goes_below levels pages kept levels 0) rows ≡ length (gone levels pages kept rows)
  root_counted = sym (length-filter (goes_below levels pages kept levels 0) rows)
      ∙ ap (λ (ys : List TableRow). length ys)
      (filter_alike (goes_below levels pages kept levels 0) (goes levels pages kept) rows root_each)

-- ---- the sum fits

power_small : (n : ℕ) → n ≤ 4 → 1000 ^ n ≤ 1000 ^ 4
power_small zero few = omega arith
power_small (suc zero) few = omega arith
power_small (suc (suc zero)) few = omega arith
power_small (suc (suc (suc zero))) few = omega arith
power_small (suc (suc (suc (suc zero)))) few = omega arith
power_small (suc (suc (suc (suc (suc n))))) few = absurd (omega (arith, few))

pub sum_fits : (level total index more : ℕ) → level ≤ 5 → index < 512 → total ≤ 1 + index * 1000 ^ (level - 1)
    → more ≤ 1000 ^ (level - 1) → total + more < 2 ^ 64
sum_fits level total index more few small before one =
    let bound : index * 1000 ^ (level - 1) ≤ 512 * 1000 ^ (level - 1) =
    mul-le-mul_right {m = index} {n = 512} (1000 ^ (level - 1)) (omega (arith, small)) in
    omega (arith, bound, before, one, power_small (level - 1) (omega (arith, few)))
