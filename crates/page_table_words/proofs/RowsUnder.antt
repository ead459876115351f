-- The rows of a table and of those below it.
use Rattle.std.proofs.Common.{◌≡◌, ◌≢◌, ℕ, ◌+◌, ◌-◌, ◌*◌, ◌/◌, ◌%◌, ◌^◌, ◌<◌, ◌≤◌, Bool, true, false, cond, eqb, ltb}
use Rattle.std.proofs.Common.{leb, ◌&&◌, ◌||◌, Option, Some, None, List, [], ◌∷◌, ◌++◌, map, refl, sym, ◌∙◌, ap, arith}
use Rattle.std.proofs.Common.{⊎_elim}
use Rattle.std.specs.List.{AllByRecursion, count_by, filter, find, list_all}
use Rattle.std.specs.List.Sorted.{IsPermutation}
use Rattle.std.specs.Option.{option_map}
use Rattle.std.proofs.lemmas.Bool.{and_from, and_left, and_parts, and_right, cases_eq, eq-eqb, eqb-true}
use Rattle.std.proofs.lemmas.Bool.{false_from_ne_true, le-leb, le-ltb, leb-true, lt-leb, lt-ltb, ne_eqb, or_from}
use Rattle.std.proofs.lemmas.Bool.{or_left, or_right}
use Rattle.std.proofs.lemmas.Bool.Decides.{nat_tests}
use Rattle.std.proofs.lemmas.List.Sums.{sum_by-cons}
use Rattle.iofd_words.specs.Pages.{page_of}
use Rattle.iofd_words.specs.declared.numbers.FrameNo.{FrameNo}
use Rattle.frame_memory.specs.Pool.{FramePool}
use Rattle.iofd_words.specs.Levels.{first_address, index_at, number_at}
use Rattle.page_table_words.specs.Rows.{MappedPage, TableRow, is_table, table_at}
use Rattle.page_table_words.specs.Stands.{Stands}
use Rattle.page_table_words.proofs.Lookups.{both_some, none_or_some, some_is, table_at-same, the_some}
use Rattle.page_table_words.proofs.Members.{each_then, find_counted, filter_alike, filter_all, filter_none, filter_one}
use Rattle.page_table_words.proofs.Members.{filter_split}
use Rattle.page_table_words.proofs.Numbers.{index_below, number-page, number-up, same_first}
use Rattle.page_table_words.proofs.Tables.{tables_above}
use Rattle.page_table_words.proofs.Tops.{number-first}

and_true_right : (a b : Bool) → b ≡ true → (a && b) ≡ a
and_true_right true b is = is
and_true_right false b is = refl

-- the row is of the table of this level through which the page goes, or of one below it
abbrev pub is_under : ℕ → ℕ → TableRow → Bool
is_under level page row = leb row.level level && eqb (number_at level (page_of row.first)) (number_at level page)

-- the same, and not below an entry from this one on
abbrev pub is_before : ℕ → ℕ → ℕ → TableRow → Bool
is_before level page i row =
    is_under level page row && (eqb row.level level || ltb (index_at level (page_of row.first)) i)

-- the first page below an entry of the table
abbrev pub child_page : ℕ → ℕ → ℕ → ℕ
child_page level page i = (number_at level page * 512 + i) * 2 ^ (9 * (level - 1))

-- ---- a row of a table that stands

-- the row stands where it begins, and is found there
pub record IsPlaced (rows : List TableRow) (row : TableRow) : Type 0 where
  pub first : row.first ≡ first_address row.level (page_of row.first)
  pub found : table_at rows row.level (page_of row.first) ≡ Some row.frame

the_row : (rows : List TableRow) (level page : ℕ) (frame : FrameNo) → table_at rows level page ≡ Some frame
    → (row : TableRow) × (find (is_table level page) rows ≡ Some row) × (row.frame ≡ frame)
unfolding table_at
the_row rows level page frame is = of_option (find (is_table level page) rows) is
  where
    of_option : (o : Option TableRow) → option_map (λ (r : TableRow). r.frame) o ≡ Some frame
        → (row : TableRow) × (o ≡ Some row) × (row.frame ≡ frame)
    of_option None none = none_or_some None frame refl none
    of_option (Some row) some = (row, refl, both_some (Some row.frame) row.frame frame refl some)

placed_each : (all rows : List TableRow)
    → list_all (λ row. eqb row.first (first_address row.level (page_of row.first))) rows ≡ true
    → ((level page : ℕ) → count_by (is_table level page) rows ≤ 1)
    → ((level page : ℕ) (frame : FrameNo) → table_at rows level page ≡ Some frame
    → table_at all level page ≡ Some frame) → AllByRecursion (IsPlaced all) rows
unfolding table_at
placed_each all [] placed once found = tt
placed_each all (row ∷ rows) placed once found =
    let parts = and_parts (eqb row.first (first_address row.level (page_of row.first)))
    (list_all (λ r. eqb r.first (first_address r.level (page_of r.first))) rows) placed in
    let first = eqb-true row.first (first_address row.level (page_of row.first)) parts.0 in
    let itself : is_table row.level (page_of row.first) row ≡ true =
    and_from _ _ (eq-eqb row.level row.level refl) parts.0 in
    let here : table_at (row ∷ rows) row.level (page_of row.first) ≡ Some row.frame =
    ap (λ (b : Bool). option_map (λ (r : TableRow). r.frame)
    (cond b (Some row) (find (is_table row.level (page_of row.first)) rows))) itself in (
      record { first = first; found = found row.level (page_of row.first) row.frame here },
      placed_each all rows parts.1 (fewer once) (later once found),
    )
  where
    fewer : ((level page : ℕ) → count_by (is_table level page) (row ∷ rows) ≤ 1) → (level page : ℕ)
        → count_by (is_table level page) rows ≤ 1
    fewer all_once level page = let more = sum_by-cons (λ (r : TableRow). cond (is_table level page r) 1 0) row rows in
        omega (arith, more, all_once level page)

    later : ((level page : ℕ) → count_by (is_table level page) (row ∷ rows) ≤ 1)
        → ((level page : ℕ) (frame : FrameNo) → table_at (row ∷ rows) level page ≡ Some frame
        → table_at all level page ≡ Some frame)
        → (level page : ℕ) (frame : FrameNo) → table_at rows level page ≡ Some frame
        → table_at all level page ≡ Some frame
    later all_once all_found level page frame is = all_found level page frame (behind (is_table level page row) refl)
      where
        behind : (b : Bool) → is_table level page row ≡ b → table_at (row ∷ rows) level page ≡ Some frame
        behind true passes =
            let more = sum_by-cons (λ (r : TableRow). cond (is_table level page r) 1 0) row rows in
            let one = ap {B = ℕ} (λ (b : Bool). cond b 1 0) passes in
            let another = the_row rows level page frame is in
            let counted = find_counted (is_table level page) rows another.0 another.1 in
            absurd (omega (arith, more, one, counted, all_once level page))
        behind false not_it = ap (λ (c : Bool). option_map (λ (r : TableRow). r.frame)
            (cond c (Some row) (find (is_table level page) rows))) not_it ∙ is

module _ (pool : FramePool) (levels : ℕ) (root : FrameNo) (rows : List TableRow) (pages : List MappedPage)
    (stands : Stands pool levels root rows pages) where
  pub all_placed : AllByRecursion (IsPlaced rows) rows
  all_placed = placed_each rows rows stands.placed stands.once (λ level page frame is. is)

  -- below an entry that names no table there is none
  pub none_are_under : (level page : ℕ) → level ≤ levels → table_at rows level page ≡ None
      → filter (is_under level page) rows ≡ []
  none_are_under level page few none =
      filter_none (is_under level page) rows
      (each_then (IsPlaced rows) (λ row. is_under level page row ≡ false) rows
      (λ row placed. false_from_ne_true (is_under level page row) (λ under.
      let parts =
      and_parts (leb row.level level) (eqb (number_at level (page_of row.first)) (number_at level page)) under in
      let low = leb-true row.level level parts.0 in
      let same = eqb-true (number_at level (page_of row.first)) (number_at level page) parts.1 in
      let sum : row.level + (level - row.level) ≡ level = omega (arith, low) in
      let up = rw sum at (tables_above pool levels root rows pages stands (level - row.level) row.level
      (page_of row.first) (some_is _ row.frame placed.found) (omega (arith, low, few))) in
      let there = the_some (table_at rows level (page_of row.first)) up in
      none_or_some _ there.0 none (sym (table_at-same rows level (page_of row.first) page same) ∙ there.1))) all_placed)

  -- the table's own row
  own_test : (level page : ℕ) (row : TableRow) → IsPlaced rows row
      → is_before level page 0 row ≡ is_table level page row
  own_test level page row placed =
      ⊎_elim
      (λ (same : row.level ≡ level).
      let here = eq-eqb row.level level same in
      ⊎_elim
      (λ (number : number_at level (page_of row.first) ≡ number_at level page).
      let first : row.first ≡ first_address level page =
      placed.first ∙ ap (λ (k : ℕ). first_address k (page_of row.first)) same
      ∙ ap (λ (n : ℕ). n * 2 ^ (9 * level + 12)) number in
      and_from _ _ (and_from _ _ (le-leb row.level level (omega (arith, same))) (eq-eqb _ _ number)) (or_left _ _ here)
      ∙ sym (and_from _ _ here (eq-eqb row.first (first_address level page) first)))
      (λ (differ : number_at level (page_of row.first) ≢ number_at level page).
      and_left _ _ (and_right _ _ (ne_eqb _ _ differ))
      ∙ sym (and_right _ _ (ne_eqb row.first (first_address level page)
      (λ first. differ (same_first level (page_of row.first) page
      (sym (placed.first ∙ ap (λ (k : ℕ). first_address k (page_of row.first)) same) ∙ first))))))
      (cases_eq (number_at level (page_of row.first)) (number_at level page)))
      (λ (differ : row.level ≢ level). and_right _ _
      (or_from _ _ (ne_eqb row.level level differ) (le-ltb _ 0 (omega arith)))
      ∙ sym (and_left _ _ (ne_eqb row.level level differ)))
      (cases_eq row.level level)

  pub own_row : (level page : ℕ) (table : FrameNo) → table_at rows level page ≡ Some table
      → map (λ row. row.frame) (filter (is_before level page 0) rows) ≡ table ∷ []
  own_row level page table at =
      let row = the_row rows level page table at in
      ap (map (λ (r : TableRow). r.frame)) (filter_alike (is_before level page 0) (is_table level page) rows
      (each_then (IsPlaced rows) (λ r. is_before level page 0 r ≡ is_table level page r) rows
      (own_test level page) all_placed)
      ∙ filter_one (is_table level page) rows row.0 row.1 (stands.once level page))
      ∙ ap (λ (f : FrameNo). f ∷ []) row.2

  -- at the last level there is no other
  pub last_rows : (page : ℕ) → filter (is_before 1 page 0) rows ≡ filter (is_under 1 page) rows
  last_rows page =
      filter_alike (is_before 1 page 0) (is_under 1 page) rows
      (each_then (IsPlaced rows) (λ row. is_before 1 page 0 row ≡ is_under 1 page row) rows
      (λ row placed. only_last row (stands.level row.level (page_of row.first) row.frame placed.found).0)
      all_placed)
    where
      only_last : (row : TableRow) → 0 < row.level → is_before 1 page 0 row ≡ is_under 1 page row
      only_last row some =
          ⊎_elim
          (λ (one : row.level ≡ 1). and_true_right (is_under 1 page row) _ (or_left _ _ (eq-eqb row.level 1 one)))
          (λ (more : row.level ≢ 1). let above : leb row.level 1 ≡ false = lt-leb row.level 1
          (omega (arith, more, some)) in and_left _ _ (and_left _ _ above) ∙ sym (and_left _ _ above))
          (cases_eq row.level 1)

  -- all rows are those of the root and below
  pub all_under : filter (is_under levels 0) rows ≡ rows
  all_under =
      filter_all (is_under levels 0) rows (each_then (IsPlaced rows)
      (λ row. is_under levels 0 row ≡ true) rows (λ row placed.
      let range = stands.level row.level (page_of row.first) row.frame placed.found in
      let sum : row.level + (levels - row.level) ≡ levels = omega (arith, range.1) in
      let up = rw sum at (tables_above pool levels root rows pages stands (levels - row.level) row.level
      (page_of row.first) (some_is _ row.frame placed.found) (omega (arith, range.1))) in
      let there = the_some (table_at rows levels (page_of row.first)) up in
      and_from _ _ (le-leb row.level levels range.1)
      (eq-eqb _ _ (stands.top (page_of row.first) there.0 there.1 ∙ sym (number-first levels)))) all_placed)

-- ---- the rows below one entry after another

-- below all entries
pub before_all : (level page : ℕ) (row : TableRow) → is_before level page 512 row ≡ is_under level page row
before_all level page row = and_true_right (is_under level page row) _
    (or_right _ _ (lt-ltb (index_at level (page_of row.first)) 512 (index_below level (page_of row.first))))

next_numbers : (l level a n i : ℕ) → 1 < level → i < 512 →
    (((leb l level && eqb (a / 512) n) && (eqb l level || ltb (a % 512) (i + 1)))
    ≡ (((leb l level && eqb (a / 512) n) && (eqb l level || ltb (a % 512) i))
    || (leb l (level - 1) && eqb a (n * 512 + i))))
    × ((((leb l level && eqb (a / 512) n) && (eqb l level || ltb (a % 512) i))
    && (leb l (level - 1) && eqb a (n * 512 + i))) ≡ false)
next_numbers l level a n i low small = (grind (arith, nat_tests), grind (arith, nat_tests))

-- the rows before the next entry are those before this one, and those under the table that it names
module _ (level page i : ℕ) (low : 1 < level) (small : i < 512) where
  pub next_test : (row : TableRow) → (is_before level page (i + 1) row ≡ (is_before level page i row
      || is_under (level - 1) (child_page level page i) row)) × ((is_before level page i row
      && is_under (level - 1) (child_page level page i) row) ≡ false)
  next_test row =
      let up : level - 1 + 1 ≡ level = omega (arith, low) in
      let above : number_at level (page_of row.first) ≡ number_at (level - 1) (page_of row.first) / 512 =
      ap (λ (k : ℕ). number_at k (page_of row.first)) (sym up) ∙ number-up (level - 1) (page_of row.first) in
      let child : number_at (level - 1) (child_page level page i) ≡ number_at level page * 512 + i =
      number-page (level - 1) (number_at level page * 512 + i) in
      rw (above, child) (next_numbers row.level level (number_at (level - 1) (page_of row.first))
      (number_at level page) i low small)

  pub next_rows : (rows : List TableRow) → IsPermutation (filter (is_before level page i) rows
      ++ filter (is_under (level - 1) (child_page level page i)) rows) (filter (is_before level page (i + 1)) rows)
  next_rows rows = filter_split (is_before level page (i + 1)) (is_before level page i)
      (is_under (level - 1) (child_page level page i)) rows next_test

  -- the table through which the child goes is this one, by this entry
  pub child_above : number_at level (child_page level page i) ≡ number_at level page
  child_above =
      let up : level - 1 + 1 ≡ level = omega (arith, low) in
      let child : number_at (level - 1) (child_page level page i) ≡ number_at level page * 512 + i =
      number-page (level - 1) (number_at level page * 512 + i) in
      let above : number_at level (child_page level page i) ≡ number_at (level - 1) (child_page level page i) / 512 =
      ap (λ (k : ℕ). number_at k (child_page level page i)) (sym up)
      ∙ number-up (level - 1) (child_page level page i) in
      omega (arith, above, child, small)

  pub child_index : index_at level (child_page level page i) ≡ i
  child_index =
      let child : number_at (level - 1) (child_page level page i) ≡ number_at level page * 512 + i =
      number-page (level - 1) (number_at level page * 512 + i) in
      omega (arith, child, small)
