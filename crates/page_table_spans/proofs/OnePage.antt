-- The tables that one page lacks.
use Rattle.std.proofs.Common.{◌≡◌, ℕ, zero, suc, ◌+◌, ◌-◌, ◌<◌, ◌≤◌, Bool, true, false, cond, eqb, ◌&&◌, ◌||◌, Some}
use Rattle.std.proofs.Common.{None, List, [], ◌∷◌, length, refl, ◌∙◌, ap, ⊎_elim, arith}
use Rattle.std.specs.Prelude.{is_some}
use Rattle.std.specs.List.{find}
use Rattle.std.specs.Option.{option_map}
use Rattle.std.proofs.lemmas.Bool.{cases_lt, ne_eqb}
use Rattle.iofd_words.specs.declared.numbers.FrameNo.{FrameNo}
use Rattle.iofd_words.specs.Levels.{first_address, levels_of}
use Rattle.iofd_words.specs.TablePlaces.{TablePlace, lacking, places_from}
use Rattle.frame_memory.specs.Pool.{FramePool}
use Rattle.page_table_words.specs.Mapped.{IsBelow}
use Rattle.page_table_words.specs.Reached.{IsLowest}
use Rattle.page_table_words.specs.Rows.{MappedPage, TableRow, is_table, table_at}
use Rattle.page_table_words.specs.Stands.{TableRoot, TableStands}
use Rattle.page_table_words.specs.Taken.{missing, rows_below}
use Rattle.page_table_words.proofs.Lookups.{cases_Option, some_is}
use Rattle.page_table_words.proofs.Missing.{missing_is}
use Rattle.page_table_words.proofs.Tables.{none_below, tables_above}
use Rattle.page_table_words.proofs.Tops.{at_top, some_levels}
use Rattle.page_table_spans.specs.Levels.{place_at}
use Rattle.page_table_spans.specs.Spans.{has_row, rows_in}
use Rattle.page_table_spans.proofs.Lacking.{and_one}

-- ---- the levels of a page

-- where none of its tables is there, it lacks all
none_there : (t : TablePlace → Bool) (n page : ℕ) → ((k : ℕ) → 0 < k → k ≤ n → t (place_at k page) ≡ false)
    → lacking t (places_from n page) ≡ places_from n page
none_there t zero page none = refl
none_there t (suc n) page none =
    let place = place_at (suc n) page in
    ap (λ (b : Bool). cond b (lacking t (places_from n page)) (place ∷ lacking (and_one t place) (places_from n page)))
    (none (suc n) (omega arith) (omega arith))
    ∙ ap (λ (ps : List TablePlace). place ∷ ps) (none_there (and_one t place) n page (λ k some low. still k some low))
  where
    still : (k : ℕ) → 0 < k → k ≤ n → and_one t (place_at (suc n) page) (place_at k page) ≡ false
    still k some low =
        ap (λ (b : Bool). b || (eqb (suc n) k && eqb (first_address (suc n) page) (first_address k page)))
        (none k some (omega (arith, low)))
        ∙ ap (λ (b : Bool). b && eqb (first_address (suc n) page) (first_address k page))
        (ne_eqb (suc n) k (omega (arith, low)))

-- the upper ones that are there are passed over
passed_over : (t : TablePlace → Bool) (m n page : ℕ) → m ≤ n → ((k : ℕ) → m < k → k ≤ n → t (place_at k page) ≡ true)
    → lacking t (places_from n page) ≡ lacking t (places_from m page)
passed_over t m zero page low there = let none : m ≡ 0 = omega (arith, low) in rw none refl
passed_over t m (suc n) page low there =
    ⊎_elim
    (λ (past : n < m). let same : m ≡ suc n = omega (arith, low, past) in rw same refl)
    (λ (below : m ≤ n).
    let place = place_at (suc n) page in
    ap (λ (b : Bool). cond b (lacking t (places_from n page)) (place ∷ lacking (and_one t place) (places_from n page)))
    (there (suc n) (omega (arith, below)) (omega arith))
    ∙ passed_over t m n page below (λ k above few. there k above (omega (arith, few))))
    (cases_lt n m)

-- a row of it is there where the look-up finds it
pub row_there : (rows : List TableRow) (level page : ℕ)
    → has_row rows (place_at level page) ≡ is_some (table_at rows level page)
unfolding table_at
row_there [] level page = refl
row_there (row ∷ rows) level page = by_test (row_there rows level page) (is_table level page row)
  where
    by_test : has_row rows (place_at level page) ≡ is_some (table_at rows level page) → (b : Bool)
        → (b || has_row rows (place_at level page)) ≡ is_some
        (option_map (λ (r : TableRow). r.frame) (cond b (Some row) (find (is_table level page) rows)))
    by_test rest true = refl
    by_test rest false = rest

lowest_from : (rows : List TableRow) (page n level : ℕ) (table : FrameNo) → level ≡ n + 1
    → table_at rows level page ≡ Some table → (low : ℕ) × (lowest : FrameNo) × IsLowest rows low page lowest
lowest_from rows page zero level table is at =
    (level, table, record { at = at; last = λ low. absurd (omega (arith, is, low)) })
lowest_from rows page (suc n) level table is at =
    ⊎_elim (λ (none : table_at rows (level - 1) page ≡ None). (level, table, record { at = at; last = λ low. none }))
    (λ (some : (f : FrameNo) × (table_at rows (level - 1) page ≡ Some f)). lowest_from rows page n (level - 1) some.0
    (omega (arith, is)) some.1)
    (cases_Option (table_at rows (level - 1) page))

module _ (pool : FramePool) (table : TableRoot) (rows : List TableRow) (pages : List MappedPage) (page : ℕ)
    (stands : TableStands pool table rows pages) (below : IsBelow table.width page) where
  levels : ℕ
  levels = levels_of table.width

  lacks : ℕ
  lacks = missing rows levels page

  lowest : (low : ℕ) × (lowest : FrameNo) × IsLowest rows low page lowest
  unfolding levels
  lowest = lowest_from rows page (levels - 1) levels table.root (omega (arith, some_levels table.width))
      (at_top pool table rows pages page stands below)

  lacks_is : lacks ≡ lowest.0 - 1
  unfolding levels lacks
  lacks_is = missing_is pool levels table.root rows pages lowest.0 page lowest.1 stands lowest.2

  pub page_lacks : lacking (has_row rows) (places_from (levels_of table.width - 1) page) ≡ places_from
      (missing rows (levels_of table.width) page) page
  unfolding levels lacks
  page_lacks =
      passed_over (has_row rows) lacks (levels - 1) page (omega (arith, lacks_is, range.1))
      (λ k above few. row_there rows k page ∙ present k above few)
      ∙ none_there (has_row rows) lacks page (λ k some low. row_there rows k page ∙ ap is_some (absent k some low))
    where
      range : (0 < lowest.0) × (lowest.0 ≤ levels)
      range = stands.level lowest.0 page lowest.1 lowest.2.at

      present : (k : ℕ) → lacks < k → k ≤ levels - 1 → is_some (table_at rows k page) ≡ true
      present k above few =
          let same : lowest.0 + (k - lowest.0) ≡ k = omega (arith, above, lacks_is) in
          rw same at (tables_above pool levels table.root rows pages stands (k - lowest.0) lowest.0 page
          (some_is _ lowest.1 lowest.2.at) (omega (arith, few, range.1, above, lacks_is)))

      absent : (k : ℕ) → 0 < k → k ≤ lacks → table_at rows k page ≡ None
      absent k some low = none_below pool levels table.root rows pages stands (lowest.0 - 1) page k
          (lowest.2.last (omega (arith, lacks_is, some, low))) (omega (arith, range.1)) (omega (arith, lacks_is, low))

-- ---- their rows

pub length_places : (n page : ℕ) → length (places_from n page) ≡ n
length_places zero page = refl
length_places (suc n) page = ap suc (length_places n page)

pub rows_of_page : (n page : ℕ) (frames : List FrameNo) → length frames ≤ n
    → rows_in (places_from n page) frames ≡ rows_below (n + 1) page frames
rows_of_page zero page [] few = refl
rows_of_page zero page (frame ∷ frames) few = absurd (omega (arith, few))
rows_of_page (suc n) page [] few = refl
rows_of_page (suc n) page (frame ∷ frames) few =
    let same : n + 1 ≡ suc n + 1 - 1 = omega arith in
    ap (λ (rows : List TableRow). record { level = suc n; first = first_address (suc n) page; frame = frame } ∷ rows)
    (rows_of_page n page frames (omega (arith, few)) ∙ ap (λ (k : ℕ). rows_below k page frames) same)
    ∙ ap (λ (k : ℕ). let row : TableRow = record { level = k; first = first_address k page; frame = frame } in row
    ∷ rows_below (suc n + 1 - 1) page frames) (let e : suc n ≡ suc n + 1 - 1 = omega arith in e)
