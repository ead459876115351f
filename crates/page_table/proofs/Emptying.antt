-- A table that nothing goes through is taken out of its page table.
use Rattle.std.proofs.Common.{◌≡◌, ◌≢◌, ℕ, ◌+◌, ◌-◌, ◌*◌, ◌/◌, ◌^◌, ◌<◌, ◌≤◌, Bool, true, false, cond, eqb, leb, not}
use Rattle.std.proofs.Common.{◌&&◌, Option, Some, None, is_some, is_none, List, [], ◌∷◌, ◌++◌, get_or, length, map, refl, sym}
use Rattle.std.proofs.Common.{ltb, ◌||◌}
use Rattle.std.proofs.Common.{◌∙◌, ap, subst, arith, ⊎_elim}
use Rattle.std.specs.List.{count_by, filter}
use Rattle.std.proofs.lemmas.Bool.{and_left, and_parts, and_right, cases_eq, eq-eqb, eqb-true}
use Rattle.std.proofs.lemmas.Bool.{cases_lt, false≢true, false_from_ne_true, le-leb, le-ltb, leb-true, ne_eqb}
use Rattle.std.proofs.lemmas.List.{get_or-set_other, get_or-set_same, get_or_past, length-set}
use Rattle.std.proofs.lemmas.List.Sums.{sum_by-cons}
use Rattle.iofd_words.specs.Levels.{index_at, levels_of, number_at}
use Rattle.iofd_words.specs.Pages.{page_of}
use Rattle.iofd_words.specs.declared.numbers.FrameNo.{FrameNo}
use Rattle.frame_memory.specs.Pool.{FramePool, with_holds}
use Rattle.page_table_words.specs.Emptied.{GivesUp, GoesDown, IsEmpty, is_numbered, number_of, rows_in}
use Rattle.page_table_words.specs.Emptied.{without_table}
use Rattle.page_table_words.specs.Entries.{WritesEntry, entry_at}
use Rattle.page_table_words.specs.Needed.{first_page}
use Rattle.page_table_words.specs.Pruned.{is_used}
use Rattle.page_table_words.specs.Released.{times}
use Rattle.page_table_words.specs.Rows.{MappedPage, TableRow, page_at, table_at}
use Rattle.page_table_words.specs.Stands.{Stands, TableRoot, TableStands}
use Rattle.page_table_words.specs.Taken.{names}
use Rattle.page_table_words.proofs.Decoded.{table_small}
use Rattle.page_table_words.proofs.Lookups.{named_table, none_or_some, same_frame}
use Rattle.page_table_words.proofs.Lookups.{the_some}
use Rattle.page_table_words.proofs.Members.{count_first, count_other, each_then, filter_alike}
use Rattle.page_table_words.proofs.Numbers.{number-page}
use Rattle.page_table_words.proofs.RowsUnder.{IsPlaced, all_placed, is_before, is_under, own_row}
use Rattle.page_table_words.proofs.Releasing.{named_counted, one_row, times_rows}
use Rattle.page_table_words.proofs.Needs.{first_below}
use Rattle.page_table_words.proofs.Tops.{at_top}
use Rattle.page_table_words.proofs.Tables.{stands_still, tables_above}
use Rattle.page_table.proofs.Cutting.{cut_stands}
use Rattle.page_table.proofs.Wanted.{used_page}

-- ---- one level down, where the page goes further

module _ (pool : FramePool) (levels : ℕ) (root : FrameNo) (rows : List TableRow) (pages : List MappedPage)
    (stands : Stands pool levels root rows pages) (above level page : ℕ) (frame : FrameNo)
    (at : table_at rows above page ≡ Some frame) (there : is_some (table_at rows level page) ≡ true)
    (some : 0 < level) (low : level < above) (entry : ℕ) (is : entry ≡ entry_at pool frame.0 (index_at above page)) where
  next_there : is_some (table_at rows (above - 1) page) ≡ true
  next_there =
      let sum : level + (above - 1 - level) ≡ above - 1 = omega (arith, low) in
      rw sum at (tables_above pool levels root rows pages stands (above - 1 - level) level page there
      (omega (arith, low, (stands.level above page frame at).1)))

  pub one_down : (next : FrameNo) → next.0 ≡ entry / 4096 → table_at rows (above - 1) page ≡ Some next
  one_down next named =
      let found = the_some (table_at rows (above - 1) page) next_there in
      let more : 1 < above = omega (arith, some, low) in
      let says = is ∙ stands.entries above page frame at more in
      let value : entry ≡ 4096 * found.0.0 + 3 = says ∙ ap (λ (o : Option FrameNo). elim o [ Some f ↦ 4096 * f.0 + 3 | None ↦ 0 ]) found.1 in
      found.1 ∙ ap (λ (f : FrameNo). Some f) (same_frame found.0 next (omega (arith, value, named)))

  pub down_small : entry / 4096 < 2 ^ 32
  down_small =
      let more : 1 < above = omega (arith, some, low) in
      table_small (table_at rows (above - 1) page) entry (is ∙ stands.entries above page frame at more)
      (λ f found. stands.fits (above - 1) page f found)

-- ---- rows and counts

pub count_parts : (p q : TableRow → Bool) (rows : List TableRow)
    → count_by p (filter q rows) + count_by p (filter (λ row. not (q row)) rows) ≡ count_by p rows
count_parts p q [] = refl
count_parts p q (row ∷ rows) = by_test (q row) (count_parts p q rows)
  where
    by_test : (b : Bool) → count_by p (filter q rows) + count_by p (filter (λ r. not (q r)) rows) ≡ count_by p rows
        → count_by p (cond b (row ∷ filter q rows) (filter q rows))
        + count_by p (cond (not b) (row ∷ filter (λ r. not (q r)) rows) (filter (λ r. not (q r)) rows))
        ≡ count_by p (row ∷ rows)
    by_test true rest =
        let first = sum_by-cons (λ (r : TableRow). cond (p r) 1 0) row (filter q rows) in
        let all = sum_by-cons (λ (r : TableRow). cond (p r) 1 0) row rows in
        omega (arith, first, all, rest)
    by_test false rest =
        let first = sum_by-cons (λ (r : TableRow). cond (p r) 1 0) row (filter (λ r. not (q r)) rows) in
        let all = sum_by-cons (λ (r : TableRow). cond (p r) 1 0) row rows in
        omega (arith, first, all, rest)

-- ---- the table that nothing goes through

module _ (old mid : FramePool) (levels : ℕ) (root : FrameNo) (rows : List TableRow) (pages : List MappedPage)
    (stands : Stands old levels root rows pages) (level number : ℕ) (empty : IsEmpty levels rows pages level number)
    (above frame : FrameNo) (some : 0 < level)
    (at_above : table_at rows (level + 1) (first_page level number) ≡ Some above)
    (at_frame : table_at rows level (first_page level number) ≡ Some frame)
    (writes : WritesEntry old mid above.0 (level + 1) (first_page level number) 0) where
  page : ℕ
  page = first_page level number

  number_is : number_at level page ≡ number
  unfolding page
  number_is = number-page level number

  down : level + 1 - 1 ≡ level
  down = omega arith

  unused : is_used pages level (number_at level page) ≡ false
  unused = false_from_ne_true _ (λ used.
      let (at, through, mapped) = used_page pages level (number_at level page) used in
      let to = the_some (page_at pages at) mapped in
      none_or_some (page_at pages at) to.0 (empty.unmapped at (through ∙ number_is)) to.1)

  cut_mid : Stands mid levels root (filter (λ row. not (is_under level page row)) rows) pages
  unfolding page
  cut_mid = subst (λ (k : ℕ). Stands mid levels root (filter (λ row. not (is_under k page row)) rows) pages) down
      (cut_stands old mid levels root rows pages stands (level + 1) page above (omega (arith, some)) at_above
      (subst (λ (k : ℕ). is_used pages k (number_at k page) ≡ false) (sym down) unused) writes)

  -- nothing is below it
  own_alone : (row : TableRow) → IsPlaced rows row → is_under level page row ≡ is_numbered level number row
  own_alone row placed =
      ⊎_elim
      (λ (same : row.level ≡ level).
      ap (λ (b : Bool). b && eqb (number_at level (page_of row.first)) (number_at level page))
      (le-leb row.level level (omega (arith, same)))
      ∙ ap (λ (n : ℕ). eqb (number_at level (page_of row.first)) n) number_is
      ∙ ap (λ (k : ℕ). eqb (number_at k (page_of row.first)) number) (sym same)
      ∙ sym (ap (λ (b : Bool). b && eqb (number_of row) number) (eq-eqb row.level level same)))
      (λ (differ : row.level ≢ level).
      false_from_ne_true (is_under level page row) (λ under.
      let parts =
      and_parts (leb row.level level) (eqb (number_at level (page_of row.first)) (number_at level page)) under in
      let low = leb-true row.level level parts.0 in
      none_or_some _ row.frame
      (empty.below row.level (page_of row.first) (omega (arith, low, differ)) (eqb-true _ _ parts.1 ∙ number_is))
      placed.found)
      ∙ sym (and_left _ _ (ne_eqb row.level level differ)))
      (cases_eq row.level level)

  pub left_mid : Stands mid levels root (without_table level number rows) pages
  left_mid = subst (λ (left : List TableRow). Stands mid levels root left pages)
      (filter_alike (λ row. not (is_under level page row)) (λ row. not (is_numbered level number row)) rows
      (each_then (IsPlaced rows) (λ row. not (is_under level page row) ≡ not (is_numbered level number row)) rows
      (λ row placed. ap not (own_alone row placed)) (all_placed old levels root rows pages stands)))
      cut_mid

  -- its own row
  own_frame : map (λ row. row.frame) (filter (is_numbered level number) rows) ≡ frame ∷ []
  unfolding page
  own_frame = ap (map (λ (row : TableRow). row.frame))
      (sym (filter_alike (is_before level page 0) (is_numbered level number) rows
      (each_then (IsPlaced rows) (λ row. is_before level page 0 row ≡ is_numbered level number row) rows
      (λ row placed. first_test row) (all_placed old levels root rows pages stands))))
      ∙ own_row old levels root rows pages stands level page frame at_frame
    where
      with_true : (n : Bool) → (n && true) ≡ n
      with_true true = refl
      with_true false = refl

      same_tests : (a e b z n : Bool) → a ≡ true → b ≡ true → e ≡ n → ((a && e) && (b || z)) ≡ (b && n)
      same_tests a e b z n is_a is_b is_n = rw (is_a, is_b, is_n) (with_true n)

      other_tests : (a e b z n : Bool) → b ≡ false → z ≡ false → ((a && e) && (b || z)) ≡ (b && n)
      other_tests a e b z n is_b is_z = rw (is_b, is_z) (and_right (a && e) false refl)

      first_test : (row : TableRow) → is_before level page 0 row ≡ is_numbered level number row
      first_test row =
          ⊎_elim
          (λ (same : row.level ≡ level).
          same_tests (leb row.level level) (eqb (number_at level (page_of row.first)) (number_at level page))
          (eqb row.level level) (ltb (index_at level (page_of row.first)) 0) (eqb (number_of row) number)
          (le-leb row.level level (omega (arith, same))) (eq-eqb row.level level same)
          (ap (λ (n : ℕ). eqb (number_at level (page_of row.first)) n) number_is
          ∙ ap (λ (k : ℕ). eqb (number_at k (page_of row.first)) number) (sym same)))
          (λ (differ : row.level ≢ level).
          other_tests (leb row.level level) (eqb (number_at level (page_of row.first)) (number_at level page))
          (eqb row.level level) (ltb (index_at level (page_of row.first)) 0) (eqb (number_of row) number)
          (ne_eqb row.level level differ) (le-ltb (index_at level (page_of row.first)) 0 (omega arith)))
          (cases_eq row.level level)

  -- its frame is its own
  pub went : (f : ℕ) → times f (frame ∷ []) + rows_in (without_table level number rows) f ≡ rows_in rows f
  went f =
      let parts = count_parts (λ (row : TableRow). eqb row.frame.0 f) (is_numbered level number) rows in
      let own : count_by (λ (row : TableRow). eqb row.frame.0 f) (filter (is_numbered level number) rows)
      ≡ times f (frame ∷ []) =
      sym (times_rows f (filter (is_numbered level number) rows)) ∙ ap (times f) own_frame in
      omega (arith, parts, own)

  here_once : times frame.0 (frame ∷ []) ≡ 1
  here_once = count_first (λ (g : FrameNo). eqb g.0 frame.0) frame [] (eq-eqb frame.0 frame.0 refl)

  not_there : (f : ℕ) → f ≢ frame.0 → times f (frame ∷ []) ≡ 0
  not_there f differ = count_other (λ (g : FrameNo). eqb g.0 f) frame [] (ne_eqb frame.0 f (λ same. differ (sym same)))

  held : get_or mid.holds frame.0 0 ≡ 1
  held = ap (λ (holds : List ℕ). get_or holds frame.0 0) writes.holds
      ∙ stands.held level (first_page level number) frame at_frame

  pub may_release : 0 < get_or mid.holds frame.0 0
  may_release = let one = held in omega (arith, one)

  frame_within : frame.0 < length mid.holds
  frame_within =
      ⊎_elim (λ (below : frame.0 < length mid.holds). below)
      (λ (past : length mid.holds ≤ frame.0). let one = held in
      absurd (omega (arith, one, get_or_past mid.holds frame.0 0 past)))
      (cases_lt frame.0 (length mid.holds))

  abbrev new : FramePool
  new = with_holds mid frame.0 (get_or mid.holds frame.0 0 - 1)

  holds_left : (f : ℕ) → get_or new.holds f 0 + times f (frame ∷ []) ≡ get_or old.holds f 0
  holds_left f =
      let before = ap (λ (holds : List ℕ). get_or holds f 0) writes.holds in
      ⊎_elim
      (λ (same : f ≡ frame.0).
      let one = held in
      let now = get_or-set_same mid.holds frame.0 (get_or mid.holds frame.0 0 - 1) 0 frame_within in
      let listed = here_once in
      let is : get_or old.holds f 0 ≡ get_or mid.holds frame.0 0 =
      sym before ∙ ap (λ (g : ℕ). get_or mid.holds g 0) same in
      rw same (omega (arith, one, now, listed, rw same at is)))
      (λ (differ : f ≢ frame.0).
      let now = get_or-set_other mid.holds frame.0 f (get_or mid.holds frame.0 0 - 1) 0 differ in
      let none = not_there f differ in
      omega (arith, now, none, before))
      (cases_eq f frame.0)

  pub given_up : (listed listing : List FrameNo) → listing ≡ listed ++ frame ∷ []
      → GivesUp old new rows (without_table level number rows) listed listing
  given_up listed listing is = record {
    given = frame ∷ [];
    is = is;
    went = went;
    holds = holds_left;
    bytes = λ f none. writes.bytes f (λ same. false≢true (sym none ∙ ap (names rows) same
        ∙ named_table rows (level + 1) (first_page level number) above at_above));
    count = length-set mid.holds frame.0 (get_or mid.holds frame.0 0 - 1)
        ∙ ap (λ (holds : List ℕ). length holds) writes.holds;
  }

  pub left_stands : Stands new levels root (without_table level number rows) pages
  left_stands =
      stands_still mid new levels root (without_table level number rows) pages left_mid
      (record {
        words = λ f i named small. refl;
        holds = λ f named. get_or-set_other mid.holds frame.0 f (get_or mid.holds frame.0 0 - 1) 0 (λ same. other f named same);
      })
    where
      other : (f : ℕ) → names (without_table level number rows) f ≡ true → f ≡ frame.0 → ⊥
      other f named same =
          let more = named_counted (λ (row : TableRow). eqb row.frame.0 f) (without_table level number rows) named in
          let all = went f in
          let few = one_row old levels root rows pages stands f in
          let one = stands.held level (first_page level number) frame at_frame in
          let is : get_or old.holds f 0 ≡ get_or old.holds frame.0 0 = ap (λ (g : ℕ). get_or old.holds g 0) same in
          let listed : times f (frame ∷ []) ≡ 1 = ap (λ (g : ℕ). times g (frame ∷ [])) same ∙ here_once in
          omega (arith, more, all, few, one, is, listed)

-- ---- where the way of a page leads to it

module _ (pool : FramePool) (table : TableRoot) (level number : ℕ)
    (below : number < 2 ^ (9 * (levels_of table.width - level))) (rows : List TableRow) (pages : List MappedPage)
    (stands : TableStands pool table rows pages) (empty : IsEmpty (levels_of table.width) rows pages level number) where
  pub from_root : table_at rows (levels_of table.width) (first_page level number) ≡ Some table.root
  from_root = at_top pool table rows pages (first_page level number) stands
      (first_below table.width level number (let low = empty.low in omega (arith, low)) below)

  pub present : is_some (table_at rows level (first_page level number)) ≡ true
  present = some_from (table_at rows level (first_page level number)) empty.there
    where
      some_from : (o : Option FrameNo) → is_none o ≡ false → is_some o ≡ true
      some_from None is = absurd (false≢true (sym is))
      some_from (Some f) is = refl

  pub over : is_some (table_at rows (level + 1) (first_page level number)) ≡ true
  over =
      let found = the_some (table_at rows level (first_page level number)) present in
      stands.above level (first_page level number) found.0 found.1 empty.low

  pub way_above : GoesDown pool table.root (levels_of table.width) (level + 1) (first_page level number)
  way_above = record {
    levels = levels_of table.width;
    root = table.root;
    rows = rows;
    pages = pages;
    stands = stands;
    at = from_root;
    there = over;
  }

  module _ (above : FrameNo) (at : table_at rows (level + 1) (first_page level number) ≡ Some above) where
    pub way_down : GoesDown pool above (level + 1) level (first_page level number)
    way_down = record {
      levels = levels_of table.width;
      root = table.root;
      rows = rows;
      pages = pages;
      stands = stands;
      at = at;
      there = present;
    }

  pub reached : (above frame : FrameNo)
      → ((levels : ℕ) (root : FrameNo) (rows : List TableRow) (pages : List MappedPage) → Stands pool levels root rows pages
      → table_at rows (levels_of table.width) (first_page level number) ≡ Some table.root
      → is_some (table_at rows (level + 1) (first_page level number)) ≡ true
      → table_at rows (level + 1) (first_page level number) ≡ Some above)
      → ((levels : ℕ) (root : FrameNo) (rows : List TableRow) (pages : List MappedPage) → Stands pool levels root rows pages
      → table_at rows (level + 1) (first_page level number) ≡ Some above
      → is_some (table_at rows level (first_page level number)) ≡ true
      → table_at rows level (first_page level number) ≡ Some frame)
      → (table_at rows (level + 1) (first_page level number) ≡ Some above)
      × (table_at rows level (first_page level number) ≡ Some frame)
  reached above frame upper lower =
      let at = upper (levels_of table.width) table.root rows pages stands from_root over in
      (at, lower (levels_of table.width) table.root rows pages stands at present)
