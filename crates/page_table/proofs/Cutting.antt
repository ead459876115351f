-- A table that is cut off, with all below it.
use Rattle.std.proofs.Common.{◌≡◌, ◌≢◌, ℕ, ◌+◌, ◌-◌, ◌*◌, ◌%◌, ◌^◌, ◌<◌, ◌≤◌, Bool, true, false, cond, eqb, leb, not}
use Rattle.std.proofs.Common.{◌&&◌, Option, Some, None, List, [], ◌∷◌, get_or, refl, sym, ◌∙◌, ap, arith, inl, inr, ◌⊎◌}
use Rattle.std.proofs.Common.{⊎_elim}
use Rattle.std.specs.List.{count_by, filter, find, list_all}
use Rattle.std.specs.Option.{option_map}
use Rattle.std.proofs.lemmas.Bool.{and_from, and_left, and_parts, cases_Bool, cases_eq, eq-eqb, eqb-true, false≢true}
use Rattle.std.proofs.lemmas.Bool.{le-leb, leb-true, lt-leb}
use Rattle.std.proofs.lemmas.List.Sums.{sum_by-cons}
use Rattle.iofd_words.specs.Pages.{page_of}
use Rattle.iofd_words.specs.declared.numbers.FrameNo.{FrameNo}
use Rattle.frame_memory.specs.Pool.{FramePool}
use Rattle.page_table_words.specs.Entries.{WritesEntry, entry_at, table_entry}
use Rattle.iofd_words.specs.Levels.{first_address, index_at, number_at}
use Rattle.page_table_words.specs.Pruned.{is_used}
use Rattle.page_table_words.specs.Rows.{MappedPage, TableRow, is_table, page_at, table_at}
use Rattle.page_table_words.specs.Stands.{Stands}
use Rattle.page_table_words.proofs.Lookups.{both_some, none_or_some, same_frame, some_is, table_at-same, the_some}
use Rattle.page_table_words.proofs.Numbers.{number-page, page_of-first, same_above, same_below}
use Rattle.page_table_words.proofs.RowsUnder.{is_under}
use Rattle.page_table.proofs.Wanted.{page_used, up_same}

-- ---- rows that pass a test

find_passed : {X : Type 0} (p q : X → Bool) (b : Bool) (xs : List X) → ((x : X) → p x ≡ true → q x ≡ b)
    → find p (filter q xs) ≡ cond b (find p xs) None
find_passed p q true [] each = refl
find_passed p q false [] each = refl
find_passed {X = X} p q b (x ∷ xs) each = split (q x) ∙ by_tests (p x) (q x) (each x) (find_passed p q b xs each)
  where
    split : (d : Bool) → find p (cond d (x ∷ filter q xs) (filter q xs)) ≡ cond d
        (cond (p x) (Some x) (find p (filter q xs))) (find p (filter q xs))
    split true = refl
    split false = refl

    by_tests : (c d : Bool) → (c ≡ true → d ≡ b) → find p (filter q xs) ≡ cond b (find p xs) None
        → cond d (cond c (Some x) (find p (filter q xs))) (find p (filter q xs)) ≡ cond b
        (cond c (Some x) (find p xs)) None
    by_tests true true same rest = ap {B = Option X} (λ (e : Bool). cond e (Some x) None) (same refl)
    by_tests true false same rest = rest ∙ ap {B = Option X} (λ (e : Bool). cond e (find p xs) None) (sym (same refl))
        ∙ ap {B = Option X} (λ (e : Bool). cond e (Some x) None) (same refl)
    by_tests false true same rest = rest
    by_tests false false same rest = rest

map_cond : {X Y : Type 0} (f : X → Y) (b : Bool) (o : Option X)
    → option_map f (cond b o None) ≡ cond b (option_map f o) None
map_cond f true o = refl
map_cond f false o = refl

-- a test that tells the rows of one place apart from none
pub passed_at : (q : TableRow → Bool) (b : Bool) (rows : List TableRow) (level page : ℕ)
    → ((row : TableRow) → is_table level page row ≡ true → q row ≡ b)
    → table_at (filter q rows) level page ≡ cond b (table_at rows level page) None
unfolding table_at
passed_at q b rows level page each = ap (option_map (λ (row : TableRow). row.frame))
    (find_passed (is_table level page) q b rows each)
    ∙ map_cond (λ (row : TableRow). row.frame) b (find (is_table level page) rows)

passed_all : (p q : TableRow → Bool) (rows : List TableRow) → list_all p rows ≡ true → list_all p (filter q rows) ≡ true
passed_all p q [] all = refl
passed_all p q (row ∷ rows) all =
    let parts = and_parts (p row) (list_all p rows) all in
    by_test (q row) parts.0 (passed_all p q rows parts.1)
  where
    by_test : (b : Bool) → p row ≡ true → list_all p (filter q rows) ≡ true
        → list_all p (cond b (row ∷ filter q rows) (filter q rows)) ≡ true
    by_test true one rest = and_from _ _ one rest
    by_test false one rest = rest

pub passed_fewer : (p q : TableRow → Bool) (rows : List TableRow) → count_by p (filter q rows) ≤ count_by p rows
passed_fewer p q [] = omega arith
passed_fewer p q (row ∷ rows) = by_test (q row) (passed_fewer p q rows)
  where
    by_test : (b : Bool) → count_by p (filter q rows) ≤ count_by p rows
        → count_by p (cond b (row ∷ filter q rows) (filter q rows)) ≤ count_by p (row ∷ rows)
    by_test true rest = let one = sum_by-cons (λ (r : TableRow). cond (p r) 1 0) row rows in let other =
        sum_by-cons (λ (r : TableRow). cond (p r) 1 0) row (filter q rows) in omega (arith, one, other, rest)
    by_test false rest = let one = sum_by-cons (λ (r : TableRow). cond (p r) 1 0) row rows in omega (arith, one, rest)

-- where the row of a place begins
pub row_number : (level k page : ℕ) (row : TableRow) → level ≤ k → is_table level page row ≡ true
    → (row.level ≡ level) × (number_at k (page_of row.first) ≡ number_at k page)
row_number level k page row low is =
    let parts = and_parts (eqb row.level level) (eqb row.first (first_address level page)) is in
    let first : page_of row.first ≡ number_at level page * 2 ^ (9 * level) =
    ap page_of (eqb-true _ _ parts.1) ∙ page_of-first level page in (
      eqb-true row.level level parts.0,
      up_same level k (page_of row.first) page low (ap (number_at level) first
          ∙ number-page level (number_at level page)),
    )

-- the place is that of a table below this one, or its own
abbrev pub lies_under : ℕ → ℕ → ℕ → ℕ → Bool
lies_under level page other at = leb other level && eqb (number_at level at) (number_at level page)

pub under_at : (level page other at : ℕ) (row : TableRow) → is_table other at row ≡ true
    → is_under level page row ≡ lies_under level page other at
under_at level page other at row is =
    ⊎_elim
    (λ (low : leb other level ≡ true).
    let place = row_number other level at row (leb-true other level low) is in
    ap (λ (k : ℕ). leb k level && eqb (number_at level (page_of row.first)) (number_at level page)) place.0
    ∙ ap (λ (n : ℕ). leb other level && eqb n (number_at level page)) place.1)
    (λ (high : leb other level ≡ false).
    let same = (row_number other other at row (omega arith) is).0 in
    and_left _ _ (ap (λ (k : ℕ). leb k level) same ∙ high) ∙ sym (and_left _ _ high))
    (cases_Bool (leb other level))

-- ---- the tables under a page of the level below are cut off, where the entry that leads to them is taken away and no
-- mapped page goes through them

module _ (old new : FramePool) (levels : ℕ) (root : FrameNo) (rows : List TableRow) (pages : List MappedPage)
    (stands : Stands old levels root rows pages) (level page : ℕ) (table : FrameNo) (low : 1 < level)
    (at_table : table_at rows level page ≡ Some table)
    (unused : is_used pages (level - 1) (number_at (level - 1) page) ≡ false)
    (writes : WritesEntry old new table.0 level page 0) where
  cut : List TableRow
  cut = filter (λ row. not (is_under (level - 1) page row)) rows

  few : level ≤ levels
  few = (stands.level level page table at_table).1

  place : (other at : ℕ) → table_at cut other at ≡ cond (not (lies_under (level - 1) page other at))
      (table_at rows other at) None
  unfolding cut
  place other at = passed_at (λ row. not (is_under (level - 1) page row)) (not (lies_under (level - 1) page other at))
      rows other at (λ row is. ap not (under_at (level - 1) page other at row is))

  gone_at : (other at : ℕ) → lies_under (level - 1) page other at ≡ true → table_at cut other at ≡ None
  gone_at other at under = place other at ∙ ap (λ (b : Bool). cond (not b) (table_at rows other at) None) under

  kept_at : (other at : ℕ) → lies_under (level - 1) page other at ≡ false
      → table_at cut other at ≡ table_at rows other at
  kept_at other at beside = place other at ∙ ap (λ (b : Bool). cond (not b) (table_at rows other at) None) beside

  back : (other at : ℕ) (f : FrameNo) → table_at cut other at ≡ Some f → (table_at rows other at ≡ Some f)
      × (lies_under (level - 1) page other at ≡ false)
  back other at f is =
      ⊎_elim (λ (under : lies_under (level - 1) page other at ≡ true). none_or_some _ f (gone_at other at under) is)
      (λ (beside : lies_under (level - 1) page other at ≡ false). (sym (kept_at other at beside) ∙ is, beside))
      (cases_Bool (lies_under (level - 1) page other at))

  -- a place above isn't under, nor one beside
  above_beside : (other at : ℕ) → level ≤ other → lies_under (level - 1) page other at ≡ false
  above_beside other at high = and_left _ _ (lt-leb other (level - 1) (omega (arith, high, low)))

  up : level - 1 + 1 ≡ level
  up = omega (arith, low)

  -- pages that go through one table below the entry go through one above it, by one entry
  joined : (at : ℕ) → number_at (level - 1) at ≡ number_at (level - 1) page
      → (number_at level at ≡ number_at level page) × (index_at level at ≡ index_at level page)
  joined at same = (
    ap (λ (k : ℕ). number_at k at) (sym up) ∙ same_above (level - 1) at page same
        ∙ ap (λ (k : ℕ). number_at k page) up,
    ap (λ (n : ℕ). n % 512) same,
  )

  split : (at : ℕ) → number_at level at ≡ number_at level page → index_at level at ≡ index_at level page
      → number_at (level - 1) at ≡ number_at (level - 1) page
  split at same index = same_below (level - 1) at page (ap (λ (k : ℕ). number_at k at) up ∙ same
      ∙ ap (λ (k : ℕ). number_at k page) (sym up)) index

  entry_left : (other at : ℕ) (f : FrameNo) → table_at cut other at ≡ Some f → 1 < other
      → entry_at new f.0 (index_at other at) ≡ table_entry (table_at cut (other - 1) at)
  entry_left other at f is more =
      let it = back other at f is in
      ⊎_elim
      (λ (under : lies_under (level - 1) page (other - 1) at ≡ true).
      let parts =
      and_parts (leb (other - 1) (level - 1)) (eqb (number_at (level - 1) at) (number_at (level - 1) page)) under in
      let same = eqb-true _ _ parts.1 in
      let here : other ≡ level = first_under other at more parts.0 same it.1 in
      let both = joined at same in
      let frame : f ≡ table = both_some _ f table (sym (ap (λ (k : ℕ). table_at rows k at) here) ∙ it.0)
      (table_at-same rows level at page both.0 ∙ at_table) in
      ap (λ (g : FrameNo). entry_at new g.0 (index_at other at)) frame
      ∙ ap (λ (k : ℕ). entry_at new table.0 (index_at k at)) here ∙ ap (entry_at new table.0) both.1 ∙ writes.entry
      ∙ ap table_entry (sym (gone_at (other - 1) at under)))
      (λ (beside : lies_under (level - 1) page (other - 1) at ≡ false).
      writes.others f.0 (index_at other at) (differ other at f it.0 more beside) ∙ stands.entries other at f it.0 more
      ∙ ap table_entry (sym (kept_at (other - 1) at beside)))
      (cases_Bool (lies_under (level - 1) page (other - 1) at))
    where
      first_under : (other at : ℕ) → 1 < other → leb (other - 1) (level - 1) ≡ true
          → number_at (level - 1) at ≡ number_at (level - 1) page → lies_under (level - 1) page other at ≡ false
          → other ≡ level
      first_under other at more lower same beside =
          let bound = leb-true (other - 1) (level - 1) lower in
          ⊎_elim (λ (it : other ≡ level). it)
          (λ (differ : other ≢ level). absurd (false≢true (sym beside
          ∙ and_from _ _ (le-leb other (level - 1) (omega (arith, bound, differ, more, low)))
          (eq-eqb _ _ same))))
          (cases_eq other level)

      differ : (other at : ℕ) (f : FrameNo) → table_at rows other at ≡ Some f → 1 < other
          → lies_under (level - 1) page (other - 1) at ≡ false
          → (f.0 ≢ table.0) ⊎ (index_at other at ≢ index_at level page)
      differ other at f is more beside =
          ⊎_elim
          (λ (same : f.0 ≡ table.0).
          let own = stands.own other at level page f is (at_table
          ∙ ap (λ (g : FrameNo). Some g) (sym (same_frame f table same))) in
          inr (λ index.
          let number = split at (ap (λ (k : ℕ). number_at k at) (sym own.0) ∙ own.1)
          (ap (λ (k : ℕ). index_at k at) (sym own.0) ∙ index) in
          false≢true (sym beside ∙ and_from _ _ (le-leb (other - 1) (level - 1) (omega (arith, own.0)))
          (eq-eqb _ _ number))))
          (λ (another : f.0 ≢ table.0). inl another)
          (cases_eq f.0 table.0)

  pub cut_stands : Stands new levels root (filter (λ row. not (is_under (level - 1) page row)) rows) pages
  unfolding cut
  cut_stands = record {
    at_root = kept_at levels 0 (above_beside levels 0 few) ∙ stands.at_root;
    top = λ at f is. stands.top at f (back levels at f is).0;
    level = λ other at f is. stands.level other at f (back other at f is).0;
    above = λ other at f is lower.
        let it = back other at f is in
        let over = the_some _ (stands.above other at f it.0 lower) in
        some_is _ over.0 (kept_at (other + 1) at (over_beside other at it.1) ∙ over.1);
    placed = passed_all (λ row. eqb row.first (first_address row.level (page_of row.first)))
        (λ row. not (is_under (level - 1) page row)) rows stands.placed;
    once = λ other at. let fewer = passed_fewer (is_table other at) (λ row. not (is_under (level - 1) page row)) rows in
        omega (arith, fewer, stands.once other at);
    held = λ other at f is. ap (λ (holds : List ℕ). get_or holds f.0 0) writes.holds
        ∙ stands.held other at f (back other at f is).0;
    own = λ other at another to f is too. stands.own other at another to f (back other at f is).0
        (back another to f too).0;
    fits = λ other at f is. stands.fits other at f (back other at f is).0;
    entries = entry_left;
    leaves = λ at f is.
        let it = (back 1 at f is).0 in
        writes.others f.0 (index_at 1 at) (inl (λ same. not_last at f it same)) ∙ stands.leaves at f it;
    mapped = λ at to is.
        let last = the_some _ (stands.mapped at to is) in
        some_is _ last.0 (kept_at 1 at (used_beside at to is) ∙ last.1);
    rights = stands.rights;
  }
    where
      over_beside : (other at : ℕ) → lies_under (level - 1) page other at ≡ false
          → lies_under (level - 1) page (other + 1) at ≡ false
      over_beside other at beside =
          ⊎_elim
          (λ (under : lies_under (level - 1) page (other + 1) at ≡ true).
          let parts = and_parts (leb (other + 1) (level - 1))
          (eqb (number_at (level - 1) at) (number_at (level - 1) page)) under in
          let lower = leb-true (other + 1) (level - 1) parts.0 in
          absurd (false≢true (sym beside ∙ and_from _ _ (le-leb other (level - 1) (omega (arith, lower))) parts.1)))
          (λ (is : lies_under (level - 1) page (other + 1) at ≡ false). is)
          (cases_Bool (lies_under (level - 1) page (other + 1) at))

      not_last : (at : ℕ) (f : FrameNo) → table_at rows 1 at ≡ Some f → f.0 ≡ table.0 → ⊥
      not_last at f is same =
          let own = stands.own 1 at level page f is (at_table
          ∙ ap (λ (g : FrameNo). Some g) (sym (same_frame f table same))) in
          omega (arith, own.0, low)

      used_beside : (at : ℕ) (to : MappedPage) → page_at pages at ≡ Some to → lies_under (level - 1) page 1 at ≡ false
      used_beside at to is =
          ⊎_elim
          (λ (under : lies_under (level - 1) page 1 at ≡ true).
          let parts =
          and_parts (leb 1 (level - 1)) (eqb (number_at (level - 1) at) (number_at (level - 1) page)) under in
          absurd (false≢true (sym unused ∙ page_used pages (level - 1) (number_at (level - 1) page) at to is
          (eqb-true _ _ parts.1))))
          (λ (beside : lies_under (level - 1) page 1 at ≡ false). beside)
          (cases_Bool (lies_under (level - 1) page 1 at))
