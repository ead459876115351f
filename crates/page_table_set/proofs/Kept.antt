-- The words of the pool tell which tables a page table has.
use Rattle.std.proofs.Common.{◌≡◌, ℕ, zero, suc, ◌+◌, ◌-◌, ◌*◌, ◌/◌, ◌<◌, ◌≤◌, Bool, true, false, cond, ◌&&◌, ◌||◌, eqb}
use Rattle.std.proofs.Common.{leb, ltb, Option, Some, None, List, [], ◌∷◌, map, refl, ap, sym, ◌∙◌, ⊎_elim, arith}
use Rattle.std.specs.Prelude.{is_some}
use Rattle.std.specs.List.{filter, find, list_any}
use Rattle.std.proofs.lemmas.Bool.{eqb-true}
use Rattle.std.proofs.lemmas.Bool.Decides.{nat_tests}
use Rattle.iofd_rows.proofs.Bools.{and_true, both_true, clash}
use Rattle.iofd_words.specs.Levels.{first_address, index_at, levels_of, number_at}
use Rattle.iofd_words.specs.Pages.{page_of}
use Rattle.iofd_words.specs.TablePlaces.{TablePlace, has_table, is_place, is_table_of, place_of}
use Rattle.iofd_words.specs.declared.numbers.FileNo.{FileNo}
use Rattle.iofd_words.specs.declared.numbers.FrameNo.{FrameNo}
use Rattle.iofd_words.specs.declared.numbers.ObjId.{ObjId}
use Rattle.iofd_words.specs.declared.rows.Object.{Object}
use Rattle.iofd_words.specs.declared.rows.TableFrame.{TableFrame}
use Rattle.frame_memory.specs.Pool.{FramePool}
use Rattle.page_table_words.proofs.Lookups.{cases_Option, some_is, table_at-same, the_some}
use Rattle.page_table_words.proofs.Members.{found_each}
use Rattle.page_table_words.proofs.RowsUnder.{IsPlaced, all_placed}
use Rattle.page_table_words.proofs.Tables.{none_below, tables_above}
use Rattle.page_table_words.proofs.Tops.{number-first}
use Rattle.page_table_words.specs.Entries.{entry_at, table_entry}
use Rattle.page_table_words.specs.Rows.{MappedPage, TableRow, table_at}
use Rattle.page_table_words.specs.Stands.{Stands, TableRoot, TableStands}
use Rattle.page_table_spans.proofs.OnePage.{row_there}
use Rattle.page_table_spans.specs.Spans as spans
use Rattle.page_table_set.proofs.Gone.{found_file, found_id, found_in}
use Rattle.page_table_set.specs.Kept.{goes_down, has_kept, keeps, may_be}
use Rattle.page_table_set.specs.PageTables.{AllStand, Hwpt, hwpt_of, row_of, rows_of}

-- ---- down from a table

module _ (pool : FramePool) (levels : ℕ) (root : FrameNo) (rows : List TableRow) (pages : List MappedPage)
    (stands : Stands pool levels root rows pages) where
  down : (steps level page : ℕ) (frame : FrameNo) → table_at rows level page ≡ Some frame → steps < level
      → goes_down pool steps level frame.0 page ≡ is_some (table_at rows (level - steps) page)
  down zero level page frame at few =
      let same : level - 0 ≡ level = omega arith in
      sym (ap (λ (k : ℕ). is_some (table_at rows k page)) same ∙ some_is (table_at rows level page) frame at)
  down (suc steps) level page frame at few =
      ⊎_elim (λ none. nothing none) (λ some. below some.0 some.1
      (down steps (level - 1) page some.0 some.1 (omega (arith, few))))
      (cases_Option (table_at rows (level - 1) page))
    where
      entry : entry_at pool frame.0 (index_at level page) ≡ table_entry (table_at rows (level - 1) page)
      entry = stands.entries level page frame at (omega (arith, few))

      the_cond : (e : ℕ) → e ≡ entry_at pool frame.0 (index_at level page)
          → goes_down pool (suc steps) level frame.0 page ≡ cond (eqb e 0) false
          (goes_down pool steps (level - 1) (e / 4096) page)
      the_cond e is = rw is refl

      nothing : table_at rows (level - 1) page ≡ None
          → goes_down pool (suc steps) level frame.0 page ≡ is_some (table_at rows (level - suc steps) page)
      nothing none =
          let in_range = stands.level level page frame at in
          let gone : table_at rows (level - suc steps) page ≡ None =
          none_below pool levels root rows pages stands (level - 1) page (level - suc steps) none
          (omega (arith, few, in_range)) (omega (arith, few)) in
          the_cond 0 (sym (entry ∙ ap table_entry none)) ∙ sym (ap is_some gone)

      below : (next : FrameNo) → table_at rows (level - 1) page ≡ Some next
          → goes_down pool steps (level - 1) next.0 page ≡ is_some (table_at rows (level - 1 - steps) page)
          → goes_down pool (suc steps) level frame.0 page ≡ is_some (table_at rows (level - suc steps) page)
      below next some rest =
          let here = the_cond (4096 * next.0 + 3) (sym (entry ∙ ap table_entry some)) in
          let there : eqb (4096 * next.0 + 3) 0 ≡ false = grind (arith, nat_tests) in
          let name : (4096 * next.0 + 3) / 4096 ≡ next.0 = omega arith in
          let same : level - 1 - steps ≡ level - suc steps = omega arith in
          here
          ∙ ap (λ (b : Bool). cond b false (goes_down pool steps (level - 1) ((4096 * next.0 + 3) / 4096) page)) there
          ∙ ap (λ (n : ℕ). goes_down pool steps (level - 1) n page) name
          ∙ rest ∙ ap (λ (k : ℕ). is_some (table_at rows k page)) same

-- ---- which tables there are

module _ (pool : FramePool) (table : TableRoot) (rows : List TableRow) (pages : List MappedPage)
    (stands : TableStands pool table rows pages) (place : TablePlace) where
  abbrev levels : ℕ
  levels = levels_of table.width

  abbrev page : ℕ
  page = page_of place.first

  record IsThere : Type 0 where
    some : 0 < place.level
    few : place.level ≤ levels
    first : place.first ≡ first_address place.level page
    below : number_at levels page ≡ 0

  there : may_be levels place ≡ true → IsThere
  there is =
      let last = and_true (ltb 0 place.level && leb place.level levels
      && eqb place.first (first_address place.level page)) (eqb (number_at levels page) 0) is in
      let first = and_true (ltb 0 place.level && leb place.level levels)
      (eqb place.first (first_address place.level page)) last.0 in
      let bounds = and_true (ltb 0 place.level) (leb place.level levels) first.0 in
      record {
        some = let is = bounds.0 in grind (arith, nat_tests);
        few = let is = bounds.1 in grind (arith, nat_tests);
        first = eqb-true place.first (first_address place.level page) first.1;
        below = eqb-true (number_at levels page) 0 last.1;
      }

  same_place : (a : ℕ) → place.first ≡ a → spans.has_row rows place ≡ spans.has_row rows
      (record { level = place.level; first = a })
  same_place a is = ap (λ (n : ℕ). spans.has_row rows (record { level = place.level; first = n })) is

  found_there : IsThere → goes_down pool (levels - place.level) levels table.root.0 page ≡ spans.has_row rows place
  found_there is =
      let top : table_at rows levels page ≡ Some table.root =
      table_at-same rows levels page 0 (is.below ∙ sym (number-first levels)) ∙ stands.at_root in
      let bounds = is.some in
      let more = is.few in
      let level : levels - (levels - place.level) ≡ place.level = omega (arith, more) in
      down pool levels table.root rows pages stands (levels - place.level) levels page table.root top
      (omega (arith, bounds, more))
      ∙ ap (λ (k : ℕ). is_some (table_at rows k page)) level
      ∙ sym (row_there rows place.level page)
      ∙ sym (same_place (first_address place.level page) is.first)

  row_may_be : (row : TableRow) → find (λ (r : TableRow). is_place (spans.place_of r) place) rows ≡ Some row
      → may_be levels place ≡ true
  row_may_be row found =
      let both = found_each (λ (r : TableRow). is_place (spans.place_of r) place) (IsPlaced rows) rows row found
      (all_placed pool levels table.root rows pages stands) in
      let parts = and_true (eqb row.level place.level) (eqb row.first place.first) both.1 in
      at_row row both.0 (eqb-true row.level place.level parts.0) (eqb-true row.first place.first parts.1)
    where
      at_row : (row : TableRow) → IsPlaced rows row → row.level ≡ place.level → row.first ≡ place.first
          → may_be levels place ≡ true
      at_row row placed level first =
          let at : table_at rows place.level page ≡ Some row.frame =
          ap (λ (k : ℕ). table_at rows k (page_of place.first)) (sym level)
          ∙ ap (λ (n : ℕ). table_at rows row.level (page_of n)) (sym first) ∙ placed.found in
          let bounds = stands.level place.level page row.frame at in
          let more : place.level + (levels - place.level) ≡ levels = omega (arith, bounds) in
          let top = the_some (table_at rows levels page)
          (ap (λ (k : ℕ). is_some (table_at rows k page)) (sym more)
          ∙ tables_above pool levels table.root rows pages stands (levels - place.level) place.level page
          (some_is (table_at rows place.level page) row.frame at) (omega (arith, bounds))) in
          let below = stands.top page top.0 top.1 in
          let begins : place.first ≡ first_address place.level page =
          sym first ∙ placed.first ∙ ap (λ (k : ℕ). first_address k (page_of row.first)) level
          ∙ ap (λ (n : ℕ). first_address place.level (page_of n)) first in
          let some : ltb 0 place.level ≡ true = let b = bounds.0 in grind (arith, nat_tests) in
          let few : leb place.level levels ≡ true = let b = bounds.1 in grind (arith, nat_tests) in
          let here : eqb place.first (first_address place.level page) ≡ true = grind (arith, nat_tests) in
          let end : eqb (number_at levels page) 0 ≡ true = grind (arith, nat_tests) in
          both_true _ _ (both_true _ _ (both_true _ _ some few) here) end

  none_found : {X : Type 0} (p : X → Bool) (xs : List X) → find p xs ≡ None → list_any p xs ≡ false
  none_found p [] none = refl
  none_found {X = X} p (x ∷ xs) none = by_test (p x) none (none_found p xs)
    where
      by_test : (b : Bool) → cond b (Some x) (find p xs) ≡ None → (find p xs ≡ None → list_any p xs ≡ false)
          → (b || list_any p xs) ≡ false
      by_test true none later = cc
      by_test false none later = later none

  pub kept_rows : keeps pool table place ≡ spans.has_row rows place
  kept_rows = by_test (may_be levels place) refl
    where
      by_test : (b : Bool) → may_be levels place ≡ b
          → (b && goes_down pool (levels - place.level) levels table.root.0 page) ≡ spans.has_row rows place
      by_test true is = found_there (there is)
      by_test false is =
          sym (⊎_elim (λ none. none_found (λ (r : TableRow). is_place (spans.place_of r) place) rows none)
          (λ some. absurd (clash (may_be levels place) is (row_may_be some.0 some.1)))
          (cases_Option (find (λ (r : TableRow). is_place (spans.place_of r) place) rows)))

-- ---- rows of the world

pub rows_have : (frames : List TableFrame) (file : FileNo) (id : ObjId) (place : TablePlace)
    → has_table frames file id place ≡ spans.has_row (map row_of (filter (is_table_of file id) frames)) place
rows_have [] file id place = refl
rows_have (t ∷ frames) file id place = by_test (is_table_of file id t) (rows_have frames file id place)
  where
    by_test : (b : Bool) → has_table frames file id place ≡ spans.has_row
        (map row_of (filter (is_table_of file id) frames)) place
        → ((b && is_place (place_of t) place) || has_table frames file id place)
        ≡ spans.has_row (map row_of (cond b (t ∷ filter (is_table_of file id) frames)
        (filter (is_table_of file id) frames))) place
    by_test true rest = ap (λ (b : Bool). is_place (place_of t) place || b) rest
    by_test false rest = rest

pub kept_is : (pool : FramePool) (frames : List TableFrame) (leads : Object → ℕ
    → Option MappedPage) (tables : List Hwpt) (file : FileNo) (id : ObjId) (place : TablePlace) (h : Hwpt)
    → AllStand pool frames leads tables → hwpt_of tables file id ≡ Some h
    → has_kept pool tables file id place ≡ has_table frames file id place
kept_is pool frames leads tables file id place h stand is =
    let stands = stand.each h (found_in tables file id h is) in
    ap of_found is
    ∙ kept_rows pool h.table (rows_of frames h.object) stands.pages stands.stands place
    ∙ ap (λ (f : FileNo). spans.has_row (map row_of (filter (is_table_of f h.object.id) frames)) place)
    (found_file tables file id h is)
    ∙ ap (λ (i : ObjId). spans.has_row (map row_of (filter (is_table_of file i) frames)) place)
    (found_id tables file id h is)
    ∙ sym (rows_have frames file id place)
  where
    of_found : Option Hwpt → Bool
    of_found None = false
    of_found (Some h) = keeps pool h.table place
