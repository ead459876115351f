-- The frames of a page table that is given back.
use Rattle.std.proofs.Common.{◌≡◌, ℕ, ◌+◌, ◌-◌, ◌*◌, ◌^◌, ◌≤◌, Bool, true, false, cond, eqb, ◌||◌, Some, None, List, []}
use Rattle.std.proofs.Common.{◌∷◌, ◌++◌, length, get_or, map, take, drop, refl, sym, ◌∙◌, ap, subst, arith, ⊎_elim}
use Rattle.std.specs.List.{AllByRecursion, count_by, find, list_any}
use Rattle.std.specs.List.Sorted.{IsNonDecreasingBy, IsPermutation}
use Rattle.std.proofs.lemmas.Bool.{and_from, cases_Bool, eq-eqb, eqb-true, or_parts}
use Rattle.std.proofs.lemmas.List.{drop_at, take-append-drop, take_at, take_rest}
use Rattle.std.proofs.lemmas.List.Sorted.{IsPermutation-sym, IsPermutation-trans, sum_by-IsPermutation}
use Rattle.std.proofs.lemmas.List.Sums.{sum_by-cons}
use Rattle.iofd_words.specs.Pages.{page_of}
use Rattle.iofd_words.specs.declared.numbers.FrameNo.{FrameNo}
use Rattle.frame_memory.specs.Pool.{FramePool}
use Rattle.iofd_words.specs.Levels.{first_address, number_at}
use Rattle.page_table_words.specs.Released.{GivesBack, HasFewerHolds, Releases, times}
use Rattle.page_table_words.specs.Rows.{MappedPage, TableRow, is_table}
use Rattle.page_table_words.specs.Stands.{Stands}
use Rattle.page_table_words.specs.Taken.{names}
use Rattle.page_table_words.specs.Under.{frames_under}
use Rattle.page_table_words.proofs.FramesUnder.{all_permute}
use Rattle.page_table_words.proofs.Lookups.{cases_Option, count_none, same_frame}
use Rattle.page_table_words.proofs.Members.{count_first, count_other, each_then, found_each}
use Rattle.page_table_words.proofs.RowsUnder.{IsPlaced, all_placed}

-- ---- counts

pub times_rows : (f : ℕ) (rows : List TableRow)
    → times f (map (λ (row : TableRow). row.frame) rows) ≡ count_by (λ (row : TableRow). eqb row.frame.0 f) rows
times_rows f [] = refl
times_rows f (row ∷ rows) =
    sum_by-cons (λ (g : FrameNo). cond (eqb g.0 f) 1 0) row.frame (map (λ (r : TableRow). r.frame) rows)
    ∙ ap (λ (n : ℕ). cond (eqb row.frame.0 f) 1 0 + n) (times_rows f rows)
    ∙ sym (sum_by-cons (λ (r : TableRow). cond (eqb r.frame.0 f) 1 0) row rows)

count_fewer : (p q : TableRow → Bool) (rows : List TableRow) → AllByRecursion (λ row. p row ≡ true → q row ≡ true) rows
    → count_by p rows ≤ count_by q rows
count_fewer p q [] all = omega arith
count_fewer p q (row ∷ rows) all =
    let rest = count_fewer p q rows all.1 in
    ⊎_elim (λ (it : p row ≡ true). omega (arith, count_first p row rows it, count_first q row rows (all.0 it), rest))
    (λ (other : p row ≡ false). let more = sum_by-cons (λ (r : TableRow). cond (q r) 1 0) row rows in
    omega (arith, count_other p row rows other, more, rest))
    (cases_Bool (p row))

pub named_counted : (p : TableRow → Bool) (rows : List TableRow) → list_any p rows ≡ true → 1 ≤ count_by p rows
named_counted p [] any = absurd (let never : false ≡ true = any in cc)
named_counted p (row ∷ rows) any =
    ⊎_elim (λ (it : p row ≡ true). omega (arith, count_first p row rows it))
    (λ (other : p row ≡ false). let rest : list_any p rows ≡ true = sym (ap (λ (b : Bool). b || list_any p rows) other)
    ∙ any in omega (arith, count_other p row rows other, named_counted p rows rest))
    (cases_Bool (p row))

pub unnamed_counted : (p : TableRow → Bool) (rows : List TableRow) → list_any p rows ≡ false → count_by p rows ≡ 0
unnamed_counted p [] none = refl
unnamed_counted p (row ∷ rows) none = let parts =
    or_parts (p row) (list_any p rows) none in count_other p row rows parts.0 ∙ unnamed_counted p rows parts.1

-- ---- each frame of a table is that of one row, and has one hold

module _ (pool : FramePool) (levels : ℕ) (root : FrameNo) (rows : List TableRow) (pages : List MappedPage)
    (stands : Stands pool levels root rows pages) where
  pub one_row : (f : ℕ) → count_by (λ (row : TableRow). eqb row.frame.0 f) rows ≤ get_or pool.holds f 0
  one_row f =
      ⊎_elim (λ (none : find (λ (row : TableRow). eqb row.frame.0 f) rows ≡ None).
      omega (arith, count_none (λ (row : TableRow). eqb row.frame.0 f) rows none))
      (λ (some : (row : TableRow) × (find (λ (row : TableRow). eqb row.frame.0 f) rows ≡ Some row)).
      let found = found_each (λ (row : TableRow). eqb row.frame.0 f) (IsPlaced rows) rows some.0 some.1
      (all_placed pool levels root rows pages stands) in
      let placed = found.0 in
      let frame_is = eqb-true some.0.frame.0 f found.1 in
      let held = stands.held some.0.level (page_of some.0.first) some.0.frame placed.found in
      let held_f : get_or pool.holds f 0 ≡ 1 = ap (λ (n : ℕ). get_or pool.holds n 0) (sym frame_is) ∙ held in
      let fewer =
      count_fewer (λ (row : TableRow). eqb row.frame.0 f) (is_table some.0.level (page_of some.0.first)) rows
      (each_then (IsPlaced rows) (λ row. eqb row.frame.0 f ≡ true
      → is_table some.0.level (page_of some.0.first) row ≡ true) rows (λ row own_place is. at_one_place
      some.0 placed frame_is row own_place (eqb-true row.frame.0 f is)) (all_placed pool levels
      root rows pages stands)) in
      omega (arith, fewer, held_f, stands.once some.0.level (page_of some.0.first)))
      (cases_Option (find (λ (row : TableRow). eqb row.frame.0 f) rows))
    where
      at_one_place : (one : TableRow) → IsPlaced rows one → one.frame.0 ≡ f → (row : TableRow) → IsPlaced rows row
          → row.frame.0 ≡ f → is_table one.level (page_of one.first) row ≡ true
      at_one_place one placed one_is row own_place row_is =
          let same = same_frame row.frame one.frame (row_is ∙ sym one_is) in
          let own = stands.own row.level (page_of row.first) one.level (page_of one.first) row.frame own_place.found
          (placed.found ∙ ap (λ (g : FrameNo). Some g) (sym same)) in
          let first : row.first ≡ first_address one.level (page_of one.first) =
          own_place.first ∙ ap (λ (n : ℕ). n * 2 ^ (9 * row.level + 12)) own.1
          ∙ ap (λ (k : ℕ). number_at one.level (page_of one.first) * 2 ^ (9 * k + 12)) own.0 in
          and_from _ _ (eq-eqb row.level one.level own.0)
          (eq-eqb row.first (first_address one.level (page_of one.first)) first)

  pub named_held : (f : ℕ) → names rows f ≡ true → get_or pool.holds f 0 ≡ 1
  named_held f named =
      ⊎_elim (λ (none : find (λ (row : TableRow). eqb row.frame.0 f) rows ≡ None). absurd
      (omega (
        arith,
        named_counted (λ (row : TableRow). eqb row.frame.0 f) rows named,
        count_none (λ (row : TableRow). eqb row.frame.0 f) rows none,
      )))
      (λ (it : (row : TableRow) × (find (λ (row : TableRow). eqb row.frame.0 f) rows ≡ Some row)).
      let found = found_each (λ (row : TableRow). eqb row.frame.0 f) (IsPlaced rows) rows it.0 it.1
      (all_placed pool levels root rows pages stands) in
      ap (λ (n : ℕ). get_or pool.holds n 0) (sym (eqb-true it.0.frame.0 f found.1))
      ∙ stands.held it.0.level (page_of it.0.first) it.0.frame found.0.found)
      (cases_Option (find (λ (row : TableRow). eqb row.frame.0 f) rows))

  module _ (given : List FrameNo) (same : IsPermutation (map (λ (row : TableRow). row.frame) rows) given) where
    times_given : (f : ℕ) → times f given ≡ count_by (λ (row : TableRow). eqb row.frame.0 f) rows
    times_given f = sum_by-IsPermutation (λ (g : FrameNo). cond (eqb g.0 f) 1 0)
        (map (λ (row : TableRow). row.frame) rows) given same ∙ times_rows f rows

    pub may_release : (f : ℕ) → times f given ≤ get_or pool.holds f 0
    may_release f = omega (arith, times_given f, one_row f)

    pub all_released : (new : FramePool) → HasFewerHolds pool new given → Releases rows pool new
    all_released new fewer = record {
      free = λ f named. omega (
        arith,
        fewer.holds f,
        times_given f,
        named_held f named,
        named_counted (λ (row : TableRow). eqb row.frame.0 f) rows named,
      );
      others = λ f other. omega (
        arith,
        fewer.holds f,
        times_given f,
        unnamed_counted (λ (row : TableRow). eqb row.frame.0 f) rows other,
      );
      bytes = fewer.bytes;
      count = fewer.count;
    }

-- ---- the list

pub gives_back : (rows : List TableRow) (old collected new frames : List FrameNo) (start : ℕ) → start ≡ length old
    → collected ≡ old ++ frames → IsPermutation frames (map (λ (row : TableRow). row.frame) rows)
    → take start new ≡ take start collected
    → IsPermutation (drop start collected) (drop start new) → IsNonDecreasingBy (λ (f : FrameNo). f.0) (drop start new)
    → GivesBack rows old new
gives_back rows old collected new frames start long is rows_same front same rising =
    let old_is : take start collected ≡ old = ap (take start) is ∙ take_at old frames start (sym long) in
    let frames_are : drop start collected ≡ frames = ap (drop start) is ∙ drop_at old frames start (sym long) in
    let back : IsPermutation frames (drop start new) =
    subst (λ (fs : List FrameNo). IsPermutation fs (drop start new)) frames_are same in
    record {
      given = drop start new;
      is = sym (take-append-drop start new) ∙ ap (λ (fs : List FrameNo). fs ++ drop start new) (front ∙ old_is);
      same = IsPermutation-trans (map (λ (row : TableRow). row.frame) rows) frames (drop start new)
          (IsPermutation-sym frames (map (λ (row : TableRow). row.frame) rows) rows_same) back;
      rising = rising;
    }

-- what was collected behind the list and put in order
pub given_permutes : (rows : List TableRow) (old collected new frames : List FrameNo) (start : ℕ) → start ≡ length old
    → collected ≡ old ++ frames → IsPermutation frames (map (λ (row : TableRow). row.frame) rows)
    → IsPermutation (drop start collected) (drop start new)
    → IsPermutation (map (λ (row : TableRow). row.frame) rows) (drop start new)
given_permutes rows old collected new frames start long is rows_same same =
    let frames_are : drop start collected ≡ frames = ap (drop start) is ∙ drop_at old frames start (sym long) in
    IsPermutation-trans (map (λ (row : TableRow). row.frame) rows) frames (drop start new)
    (IsPermutation-sym frames (map (λ (row : TableRow). row.frame) rows) rows_same)
    (subst (λ (fs : List FrameNo). IsPermutation fs (drop start new)) frames_are same)

pub all_collected : (pool : FramePool) (levels level : ℕ) (root : FrameNo) (rows : List TableRow)
    (pages : List MappedPage) → level ≡ levels → Stands pool levels root rows pages
    → IsPermutation (frames_under pool (level - 1) root) (map (λ (row : TableRow). row.frame) rows)
all_collected pool levels level root rows pages same stands =
    subst (λ (k : ℕ). IsPermutation (frames_under pool (k - 1) root) (map (λ (row : TableRow). row.frame) rows))
    (sym same) (all_permute pool levels root rows pages stands)

pub rest_is : (now items : List FrameNo) (start : ℕ) → now ≡ items
    → take (length now - start) (drop start now) ≡ drop start items
rest_is now items start same = take_rest now start ∙ ap (drop start) same
