-- The tables of page tables that go: those left over, and their frames.
use Rattle.std.proofs.Common.{◌≡◌, ℕ, zero, suc, ◌+◌, ◌<◌, ◌≤◌, Bool, true, false, cond, ◌&&◌, not, eqb, ltb, Option}
use Rattle.std.proofs.Common.{Some, None, List, [], ◌∷◌, length, map, refl, ap, subst, sym, ◌∙◌, inl, inr, arith}
use Rattle.std.specs.List.{count_by, filter, find, flat_map, list_all}
use Rattle.std.specs.List.Sorted.{IsNonDecreasingBy}
use Rattle.std.specs.Option.{option_map}
use Rattle.std.proofs.lemmas.Bool.Decides.{nat_tests}
use Rattle.std.proofs.lemmas.List.Concat.{flat_map-cons}
use Rattle.std.proofs.lemmas.List.Sorted.{sum_by-IsPermutation}
use Rattle.page_table_set.proofs.Counted.{one_more, one_row_more, rows_in_append, rows_in_frame}
use Rattle.page_table_set.proofs.Gone.{found_file, found_id}
use Rattle.page_table_set.proofs.OwnIds.{first_alone, own_parts}
use Rattle.page_table_set.specs.PageTables.{Hwpt, hwpt_of, row_of, rows_of}
use Rattle.page_table_set.specs.Removed.{rows_found, rows_of_file}
use Rattle.iofd_rows.proofs.Bools.{and_true, clash}
use Rattle.iofd_rows.proofs.Each.{IsIn, found_kept, of_any, of_each}
use Rattle.iofd_rows.proofs.Found.{find-filter, none_both}
use Rattle.iofd_rows.proofs.Named.{object_of_kind}
use Rattle.iofd_rows.specs.Ids.{have_own_ids}
use Rattle.iofd_runs.proofs.StillTabled.{orphan_is}
use Rattle.iofd_words.specs.Objects.{is_hwpt, is_object, kind_of}
use Rattle.iofd_words.specs.TablePlaces.{is_table_of}
use Rattle.iofd_words.specs.Tables.{is_orphan}
use Rattle.iofd_words.specs.declared.numbers.FileNo.{FileNo}
use Rattle.iofd_words.specs.declared.numbers.FrameNo.{FrameNo}
use Rattle.iofd_words.specs.declared.numbers.ObjId.{ObjId}
use Rattle.iofd_words.specs.declared.rows.Object.{Object}
use Rattle.iofd_words.specs.declared.rows.ObjectKind.{ObjectKind}
use Rattle.iofd_words.specs.declared.rows.TableFrame.{TableFrame}
use Rattle.user_memory_rows.proofs.Counts.{count_alike, count_within}
use Rattle.user_memory_rows.proofs.CountBy.{any_count, count-cons}
use Rattle.user_memory_rows.specs.Shown.{tables_in}
use Rattle.server_state.proofs.GivenBack.{times_in}
use Rattle.server_state.proofs.PageTables.{found_among}
use Rattle.server_state.proofs.TablesUnreached.{its_table}
use Rattle.server_state.specs.Tables.{page_tables_among}
use Rattle.page_table_words.specs.Released.{GivesBack}
use Rattle.page_table_words.specs.Rows.{TableRow}
use Rattle.page_table_words.specs.Taken.{names}

-- ---- lists

none_counted : {X : Type 0} (p : X → Bool) (xs : List X) → ((x : X) → IsIn xs x → p x ≡ false) → count_by p xs ≡ 0
none_counted p [] none = refl
none_counted p (x ∷ xs) none =
    let first = count-cons p x xs ∙ ap (λ (b : Bool). cond {A = ℕ} b 1 0 + count_by p xs) (none x (inl refl)) in
    let rest = none_counted p xs (λ y later. none y (inr later)) in
    omega (arith, first, rest)

-- ---- tables that are left over

-- where each row is of a page table, those of the page tables that go are left over, and no others
pub orphans_are : (stays : Object → Bool) (goes : TableFrame → Bool) (objects : List Object) (tables : List TableFrame)
    → ((t : TableFrame) (o : Object) → is_object t.file t.hwpt o ≡ true → stays o ≡ not (goes t))
    → list_all (λ table. not (is_orphan objects table)) tables ≡ true
    → (t : TableFrame) → IsIn tables t → is_orphan (filter stays objects) t ≡ goes t
orphans_are stays goes objects tables same owned t within = by_test (goes t) refl
  where
    of_kind : Option Object → Option ObjectKind
    of_kind o = elim o [ Some object ↦ Some object.kind | None ↦ None ]

    twice : (b : Bool) → not b ≡ true → b ≡ false
    twice true is = cc
    twice false is = refl

    none_left : (os : List Object) → goes t ≡ true → find (is_object t.file t.hwpt) (filter stays os) ≡ None
    none_left [] is = refl
    none_left (o ∷ os) is = by_tests (stays o) (is_object t.file t.hwpt o) refl refl (none_left os is)
      where
        by_tests : (a b : Bool) → stays o ≡ a → is_object t.file t.hwpt o ≡ b
            → find (is_object t.file t.hwpt) (filter stays os) ≡ None
            → find (is_object t.file t.hwpt) (cond a (o ∷ filter stays os) (filter stays os)) ≡ None
        by_tests false b stay here rest = rest
        by_tests true false stay here rest = rw here rest
        by_tests true true stay here rest = absurd (clash (stays o) (same t o here ∙ ap not is) stay)

    by_test : (b : Bool) → goes t ≡ b → is_orphan (filter stays objects) t ≡ b
    by_test true is = orphan_is (filter stays objects) t None (ap of_kind (none_left objects is))
    by_test false is =
        orphan_is (filter stays objects) t (kind_of objects t.file t.hwpt)
        (ap of_kind (find-filter (is_object t.file t.hwpt) stays objects
        (none_both (is_object t.file t.hwpt) stays objects (λ o here. same t o here ∙ ap not is))))
        ∙ twice (is_orphan objects t) (of_each (λ table. not (is_orphan objects table)) tables t owned within)

pub of_one : (file : FileNo) (id : ObjId) (t : TableFrame) (o : Object) → is_object t.file t.hwpt o ≡ true
    → not (is_object file id o) ≡ not (is_table_of file id t)
of_one file id t o here = grind (arith, nat_tests)

pub of_file : (file : FileNo) (t : TableFrame) (o : Object) → is_object t.file t.hwpt o ≡ true
    → not (eqb o.file.0 file.0) ≡ not (eqb t.file.0 file.0)
of_file file t o here = grind (arith, nat_tests)

-- ---- the rows of page tables that go, by their frames

rows_are : (tables : List TableFrame) (f : ℕ) → rows_in_frame (map row_of tables) f ≡ tables_in tables f
rows_are [] f = refl
rows_are (t ∷ tables) f =
    let one = one_row_more (row_of t) (map row_of tables) f in
    let all = one_more t tables f in
    let rest = rows_are tables f in
    omega (arith, one, all, rest)

-- of one page table
module _ (objects : List Object) (tables : List Hwpt)
    (are : map (λ (h : Hwpt). h.object) tables ≡ page_tables_among objects) (file : FileNo) (id : ObjId) where
  -- it is kept
  kept_one : (k : ObjectKind) → kind_of objects file id ≡ Some k → is_hwpt k ≡ true
      → (h : Hwpt) × (hwpt_of tables file id ≡ Some h)
  kept_one k is hwpt = by_found (hwpt_of tables file id) refl
    where
      by_found : (o : Option Hwpt) → hwpt_of tables file id ≡ o → (h : Hwpt) × (hwpt_of tables file id ≡ Some h)
      by_found (Some h) found = (h, found)
      by_found None none =
          let (object, found, within, of_file, of_id, of_kind) = object_of_kind objects file id k is in
          let kept : find (is_object file id) (page_tables_among objects) ≡ Some object =
          found_kept (is_object file id) (λ (o : Object). is_hwpt o.kind) objects object found (ap is_hwpt of_kind
          ∙ hwpt) in
          let gone : find (is_object file id) (page_tables_among objects) ≡ None =
          ap (find (is_object file id)) (sym are) ∙ found_among (is_object file id) tables
          ∙ ap (option_map (λ (h : Hwpt). h.object)) none in
          cc

  pub one_counted : (frames : List TableFrame) (k : ObjectKind) → kind_of objects file id ≡ Some k → is_hwpt k ≡ true
      → (f : ℕ) → rows_in_frame (rows_found frames (hwpt_of tables file id)) f ≡ tables_in
      (filter (is_table_of file id) frames) f
  one_counted frames k is hwpt f =
      let (h, found) = kept_one k is hwpt in
      ap (λ (o : Option Hwpt). rows_in_frame (rows_found frames o) f) found
      ∙ rows_are (filter (is_table_of h.object.file h.object.id) frames) f
      ∙ ap (λ (x : FileNo). tables_in (filter (is_table_of x h.object.id) frames) f) (found_file tables file id h found)
      ∙ ap (λ (x : ObjId). tables_in (filter (is_table_of file x) frames) f) (found_id tables file id h found)

-- ---- of a file

abbrev has_row : TableFrame → Hwpt → Bool
has_row t h = is_table_of h.object.file h.object.id t

-- it is of one page table at most
at_most_one : (tables : List Hwpt) (t : TableFrame) → have_own_ids (map (λ (h : Hwpt). h.object) tables) ≡ true
    → count_by (has_row t) tables ≤ 1
at_most_one [] t own = omega arith
at_most_one (h ∷ tables) t own = by_test (has_row t h) refl (at_most_one tables t (own_parts h tables own).1)
  where
    apart : (a b : Object) → is_table_of a.file a.id t ≡ true → is_object a.file a.id b ≡ false
        → is_table_of b.file b.id t ≡ false
    apart a b here other = grind (arith, nat_tests)

    counted : count_by (has_row t) (h ∷ tables) ≡ cond (has_row t h) 1 0 + count_by (has_row t) tables
    counted = count-cons (has_row t) h tables

    by_test : (b : Bool) → has_row t h ≡ b → count_by (has_row t) tables ≤ 1 → count_by (has_row t) (h ∷ tables) ≤ 1
    by_test true is rest =
        let none = none_counted (has_row t) tables
        (λ x within. apart h.object x.object is (first_alone h tables own x within)) in
        let whole = counted ∙ ap (λ (b : Bool). cond {A = ℕ} b 1 0 + count_by (has_row t) tables) is in
        omega (arith, none, whole)
    by_test false is rest =
        let whole = counted ∙ ap (λ (b : Bool). cond {A = ℕ} b 1 0 + count_by (has_row t) tables) is in
        omega (arith, rest, whole)

module _ (objects : List Object) (tables : List Hwpt)
    (are : map (λ (h : Hwpt). h.object) tables ≡ page_tables_among objects)
    (own : have_own_ids (map (λ (h : Hwpt). h.object) tables) ≡ true) (file : FileNo) where
  -- a row of the file is of one of its page tables, another of none
  one_of_file : (t : TableFrame) → not (is_orphan objects t) ≡ true
      → count_by (has_row t) (filter (λ (h : Hwpt). eqb h.object.file.0 file.0) tables) ≡ cond (eqb t.file.0 file.0) 1 0
  one_of_file t owned =
      count_within (has_row t) (λ (h : Hwpt). eqb h.object.file.0 file.0) tables
      ∙ count_alike (λ (h : Hwpt). eqb h.object.file.0 file.0 && has_row t h) (λ (h : Hwpt). eqb t.file.0 file.0
      && has_row t h) tables (λ h. same h.object)
      ∙ by_file (eqb t.file.0 file.0)
    where
      same : (o : Object) → (eqb o.file.0 file.0 && is_table_of o.file o.id t) ≡ (eqb t.file.0 file.0
          && is_table_of o.file o.id t)
      same o = grind (arith, nat_tests)

      by_file : (b : Bool) → count_by (λ (h : Hwpt). b && has_row t h) tables ≡ cond b 1 0
      by_file true =
          let (h, within, of_this) = its_table objects tables are t owned in
          let any = of_any (has_row t) tables h within of_this in
          let counted : ltb 0 (count_by (has_row t) tables) ≡ true = sym (any_count (has_row t) tables) ∙ any in
          let some : 0 < count_by (has_row t) tables = search (counted, arith, nat_tests) in
          let few = at_most_one tables t own in
          omega (arith, some, few)
      by_file false = none_counted (λ (h : Hwpt). false && has_row t h) tables (λ h within. refl)

  -- the rows of some page tables, with one table more
  no_rows : (hwpts : List Hwpt) (f : ℕ) → rows_in_frame (flat_map (λ (h : Hwpt). rows_of [] h.object) hwpts) f ≡ 0
  no_rows [] f = refl
  no_rows (h ∷ hwpts) f = ap (λ (rows : List TableRow). rows_in_frame rows f)
      (flat_map-cons (λ (h : Hwpt). rows_of [] h.object) h hwpts) ∙ no_rows hwpts f

  one_row_each : (t : TableFrame) (frames : List TableFrame) (hwpts : List Hwpt) (f : ℕ)
      → rows_in_frame (flat_map (λ (h : Hwpt). rows_of (t ∷ frames) h.object) hwpts) f
      ≡ cond (eqb t.frame.0 f) (count_by (has_row t) hwpts) 0
      + rows_in_frame (flat_map (λ (h : Hwpt). rows_of frames h.object) hwpts) f
  one_row_each t frames [] f = by_frame (eqb t.frame.0 f)
    where
      by_frame : (b : Bool) → 0 ≡ cond b 0 0 + 0
      by_frame true = refl
      by_frame false = refl
  one_row_each t frames (h ∷ hwpts) f =
      let whole = ap (λ (rows : List TableRow). rows_in_frame rows f)
      (flat_map-cons (λ (h : Hwpt). rows_of (t ∷ frames) h.object) h hwpts)
      ∙ rows_in_append (rows_of (t ∷ frames) h.object)
      (flat_map (λ (h : Hwpt). rows_of (t ∷ frames) h.object) hwpts) f in
      let less = ap (λ (rows : List TableRow). rows_in_frame rows f)
      (flat_map-cons (λ (h : Hwpt). rows_of frames h.object) h hwpts)
      ∙ rows_in_append (rows_of frames h.object) (flat_map (λ (h : Hwpt). rows_of frames h.object) hwpts) f in
      let count = count-cons (has_row t) h hwpts in
      let own_rows = by_row (has_row t h) in
      let rest = one_row_each t frames hwpts f in
      sum _ _ _ _ _ _ (has_row t h) (eqb t.frame.0 f) whole less own_rows rest
      ∙ ap (λ (n : ℕ). cond (eqb t.frame.0 f) n 0
      + rows_in_frame (flat_map (λ (h : Hwpt). rows_of frames h.object) (h ∷ hwpts)) f) (sym count)
    where
      by_row : (b : Bool) → rows_in_frame (map row_of
          (cond b (t ∷ filter (is_table_of h.object.file h.object.id) frames)
          (filter (is_table_of h.object.file h.object.id) frames))) f
          ≡ cond b (cond (eqb t.frame.0 f) 1 0) 0 + rows_in_frame (rows_of frames h.object) f
      by_row true = one_row_more (row_of t) (rows_of frames h.object) f
      by_row false = omega arith

      sum : (all own_more rest_more own rest count : ℕ) {less : ℕ} (b c : Bool) → all ≡ own_more + rest_more
          → less ≡ own + rest → own_more ≡ cond b (cond c 1 0) 0 + own → rest_more ≡ cond c count 0 + rest
          → all ≡ cond c (cond b 1 0 + count) 0 + less
      sum all own_more rest_more own rest count true true whole less first later =
          omega (arith, whole, less, first, later)
      sum all own_more rest_more own rest count true false whole less first later =
          omega (arith, whole, less, first, later)
      sum all own_more rest_more own rest count false true whole less first later =
          omega (arith, whole, less, first, later)
      sum all own_more rest_more own rest count false false whole less first later =
          omega (arith, whole, less, first, later)

  pub file_counted : (frames : List TableFrame) → list_all (λ table. not (is_orphan objects table)) frames ≡ true
      → (f : ℕ) → rows_in_frame (rows_of_file frames file tables) f ≡ tables_in
      (filter (λ (t : TableFrame). eqb t.file.0 file.0) frames) f
  file_counted [] owned f = no_rows (filter (λ (h : Hwpt). eqb h.object.file.0 file.0) tables) f
  file_counted (t ∷ frames) owned f =
      let parts =
      and_true (not (is_orphan objects t)) (list_all (λ table. not (is_orphan objects table)) frames) owned in
      let rest = file_counted frames parts.1 f in
      let whole = one_row_each t frames (filter (λ (h : Hwpt). eqb h.object.file.0 file.0) tables) f in
      let once = one_of_file t parts.0 in
      (whole ∙ ap (λ (n : ℕ). cond (eqb t.frame.0 f) n 0 + rows_in_frame (rows_of_file frames file tables) f) once
      ∙ ap (λ (n : ℕ). cond (eqb t.frame.0 f) (cond (eqb t.file.0 file.0) 1 0) 0 + n) rest)
      ∙ by_file (eqb t.file.0 file.0)
    where
      by_frame : (b : Bool) (n : ℕ) → cond {A = ℕ} b 0 0 + n ≡ n
      by_frame true n = omega arith
      by_frame false n = omega arith

      by_file : (b : Bool) → cond (eqb t.frame.0 f) (cond b 1 0) 0
          + tables_in (filter (λ (t : TableFrame). eqb t.file.0 file.0) frames) f
          ≡ tables_in (cond b (t ∷ filter (λ (t : TableFrame). eqb t.file.0 file.0) frames)
          (filter (λ (t : TableFrame). eqb t.file.0 file.0) frames)) f
      by_file true = sym (one_more t (filter (λ (t : TableFrame). eqb t.file.0 file.0) frames) f)
      by_file false = by_frame (eqb t.frame.0 f) (tables_in (filter (λ (t : TableFrame). eqb t.file.0 file.0) frames) f)

-- ---- frames that are listed

pub rows_named : (rows : List TableRow) (f : ℕ) → names rows f ≡ ltb 0 (rows_in_frame rows f)
rows_named rows f = any_count (λ (row : TableRow). eqb row.frame.0 f) rows

pub given_times : (rows : List TableRow) (items : List FrameNo) → GivesBack rows [] items → (f : ℕ)
    → times_in items f ≡ rows_in_frame rows f
given_times rows items gives f =
    ap (λ (l : List FrameNo). times_in l f) gives.is
    ∙ sum_by-IsPermutation (λ (x : FrameNo). cond {A = ℕ} (eqb x.0 f) 1 0)
    (map (λ (row : TableRow). row.frame) rows) gives.given gives.same
    ∙ mapped rows
  where
    mapped : (rows : List TableRow) → times_in (map (λ (row : TableRow). row.frame) rows) f ≡ rows_in_frame rows f
    mapped [] = refl
    mapped (row ∷ rows) =
        let one = count-cons (λ (x : FrameNo). eqb x.0 f) row.frame (map (λ (row : TableRow). row.frame) rows) in
        let all = one_row_more row rows f in
        let rest = mapped rows in
        omega (arith, one, all, rest)

pub given_rises : (rows : List TableRow) (items : List FrameNo) → GivesBack rows [] items
    → IsNonDecreasingBy (λ (f : FrameNo). f.0) items
given_rises rows items gives =
    subst (λ (l : List FrameNo). IsNonDecreasingBy (λ (f : FrameNo). f.0) l) (sym gives.is) gives.rising

-- ---- few rows

below_few : (rows : List TableRow) → ((f : ℕ) → rows_in_frame rows f ≤ 1) → (end : ℕ)
    → count_by (λ (row : TableRow). ltb row.frame.0 end) rows ≤ end
below_few rows once zero = let none =
    none_counted (λ (row : TableRow). ltb row.frame.0 0) rows (λ row within. nothing row.frame.0) in omega (arith, none)
  where
    nothing : (n : ℕ) → ltb n 0 ≡ false
    nothing n = grind (arith, nat_tests)
below_few rows once (suc end) =
    let split = count_more (λ (row : TableRow). row.frame.0) rows in
    let few = below_few rows once end in
    let one = once end in
    omega (arith, split, few, one)
  where
    count_more : (of : TableRow → ℕ) (rows : List TableRow)
        → count_by (λ row. ltb (of row) (suc end)) rows ≡ count_by (λ row. ltb (of row) end) rows
        + count_by (λ row. eqb (of row) end) rows
    count_more of [] = refl
    count_more of (row ∷ rows) =
        let more = count-cons (λ row. ltb (of row) (suc end)) row rows in
        let less = count-cons (λ row. ltb (of row) end) row rows in
        let here = count-cons (λ row. eqb (of row) end) row rows in
        let rest = count_more of rows in
        let first = either (of row) in
        omega (arith, more, less, here, rest, first)
      where
        either : (n : ℕ) → cond {A = ℕ} (ltb n (suc end)) 1 0 ≡ cond (ltb n end) 1 0 + cond (eqb n end) 1 0
        either n = grind (arith, nat_tests)

-- no two in one frame, and none past the end: so there are no more than frames
pub rows_few : (rows : List TableRow) (end : ℕ) → ((f : ℕ) → rows_in_frame rows f ≤ 1)
    → ((f : ℕ) → end ≤ f → rows_in_frame rows f ≡ 0) → length rows ≤ end
rows_few rows end once none =
    let few = below_few rows once end in
    let all = all_below rows (λ row within. below row within (ltb row.frame.0 end) refl) in
    omega (arith, few, all)
  where
    all_below : (some : List TableRow) → ((row : TableRow) → IsIn some row → ltb row.frame.0 end ≡ true)
        → count_by (λ (row : TableRow). ltb row.frame.0 end) some ≡ length some
    all_below [] each = refl
    all_below (row ∷ some) each =
        let first = count-cons (λ (row : TableRow). ltb row.frame.0 end) row some
        ∙ ap (λ (b : Bool). cond {A = ℕ} b 1 0 + count_by (λ (row : TableRow). ltb row.frame.0 end) some)
        (each row (inl refl)) in
        let rest = all_below some (λ x later. each x (inr later)) in
        omega (arith, first, rest)

    below : (row : TableRow) → IsIn rows row → (b : Bool) → ltb row.frame.0 end ≡ b → b ≡ true
    below row within true is = refl
    below row within false is =
        let itself : eqb row.frame.0 row.frame.0 ≡ true = grind (arith, nat_tests) in
        let some = sym (any_count (λ (r : TableRow). eqb r.frame.0 row.frame.0) rows)
        ∙ of_any (λ (r : TableRow). eqb r.frame.0 row.frame.0) rows row within itself in
        let past : end ≤ row.frame.0 = search (is, arith, nat_tests) in
        let nowhere : ltb 0 0 ≡ true = ap (ltb 0) (sym (none row.frame.0 past)) ∙ some in
        cc
