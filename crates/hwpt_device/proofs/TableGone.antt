-- A page table that goes: its rows are those whose frames are given back, and the others are left.
use Rattle.std.proofs.Common.{◌≡◌, ℕ, ◌+◌, Bool, true, false, cond, ◌||◌, not, eqb, ltb, Option, Some, None, List, []}
use Rattle.std.proofs.Common.{◌∷◌, find, map, refl, ap, sym, ◌∙◌, arith}
use Rattle.std.specs.List.{filter, list_all, list_any}
use Rattle.std.specs.List.Sorted.{IsPermutation}
use Rattle.std.proofs.lemmas.Bool.Decides.{nat_tests}
use Rattle.std.proofs.lemmas.List.Sorted.{sum_by-IsPermutation}
use Rattle.page_table_set.proofs.Gone.{found_file, found_id}
use Rattle.page_table_set.proofs.OwnIds.{first_alone, own_parts}
use Rattle.page_table_set.specs.PageTables.{Hwpt, hwpt_of, row_of}
use Rattle.page_table_set.specs.Removed.{rows_found, without_hwpt}
use Rattle.iofd_rows.proofs.Bools.{and_true, clash, not_true, not_false}
use Rattle.iofd_rows.proofs.Each.{IsIn, of_all, of_each}
use Rattle.iofd_rows.proofs.Found.{all_filter, find-filter, none_both}
use Rattle.iofd_rows.proofs.ListTests.{filter_all}
use Rattle.iofd_rows.proofs.Named.{file_is, id_is}
use Rattle.iofd_rows.specs.Ids.{have_own_ids}
use Rattle.iofd_words.specs.Objects.{is_hwpt, is_object, without_object}
use Rattle.iofd_words.specs.TablePlaces.{is_table_of}
use Rattle.iofd_words.specs.Tables.{is_orphan}
use Rattle.iofd_words.specs.declared.numbers.FileNo.{FileNo}
use Rattle.iofd_words.specs.declared.numbers.FrameNo.{FrameNo}
use Rattle.iofd_words.specs.declared.numbers.ObjId.{ObjId}
use Rattle.iofd_words.specs.declared.rows.Object.{Object}
use Rattle.iofd_words.specs.declared.rows.ObjectKind.{ObjectKind}
use Rattle.iofd_words.specs.declared.rows.TableFrame.{TableFrame}
use Rattle.user_memory_rows.proofs.CountBy.{any_count, count-cons}
use Rattle.user_memory_rows.specs.Shown.{tables_in}
use Rattle.server_state.proofs.GivenBack.{times_in}
use Rattle.server_state.specs.Tables.{page_tables_among}
use Rattle.page_table_words.specs.Rows.{TableRow}
use Rattle.page_table_words.specs.Taken.{names}

-- ---- its rows

named_by : (f : ℕ) (tables : List TableFrame)
    → names (map row_of tables) f ≡ list_any (λ (t : TableFrame). eqb t.frame.0 f) tables
named_by f [] = refl
named_by f (t ∷ tables) = ap (λ (b : Bool). eqb t.frame.0 f || b) (named_by f tables)

counted_by : (f : ℕ) (tables : List TableFrame)
    → times_in (map (λ (row : TableRow). row.frame) (map row_of tables)) f ≡ tables_in tables f
counted_by f [] = refl
counted_by f (t ∷ tables) =
    count-cons (λ (g : FrameNo). eqb g.0 f) t.frame (map (λ (row : TableRow). row.frame) (map row_of tables))
    ∙ ap (λ (n : ℕ). cond (eqb t.frame.0 f) 1 0 + n) (counted_by f tables)
    ∙ sym (count-cons (λ (x : TableFrame). eqb x.frame.0 f) t tables)

module _ (frames : List TableFrame) (tables : List Hwpt) (file : FileNo) (id : ObjId) (h : Hwpt)
    (found : hwpt_of tables file id ≡ Some h) where
  its_rows : rows_found frames (hwpt_of tables file id) ≡ map row_of (filter (is_table_of file id) frames)
  its_rows =
      ap (rows_found frames) found
      ∙ ap (λ (f : FileNo). map row_of (filter (is_table_of f h.object.id) frames)) (found_file tables file id h found)
      ∙ ap (λ (i : ObjId). map row_of (filter (is_table_of file i) frames)) (found_id tables file id h found)

  -- the frames of its tables
  pub named_rows : (f : ℕ) → names (rows_found frames (hwpt_of tables file id)) f ≡ ltb 0
      (tables_in (filter (is_table_of file id) frames) f)
  named_rows f =
      ap (λ (rows : List TableRow). names rows f) its_rows
      ∙ named_by f (filter (is_table_of file id) frames)
      ∙ any_count (λ (t : TableFrame). eqb t.frame.0 f) (filter (is_table_of file id) frames)

  -- are those that are given back
  pub given_rows : (given : List FrameNo) → IsPermutation
      (map (λ (row : TableRow). row.frame) (rows_found frames (hwpt_of tables file id))) given
      → (f : ℕ) → times_in given f ≡ tables_in (filter (is_table_of file id) frames) f
  given_rows given same f =
      sum_by-IsPermutation (λ (g : FrameNo). cond (eqb g.0 f) 1 0)
      (map (λ (row : TableRow). row.frame) (rows_found frames (hwpt_of tables file id))) given same
      ∙ ap (λ (rows : List TableRow). times_in (map (λ (row : TableRow). row.frame) rows) f) its_rows
      ∙ counted_by f (filter (is_table_of file id) frames)

-- ---- it is the only one whose rows are left over

module _ (objects : List Object) (tables : List TableFrame)
    (owned : list_all (λ table. not (is_orphan objects table)) tables ≡ true) (file : FileNo) (id : ObjId) where
  no_object : (others : List Object) → find (is_object file id) (without_object file id others) ≡ None
  no_object [] = refl
  no_object (o ∷ others) = by_name (is_object file id o) refl (no_object others)
    where
      by_name : (b : Bool) → is_object file id o ≡ b → find (is_object file id) (without_object file id others) ≡ None
          → find (is_object file id) (cond (not b) (o ∷ without_object file id others) (without_object file id others))
          ≡ None
      by_name true is rest = rest
      by_name false is rest = rw is rest

  pub orphan_rows : (t : TableFrame) → IsIn tables t
      → is_orphan (without_object file id objects) t ≡ is_table_of file id t
  orphan_rows t within = by_table (is_table_of file id t) refl
    where
      differ : (o : Object) (b : Bool) → is_object file id o ≡ b → is_object t.file t.hwpt o ≡ true
          → is_table_of file id t ≡ false → not (is_object file id o) ≡ true
      differ o false is named other = rw is refl
      differ o true is named other = absurd (clash (is_table_of file id t) other (both o is named))
        where
          both : (o : Object) → is_object file id o ≡ true → is_object t.file t.hwpt o ≡ true
              → is_table_of file id t ≡ true
          both o is named = grind (arith, nat_tests)

      by_table : (b : Bool) → is_table_of file id t ≡ b → is_orphan (without_object file id objects) t ≡ b
      by_table true is =
          let names = and_true (eqb t.file.0 file.0) (eqb t.hwpt.0 id.0) is in
          ap (λ (f : FileNo). is_orphan (without_object file id objects) (record t { file = f }))
          (file_is t.file file names.0)
          ∙ ap (λ (i : ObjId). is_orphan (without_object file id objects) (record t { file = file; hwpt = i }))
          (id_is t.hwpt id names.1)
          ∙ ap (λ (o : Option Object). elim (elim o as (λ _. Option ObjectKind) [ Some x ↦ Some x.kind | None ↦ None ])
          as (λ _. Bool) [ Some k ↦ not (is_hwpt k) | None ↦ true ]) (no_object objects)
      by_table false is =
          ap (λ (o : Option Object). elim (elim o as (λ _. Option ObjectKind) [ Some x ↦ Some x.kind | None ↦ None ])
          as (λ _. Bool) [ Some k ↦ not (is_hwpt k) | None ↦ true ])
          (find-filter (is_object t.file t.hwpt) (λ (o : Object). not (is_object file id o)) objects
          (none_both (is_object t.file t.hwpt) (λ (o : Object). not (is_object file id o)) objects
          (λ o named. differ o (is_object file id o) refl named is)))
          ∙ not_true _ (of_each (λ table. not (is_orphan objects table)) tables t owned within)

-- ---- those that are kept

-- the page tables but it are the others
without_is : (file : FileNo) (id : ObjId) (tables : List Hwpt)
    → have_own_ids (map (λ (h : Hwpt). h.object) tables) ≡ true
    → without_hwpt file id tables ≡ filter (λ (h : Hwpt). not (is_object file id h.object)) tables
without_is file id [] own = refl
without_is file id (t ∷ tables) own =
    by_name (is_object file id t.object) refl (without_is file id tables (own_parts t tables own).1)
  where
    apart : (h : Hwpt) → is_object file id t.object ≡ true → is_object t.object.file t.object.id h.object ≡ false
        → is_object file id h.object ≡ false
    apart h is other = grind (arith, nat_tests)

    by_name : (b : Bool) → is_object file id t.object ≡ b
        → without_hwpt file id tables ≡ filter (λ (h : Hwpt). not (is_object file id h.object)) tables
        → cond b tables (t ∷ without_hwpt file id tables) ≡ cond (not b)
        (t ∷ filter (λ (h : Hwpt). not (is_object file id h.object)) tables)
        (filter (λ (h : Hwpt). not (is_object file id h.object)) tables)
    by_name true is rest =
        sym
        (filter_all (λ (h : Hwpt). not (is_object file id h.object)) tables
        (of_all (λ (h : Hwpt). not (is_object file id h.object)) tables
        (λ h within. not_false _ (apart h is (first_alone t tables own h within)))))
    by_name false is rest = ap (λ (l : List Hwpt). t ∷ l) rest

-- so are their objects
objects_left : (test : Object → Bool) (tables : List Hwpt)
    → map (λ (h : Hwpt). h.object) (filter (λ (h : Hwpt). test h.object) tables) ≡ filter test
    (map (λ (h : Hwpt). h.object) tables)
objects_left test [] = refl
objects_left test (h ∷ tables) = by_test (test h.object) (objects_left test tables)
  where
    by_test : (b : Bool) → map (λ (h : Hwpt). h.object) (filter (λ (h : Hwpt). test h.object) tables) ≡ filter test
        (map (λ (h : Hwpt). h.object) tables)
        → map (λ (h : Hwpt). h.object) (cond b (h ∷ filter (λ (h : Hwpt). test h.object) tables)
        (filter (λ (h : Hwpt). test h.object) tables))
        ≡ cond b (h.object ∷ filter test (map (λ (h : Hwpt). h.object) tables))
        (filter test (map (λ (h : Hwpt). h.object) tables))
    by_test true rest = ap (λ (l : List Object). h.object ∷ l) rest
    by_test false rest = rest

-- two tests in either order
tests_swapped : (p q : Object → Bool) (objects : List Object)
    → filter p (filter q objects) ≡ filter q (filter p objects)
tests_swapped p q [] = refl
tests_swapped p q (o ∷ objects) = by_tests (p o) (q o) refl refl (tests_swapped p q objects)
  where
    by_tests : (b c : Bool) → p o ≡ b → q o ≡ c → filter p (filter q objects) ≡ filter q (filter p objects)
        → filter p (cond c (o ∷ filter q objects) (filter q objects)) ≡ filter q
        (cond b (o ∷ filter p objects) (filter p objects))
    by_tests true true is passes rest = rw (is, passes) (ap (λ (l : List Object). o ∷ l) rest)
    by_tests true false is passes rest = rw passes rest
    by_tests false true is passes rest = rw is rest
    by_tests false false is passes rest = rest

module _ (objects : List Object) (tables : List Hwpt)
    (are : map (λ (h : Hwpt). h.object) tables ≡ page_tables_among objects)
    (own : have_own_ids (map (λ (h : Hwpt). h.object) tables) ≡ true) (file : FileNo) (id : ObjId) where
  pub tables_kept : map (λ (h : Hwpt). h.object) (without_hwpt file id tables) ≡ page_tables_among
      (without_object file id objects)
  tables_kept =
      ap (map (λ (h : Hwpt). h.object)) (without_is file id tables own)
      ∙ objects_left (λ (o : Object). not (is_object file id o)) tables
      ∙ ap (without_object file id) are
      ∙ tests_swapped (λ (o : Object). not (is_object file id o)) (λ (o : Object). is_hwpt o.kind) objects

  pub tests_kept : (test : Hwpt → Bool) → list_all test tables ≡ true
      → list_all test (without_hwpt file id tables) ≡ true
  tests_kept test all = ap (list_all test) (without_is file id tables own)
      ∙ all_filter test (λ (h : Hwpt). not (is_object file id h.object)) tables all
