-- Frames and rows of tables, counted.
use Rattle.std.proofs.Common.{◌≡◌, ℕ, ◌+◌, ◌≤◌, Bool, true, false, cond, not, eqb, List, [], ◌∷◌, ◌++◌, map, refl, ap}
use Rattle.std.proofs.Common.{◌∙◌, arith}
use Rattle.std.specs.List.{count_by, filter}
use Rattle.std.proofs.lemmas.Bool.Decides.{nat_tests}
use Rattle.std.proofs.lemmas.List.Elements.{filter-append}
use Rattle.std.proofs.lemmas.List.{map-append}
use Rattle.std.proofs.lemmas.List.Sums.{sum_by-append, sum_by-cons}
use Rattle.iofd_rows.proofs.Bools.{clash}
use Rattle.iofd_words.specs.Objects.{is_object}
use Rattle.iofd_words.specs.TablePlaces.{is_table_of}
use Rattle.iofd_words.specs.declared.numbers.FileNo.{FileNo}
use Rattle.iofd_words.specs.declared.numbers.ObjId.{ObjId}
use Rattle.iofd_words.specs.declared.rows.Object.{Object}
use Rattle.iofd_words.specs.declared.rows.TableFrame.{TableFrame}
use Rattle.page_table_words.specs.Rows.{TableRow}
use Rattle.page_table_set.specs.PageTables.{row_of, rows_of, tables_in}
use Rattle.page_table_set.specs.Removed.{without_tables}

-- how many of the rows are in a frame
abbrev pub rows_in_frame : List TableRow → ℕ → ℕ
rows_in_frame rows frame = count_by (λ (row : TableRow). eqb row.frame.0 frame) rows

pub one_more : (t : TableFrame) (frames : List TableFrame) (frame : ℕ)
    → tables_in (t ∷ frames) frame ≡ cond (eqb t.frame.0 frame) 1 0 + tables_in frames frame
one_more t frames frame = sum_by-cons (λ (x : TableFrame). cond {A = ℕ} (eqb x.frame.0 frame) 1 0) t frames

pub one_row_more : (r : TableRow) (rows : List TableRow) (frame : ℕ)
    → rows_in_frame (r ∷ rows) frame ≡ cond (eqb r.frame.0 frame) 1 0 + rows_in_frame rows frame
one_row_more r rows frame = sum_by-cons (λ (x : TableRow). cond {A = ℕ} (eqb x.frame.0 frame) 1 0) r rows

-- each table is one of the page table's, or of the others
pub counted : (frames : List TableFrame) (file : FileNo) (id : ObjId) (frame : ℕ)
    → rows_in_frame (map row_of (filter (is_table_of file id) frames)) frame
    + tables_in (without_tables file id frames) frame ≡ tables_in frames frame
counted [] file id frame = refl
counted (t ∷ frames) file id frame = by_test (is_table_of file id t) (counted frames file id frame)
  where
    by_test : (b : Bool)
        → rows_in_frame (map row_of (filter (is_table_of file id) frames)) frame
        + tables_in (without_tables file id frames) frame ≡ tables_in frames frame
        → rows_in_frame (map row_of (cond b (t ∷ filter (is_table_of file id) frames)
        (filter (is_table_of file id) frames))) frame
        + tables_in (cond (not b) (t ∷ without_tables file id frames) (without_tables file id frames))
        frame ≡ tables_in (t ∷ frames) frame
    by_test true rest =
        let own = one_row_more (row_of t) (map row_of (filter (is_table_of file id) frames)) frame in
        let all = one_more t frames frame in
        omega (arith, own, all, rest)
    by_test false rest =
        let others = one_more t (without_tables file id frames) frame in
        let all = one_more t frames frame in
        omega (arith, others, all, rest)

-- tables that stay for sure are passed through
pub rows_filtered : (p : TableFrame → Bool) (frames : List TableFrame) (object : Object)
    → ((t : TableFrame) → is_table_of object.file object.id t ≡ true → p t ≡ true)
    → rows_of (filter p frames) object ≡ rows_of frames object
rows_filtered p [] object stays = refl
rows_filtered p (t ∷ frames) object stays =
    by_tests (p t) (is_table_of object.file object.id t) refl refl (rows_filtered p frames object stays)
  where
    own : TableFrame → Bool
    own x = is_table_of object.file object.id x

    by_tests : (b c : Bool) → p t ≡ b → is_table_of object.file object.id t ≡ c
        → rows_of (filter p frames) object ≡ rows_of frames object
        → rows_of (cond b (t ∷ filter p frames) (filter p frames)) object
        ≡ map row_of (cond c (t ∷ filter (is_table_of object.file object.id) frames)
        (filter (is_table_of object.file object.id) frames))
    by_tests true true stay is rest = rw is (ap (λ (l : List TableRow). row_of t ∷ l) rest)
    by_tests true false stay is rest = rw is rest
    by_tests false true stay is rest = absurd (clash (p t) stay (stays t is))
    by_tests false false stay is rest = rest

pub fewer_tables : (p : TableFrame → Bool) (frames : List TableFrame) (frame : ℕ)
    → tables_in (filter p frames) frame ≤ tables_in frames frame
fewer_tables p [] frame = omega arith
fewer_tables p (t ∷ frames) frame = by_test (p t) (fewer_tables p frames frame)
  where
    by_test : (b : Bool) → tables_in (filter p frames) frame ≤ tables_in frames frame
        → tables_in (cond b (t ∷ filter p frames) (filter p frames)) frame ≤ tables_in (t ∷ frames) frame
    by_test true rest =
        let some = one_more t (filter p frames) frame in
        let all = one_more t frames frame in
        omega (arith, some, all, rest)
    by_test false rest = let all = one_more t frames frame in omega (arith, all, rest)

-- a table of one page table is no other's
pub table_of_one : (a b : Object) (t : TableFrame) → is_object a.file a.id b ≡ false → is_table_of b.file b.id t ≡ true
    → not (is_table_of a.file a.id t) ≡ true
table_of_one a b t apart is = grind (arith, nat_tests)

pub rows_kept : (frames : List TableFrame) (a b : Object) → is_object a.file a.id b ≡ false
    → rows_of (without_tables a.file a.id frames) b ≡ rows_of frames b
rows_kept frames a b apart =
    rows_filtered (λ t. not (is_table_of a.file a.id t)) frames b (λ t is. table_of_one a b t apart is)

pub rows_few : (frames : List TableFrame) (object : Object) (frame : ℕ)
    → rows_in_frame (rows_of frames object) frame ≤ tables_in frames frame
rows_few frames object frame = let all = counted frames object.file object.id frame in omega (arith, all)

-- those of two page tables together
pub both_few : (frames : List TableFrame) (a b : Object) (frame : ℕ) → is_object a.file a.id b ≡ false
    → rows_in_frame (rows_of frames a) frame + rows_in_frame (rows_of frames b) frame ≤ tables_in frames frame
both_few frames a b frame apart =
    let all = counted frames a.file a.id frame in
    let few = rows_few (without_tables a.file a.id frames) b frame in
    let same : rows_in_frame (rows_of (without_tables a.file a.id frames) b) frame ≡ rows_in_frame
    (rows_of frames b) frame =
    ap (λ (rows : List TableRow). rows_in_frame rows frame) (rows_kept frames a b apart) in
    omega (arith, all, few, same)

-- ---- more rows

pub rows_append : (frames more : List TableFrame) (object : Object)
    → rows_of (frames ++ more) object ≡ rows_of frames object ++ rows_of more object
rows_append frames more object =
    ap (λ (l : List TableFrame). map row_of l) (filter-append (is_table_of object.file object.id) frames more)
    ∙ map-append row_of (filter (is_table_of object.file object.id) frames)
    (filter (is_table_of object.file object.id) more)

pub tables_append : (frames more : List TableFrame) (frame : ℕ)
    → tables_in (frames ++ more) frame ≡ tables_in frames frame + tables_in more frame
tables_append frames more frame = sum_by-append (λ (x : TableFrame). cond {A = ℕ} (eqb x.frame.0 frame) 1 0) frames more

pub rows_in_append : (rows more : List TableRow) (frame : ℕ)
    → rows_in_frame (rows ++ more) frame ≡ rows_in_frame rows frame + rows_in_frame more frame
rows_in_append rows more frame = sum_by-append (λ (x : TableRow). cond {A = ℕ} (eqb x.frame.0 frame) 1 0) rows more
