-- What an access object that is attached or detached leaves of the rows of the table.
use Rattle.std.proofs.Common.{◌≡◌, ℕ, ◌+◌, ◌-◌, ◌<◌, Bool, true, false, cond, ◌||◌, not, eqb, Option, Some, None, List}
use Rattle.std.proofs.Common.{[], ◌∷◌, map, IfSome, refl, sym, ◌∙◌, ap, arith}
use Rattle.std.specs.List.{find, list_any}
use Rattle.std.specs.Option.{option_map}
use Rattle.std.proofs.lemmas.Bool.Decides.{nat_tests}
use Rattle.iofd_rows.proofs.Accesses.{test_reattached}
use Rattle.iofd_rows.proofs.Bools.{and_true, not_true}
use Rattle.iofd_rows.proofs.Named.{file_is, id_is}
use Rattle.iofd_rows.specs.Ids.{have_own_ids}
use Rattle.iofd_words.specs.Objects.{has_access, has_ioas, is_access, is_ioas, is_object, kind_of, with_access}
use Rattle.iofd_words.specs.declared.numbers.FileNo.{FileNo}
use Rattle.iofd_words.specs.declared.numbers.ObjId.{ObjId}
use Rattle.iofd_words.specs.declared.rows.Object.{Object}
use Rattle.iofd_words.specs.declared.rows.ObjectKind.{ObjectKind}
use Rattle.iofd_words.specs.declared.rows.ObjectKind.TheVariants as kind
use Rattle.object_table.specs.Table.{Row, Table, changed_at, is_at, with_users, with_value}
use Rattle.object_table.specs.declared.kind.Kind.TheVariants as of_kind
use Rattle.server_state.proofs.AreasHeld.{areas_elsewhere, areas_here, not_there, own_is_first, same_at, users_kept}
use Rattle.server_state.proofs.Counted.{areas-counted, objects-counted, own_row, space_row}
use Rattle.server_state.proofs.Counted.{users_elsewhere, users_here, where_found}
use Rattle.server_state.proofs.Objects.{kind_at, kind_of_rows}
use Rattle.server_state.proofs.TableRows.{areas_of_other}
use Rattle.server_state.specs.Accesses.{HasAccess, one_at}
use Rattle.server_state.specs.Held.{areas_at, is_own, kind_in, object_of, objects_in, own}
use Rattle.server_state.specs.Spaces.{IsOrderly, is_space}
use Rattle.server_state.specs.Users.{users_at}
use Rattle.server_state.specs.declared.held.Held.{Held}
use Rattle.server_state.specs.declared.held.Held.TheVariants as held

-- no object is of this name
pub unattached_there : (objects : List Object) (file : FileNo) (id : ObjId) (attached : Option ObjId)
    → list_any (is_object file id) objects ≡ false → with_access file id attached objects ≡ objects
unattached_there [] file id attached none = refl
unattached_there (o ∷ objects) file id attached none =
    by_test (is_object file id o) refl none (unattached_there objects file id attached)
  where
    by_test : (b : Bool) → is_object file id o ≡ b → (b || list_any (is_object file id) objects) ≡ false
        → (list_any (is_object file id) objects ≡ false → with_access file id attached objects ≡ objects)
        → with_access file id attached (o ∷ objects) ≡ o ∷ objects
    by_test true is none later = cc
    by_test false is none later = rw (is, later none) refl

-- an access object, if one has this name
pub access_of : (o : Option ObjectKind) → elim o as (λ _. Bool) [ Some k ↦ is_access k | None ↦ false ] ≡ true
    → (attached : Option ObjId) × (o ≡ Some (kind.Access attached))
access_of None is = cc
access_of (Some kind.Ioas) is = cc
access_of (Some (kind.Hwpt ioas width automatic)) is = cc
access_of (Some (kind.Device device)) is = cc
access_of (Some (kind.Access attached)) is = (attached, refl)

module _ {A : Type 0} (file : FileNo) (id : ObjId) (before attached : Option ObjId) where
  abbrev now : Held A
  now = held.Access attached

  abbrev set_at : List (Row (Held A)) → List (Row (Held A))
  set_at rows = changed_at file id (with_value now) rows

  objects_set : (rows : List (Row (Held A))) → have_own_ids (map object_of rows) ≡ true
      → kind_of (map object_of rows) file id ≡ Some (kind.Access before)
      → map object_of (set_at rows) ≡ with_access file id attached (map object_of rows)
  objects_set [] ids is = cc
  objects_set (row ∷ rows) ids is =
      let owns = and_true (not (list_any (is_object row.file row.id) (map object_of rows)))
      (have_own_ids (map object_of rows)) ids in
      by_test (is_at file id row) refl (not_true _ owns.0) is (λ later. objects_set rows owns.1 later)
    where
      rest : List Object
      rest = map object_of rows

      by_test : (b : Bool) → is_at file id row ≡ b → list_any (is_object row.file row.id) rest ≡ false
          → elim (cond b (Some (object_of row)) (find (is_object file id) rest)) as (λ _. Option ObjectKind)
          [ Some o ↦ Some o.kind | None ↦ None ] ≡ Some (kind.Access before)
          → (kind_of rest file id ≡ Some (kind.Access before)
          → map object_of (set_at rows) ≡ with_access file id attached rest)
          → map object_of (set_at (row ∷ rows)) ≡ with_access file id attached (object_of row ∷ rest)
      by_test true here none is later =
          let others = sym (same_at row file id rest here) ∙ none in
          let was : kind_in row.value ≡ kind.Access before = cc in
          rw (here, not_there rows file id (with_value now) others, was, unattached_there rest file id attached others)
          refl
      by_test false here none is later = rw (here, later is) refl

  -- an access object has no areas, whether it is attached or not
  areas_set : (rows : List (Row (Held A))) (old : Held A)
      → option_map (λ (row : Row (Held A)). row.value) (find (is_at file id) rows) ≡ Some old
      → kind_of (map object_of rows) file id ≡ Some (kind.Access before) → (f : FileNo) (i : ObjId)
      → areas_at (set_at rows) f i ≡ areas_at rows f i
  areas_set rows old found is f i = by_name (is_space file id f i) refl
    where
      by_name : (b : Bool) → is_space file id f i ≡ b → areas_at (set_at rows) f i ≡ areas_at rows f i
      by_name true same =
          let names = and_true (eqb f.0 file.0) (eqb i.0 id.0) same in
          let none : has_ioas (map object_of rows) file id ≡ false =
          ap (λ (o : Option ObjectKind). elim o as (λ _. Bool) [ Some k ↦ is_ioas k | None ↦ false ]) is in
          rw (file_is f file names.0, id_is i id names.1)
          (areas_here rows file id old now found ∙ sym (areas_of_other rows file id none))
      by_name false other = areas_elsewhere rows file id now f i other

-- an access object's attachment is set
pub attachment_set : {A : Type 0} (table : Table (Held A)) (file : FileNo) (id : ObjId) (attached : Option ObjId)
    (old new : Held A) → option_map (λ (row : Row (Held A)). row.value) (own table file of_kind.Access id) ≡ Some old
    → (is_access (kind_in old) ≡ true → new ≡ held.Access attached)
    → IsOrderly table → has_access (objects_in table) file id ≡ true
    → HasAccess file id attached (users_at table.rows) table
    (record table { rows = changed_at file id (with_value new) table.rows })
attachment_set {A = A} table file id attached old new found becomes orderly has =
    let (before, is) = access_of (kind_of (objects_in table) file id) has in
    let first = own_is_first table.rows file of_kind.Access id old orderly.ids found in
    let of_old : kind_of (objects_in table) file id ≡ Some (kind_in old) =
    kind_of_rows table.rows file id ∙ ap kind_at first in
    let access : is_access (kind_in old) ≡ true =
    ap (λ (o : Option ObjectKind). elim o as (λ _. Bool) [ Some k ↦ is_access k | None ↦ false ]) (sym of_old) ∙ has in
    rw (becomes access) (record {
      objects = objects_set file id before attached table.rows orderly.ids is;
      areas = areas_set file id before attached table.rows old first is;
      files = refl;
      users = λ f i. users_kept table.rows file id (held.Access attached) f i;
    })

-- without an access object nothing is set
pub no_attachment : {A : Type 0} (table : Table (Held A)) (file : FileNo) (id : ObjId)
    → own table file of_kind.Access id ≡ None → has_access (objects_in table) file id ≡ true → ⊥
no_attachment table file id none has =
    let (before, is) = access_of (kind_of (objects_in table) file id) has in
    let (row, found, there) = own_row table.rows file id (kind.Access before) is in
    cc

-- ---- and a user more or fewer is counted

module _ {A : Type 0} (old base new : Table (Held A)) (file : FileNo) (id ioas : ObjId) (attached : Option ObjId)
    (set : HasAccess file id attached (users_at old.rows) old base)
    (space : has_ioas (objects_in old) file ioas ≡ true) (others : new ≡ record base { rows = new.rows }) where
  space_set : has_ioas (objects_in base) file ioas ≡ true
  space_set = ap (λ (l : List Object). has_ioas l file ioas) set.objects
      ∙ test_reattached file id attached is_ioas (λ a b. refl) (objects_in old) file ioas ∙ space

  its_row : (row : Row (Held A)) × (find (is_own file of_kind.Ioas ioas) base.rows ≡ Some row)
      × (find (is_at file ioas) base.rows ≡ Some row)
  its_row = space_row base.rows file ioas space_set

  abbrev users_from : Option (Row (Held A)) → ℕ
  users_from o = elim o [ Some row ↦ row.users | None ↦ 0 ]

  its_users : its_row.0.users ≡ users_at old.rows file ioas
  its_users = sym (ap users_from its_row.2) ∙ set.users file ioas

  counted : (n : ℕ) (counts : FileNo → ObjId → ℕ) → new.rows ≡ changed_at file ioas (with_users n) base.rows
      → counts file ioas ≡ n
      → ((f : FileNo) (i : ObjId) → is_space file ioas f i ≡ false → counts f i ≡ users_at old.rows f i)
      → HasAccess file id attached counts old new
  counted n counts rows here there = record {
    objects = ap (map object_of) rows ∙ objects-counted base.rows file ioas n ∙ set.objects;
    areas = λ f i. ap (λ (l : List (Row (Held A))). areas_at l f i) rows
        ∙ areas-counted base.rows file ioas n f i ∙ set.areas f i;
    files = ap (λ (t : Table (Held A)). t.files) others ∙ set.files;
    users = λ f i. ap (λ (l : List (Row (Held A))). users_at l f i) rows ∙ by_name f i (is_space file ioas f i) refl;
  }
    where
      by_name : (f : FileNo) (i : ObjId) (b : Bool) → is_space file ioas f i ≡ b
          → users_at (changed_at file ioas (with_users n) base.rows) f i ≡ counts f i
      by_name f i true is =
          let names = and_true (eqb f.0 file.0) (eqb i.0 ioas.0) is in
          rw (file_is f file names.0, id_is i ioas names.1)
          (users_here base.rows file ioas n its_row.0 its_row.2 ∙ sym here)
      by_name f i false is =
          users_elsewhere base.rows file ioas n f i is ∙ set.users f i ∙ sym (there f i is)

  itself : is_space file ioas file ioas ≡ true
  itself = grind (arith, nat_tests)

  pub attached_counted : IfSome (own base file of_kind.Ioas ioas) (λ row. row.users < 4294967295
      → new.rows ≡ changed_at file ioas (with_users (row.users + 1)) base.rows)
      → users_at old.rows file ioas < 4294967295
      → HasAccess file id attached (λ f i. one_at file ioas f i + users_at old.rows f i) old new
  attached_counted counts few =
      let rows = where_found (λ (r : Row (Held A)). r.users < 4294967295
      → new.rows ≡ changed_at file ioas (with_users (r.users + 1)) base.rows)
      (own base file of_kind.Ioas ioas) its_row.0 its_row.1 counts (omega (arith, its_users, few)) in
      counted (its_row.0.users + 1) (λ f i. one_at file ioas f i + users_at old.rows f i) rows
      (rw itself (omega (arith, its_users)))
      (λ f i is. rw is (omega arith))

  pub detached_counted : IfSome (own base file of_kind.Ioas ioas) (λ row. 0 < row.users
      → new.rows ≡ changed_at file ioas (with_users (row.users - 1)) base.rows)
      → 0 < users_at old.rows file ioas
      → HasAccess file id attached (λ f i. users_at old.rows f i - one_at file ioas f i) old new
  detached_counted counts some =
      let rows = where_found (λ (r : Row (Held A)). 0 < r.users
      → new.rows ≡ changed_at file ioas (with_users (r.users - 1)) base.rows)
      (own base file of_kind.Ioas ioas) its_row.0 its_row.1 counts (omega (arith, its_users, some)) in
      counted (its_row.0.users - 1) (λ f i. users_at old.rows f i - one_at file ioas f i) rows
      (rw itself (omega (arith, its_users)))
      (λ f i is. rw is (omega arith))
