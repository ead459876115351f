-- What an object that goes leaves of a world, and its areas of what is kept.
use Rattle.std.proofs.Common.{◌≡◌, Bool, true, false, cond, ◌&&◌, ◌||◌, not, eqb, is_some, Option, Some, None, List}
use Rattle.std.proofs.Common.{[], ◌∷◌, map, refl, sym, ◌∙◌, ap, arith}
use Rattle.std.specs.List.{find, filter, list_all, list_any}
use Rattle.std.proofs.lemmas.Bool.Decides.{nat_tests}
use Rattle.iofd_words.specs.Areas.{areas_of, is_of}
use Rattle.iofd_rows.specs.Ids.{have_own_ids}
use Rattle.iofd_words.specs.Objects.{access_ioas, is_hwpt, is_object, kind_of, objects_of}
use Rattle.iofd_words.specs.Objects.{without_object}
use Rattle.iofd_words.specs.declared.numbers.FileNo.{FileNo}
use Rattle.iofd_words.specs.declared.numbers.ObjId.{ObjId}
use Rattle.iofd_words.specs.declared.rows.Area.{Area}
use Rattle.iofd_words.specs.declared.rows.Attachment.{Attachment}
use Rattle.iofd_words.specs.declared.rows.Object.{Object}
use Rattle.iofd_words.specs.declared.rows.ObjectKind.{ObjectKind}
use Rattle.iofd_rows.proofs.Bools.{and_true}
use Rattle.iofd_rows.proofs.Each.{IsIn, in_found}
use Rattle.iofd_rows.proofs.Found.{find-filter}
use Rattle.iofd_rows.proofs.ListTests.{false_else, filter_all}
use Rattle.iofd_rows.proofs.Named.{file_is, id_is, kind_only}
use Rattle.iofd_runs.proofs.OwnIds.{any_found}
use Rattle.server_state.specs.Held.{areas_at, kind_in, object_of}
use Rattle.server_state.proofs.Counted.{other_over, over-without, to-left, users-removed}
use Rattle.server_state.specs.Spaces.{is_space}
use Rattle.server_state.specs.Users.{AreCounted, accesses_to, devices_on, tables_over, users_at}
use Rattle.server_state.specs.declared.held.Held.{Held}
use Rattle.object_table.specs.Table.{Row, is_of_file, removed}

-- ---- one object of the world goes

-- a row that passes a test of some row
pub some_in : {X : Type 0} (p : X → Bool) (xs : List X) → list_any p xs ≡ true → (x : X) × IsIn xs x × (p x ≡ true)
some_in {X = X} p xs any = by_found (find p xs) refl (sym (any_found p xs) ∙ any)
  where
    by_found : (o : Option X) → find p xs ≡ o → is_some o ≡ true → (x : X) × IsIn xs x × (p x ≡ true)
    by_found None is some = cc
    by_found (Some x) is some = let within = in_found p xs x is in (x, within.0, within.1)

-- no object of its name passes a test that no object of its kind passes
pub none_named : (p : Object → Bool) (objects : List Object) (file : FileNo) (id : ObjId) (k : ObjectKind)
    → have_own_ids objects ≡ true → kind_of objects file id ≡ Some k
    → ((object : Object) → object.file ≡ file → object.kind ≡ k → p object ≡ false)
    → list_any (λ object. p object && not (not (is_object file id object))) objects ≡ false
none_named p objects file id k unique is_kind fails =
    false_else (list_any (λ object. p object && not (not (is_object file id object))) objects)
    (λ any.
    let (object, within, passes) = some_in (λ object. p object && not (not (is_object file id object))) objects any in
    let parts = and_true (p object) (not (not (is_object file id object))) passes in
    let names = and_true (eqb object.file.0 file.0) (eqb object.id.0 id.0) (twice (is_object file id object) parts.1) in
    let of_file = file_is object.file file names.0 in
    let of_id = id_is object.id id names.1 in
    let found = sym (ap (λ (f : FileNo). kind_of objects f object.id) of_file
    ∙ ap (λ (i : ObjId). kind_of objects file i) of_id) ∙ kind_only objects object unique within in
    let same : object.kind ≡ k = cc in
    let no = fails object of_file same in
    differ (sym no ∙ parts.0))
  where
    twice : (b : Bool) → not (not b) ≡ true → b ≡ true
    twice true is = refl
    twice false is = cc

    differ : false ≡ true → ⊥
    differ is = cc

-- such a test finds what it found
pub found_without : (p : Object → Bool) (objects : List Object) (file : FileNo) (id : ObjId) (k : ObjectKind)
    → have_own_ids objects ≡ true → kind_of objects file id ≡ Some k
    → ((object : Object) → object.file ≡ file → object.kind ≡ k → p object ≡ false)
    → find p (without_object file id objects) ≡ find p objects
found_without p objects file id k unique is_kind fails =
    find-filter p (λ object. not (is_object file id object)) objects
    (none_named p objects file id k unique is_kind fails)

pub any_without : (p : Object → Bool) (objects : List Object) (file : FileNo) (id : ObjId) (k : ObjectKind)
    → have_own_ids objects ≡ true → kind_of objects file id ≡ Some k
    → ((object : Object) → object.file ≡ file → object.kind ≡ k → p object ≡ false)
    → list_any p (without_object file id objects) ≡ list_any p objects
any_without p objects file id k unique is_kind fails =
    any_found p (without_object file id objects)
    ∙ ap (λ (o : Option Object). is_some o) (found_without p objects file id k unique is_kind fails)
    ∙ sym (any_found p objects)

none_left : {X : Type 0} (p : X → Bool) (xs : List X) → filter p xs ≡ [] → list_any p xs ≡ false
none_left p [] none = refl
none_left p (x ∷ xs) none = by_test (p x) none (λ later. none_left p xs later)
  where
    by_test : (b : Bool) → cond b (x ∷ filter p xs) (filter p xs) ≡ [] → (filter p xs ≡ [] → list_any p xs ≡ false)
        → (b || list_any p xs) ≡ false
    by_test true none later = cc
    by_test false none later = later none

none_pass : {X : Type 0} (p : X → Bool) (xs : List X) → list_any p xs ≡ false → list_all (λ x. not (p x)) xs ≡ true
none_pass p [] none = refl
none_pass p (x ∷ xs) none = by_test (p x) none (λ later. none_pass p xs later)
  where
    by_test : (b : Bool) → (b || list_any p xs) ≡ false → (list_any p xs ≡ false → list_all (λ x. not (p x)) xs ≡ true)
        → (not b && list_all (λ x. not (p x)) xs) ≡ true
    by_test true none later = cc
    by_test false none later = later none

-- what has no areas takes none with it
pub areas_stay : (areas : List Area) (file : FileNo) (id : ObjId) → areas_of areas file id ≡ []
    → filter (λ (area : Area). not (is_of file id area)) areas ≡ areas
areas_stay areas file id empty =
    filter_all (λ (area : Area). not (is_of file id area)) areas
    (none_pass (is_of file id) areas (none_left (is_of file id) areas empty))

-- the areas of one address space go
pub areas_here : (areas : List Area) (file : FileNo) (id : ObjId)
    → areas_of (filter (λ area. not (is_of file id area)) areas) file id ≡ []
areas_here [] file id = refl
areas_here (area ∷ areas) file id = let rest = areas_here areas file id in grind (arith, nat_tests)

pub areas_elsewhere : (areas : List Area) (file : FileNo) (id : ObjId) (f : FileNo) (i : ObjId)
    → is_space file id f i ≡ false → areas_of (filter (λ area. not (is_of file id area)) areas) f i ≡ areas_of areas f i
areas_elsewhere [] file id f i other = refl
areas_elsewhere (area ∷ areas) file id f i other =
    let rest = areas_elsewhere areas file id f i other in grind (arith, nat_tests)

module _ {A : Type 0} where
  -- a file's objects of kinds that pass a test
  pub kind_rows : (test : ObjectKind → Bool) (rows : List (Row (Held A))) (file : FileNo)
      → list_any (λ (object : Object). test object.kind) (objects_of (map object_of rows) file) ≡ list_any
      (λ (row : Row (Held A)). test (kind_in row.value)) (filter (is_of_file file) rows)
  kind_rows test [] file = refl
  kind_rows test (row ∷ rows) file = by_file (is_of_file file row) (kind_rows test rows file)
    where
      by_file : (b : Bool)
          → list_any (λ (object : Object). test object.kind) (objects_of (map object_of rows) file)
          ≡ list_any (λ (row : Row (Held A)). test (kind_in row.value)) (filter (is_of_file file) rows)
          → list_any (λ (object : Object). test object.kind)
          (cond b (object_of row ∷ objects_of (map object_of rows) file) (objects_of (map object_of rows) file))
          ≡ list_any (λ (row : Row (Held A)). test (kind_in row.value))
          (cond b (row ∷ filter (is_of_file file) rows) (filter (is_of_file file) rows))
      by_file true rest = ap (λ b. test (kind_in row.value) || b) rest
      by_file false rest = rest

  -- ---- one row goes

  rows_here : (rows : List (Row (Held A))) (file : FileNo) (id : ObjId) → areas_at (removed file id rows) file id ≡ []
  rows_here [] file id = refl
  rows_here (row ∷ rows) file id = let rest = rows_here rows file id in grind (arith, nat_tests)

  rows_elsewhere : (rows : List (Row (Held A))) (file : FileNo) (id : ObjId) (f : FileNo) (i : ObjId)
      → is_space file id f i ≡ false → areas_at (removed file id rows) f i ≡ areas_at rows f i
  rows_elsewhere [] file id f i other = refl
  rows_elsewhere (row ∷ rows) file id f i other =
      let rest = rows_elsewhere rows file id f i other in grind (arith, nat_tests)

  pub areas-removed : (areas : List Area) (rows : List (Row (Held A))) (file : FileNo) (id : ObjId)
      → ((f : FileNo) (i : ObjId) → areas_of areas f i ≡ areas_at rows f i)
      → (f : FileNo) (i : ObjId) → areas_of (filter (λ area. not (is_of file id area)) areas) f i ≡ areas_at
      (removed file id rows) f i
  areas-removed areas rows file id same f i = by_space (is_space file id f i) refl
    where
      by_space : (b : Bool) → is_space file id f i ≡ b
          → areas_of (filter (λ area. not (is_of file id area)) areas) f i ≡ areas_at (removed file id rows) f i
      by_space true is =
          let names = and_true (eqb f.0 file.0) (eqb i.0 id.0) is in
          rw (file_is f file names.0, id_is i id names.1) (areas_here areas file id ∙ sym (rows_here rows file id))
      by_space false is = areas_elsewhere areas file id f i is ∙ same f i ∙ sym (rows_elsewhere rows file id f i is)

  -- its counts go with an object on which no page table stands, to which no access object is attached, and by which no
  -- device translates
  pub other_goes : (objects : List Object) (attachments : List Attachment) (rows : List (Row (Held A)))
      → AreCounted objects attachments rows → (file : FileNo) (id : ObjId) (k : ObjectKind)
      → have_own_ids objects ≡ true → kind_of objects file id ≡ Some k → is_hwpt k ≡ false → access_ioas k ≡ None
      → tables_over objects file id ≡ 0 → accesses_to objects file id ≡ 0 → devices_on attachments file id ≡ 0
      → AreCounted (without_object file id objects) attachments (removed file id rows)
  other_goes objects attachments rows counted file id k ids is_kind other unattached none no_access no_device f i =
      let unused : users_at rows file id ≡ 0 =
      let here = counted file id in omega (arith, here, none, no_access, no_device) in
      let same = users-removed rows file id unused f i in
      let all = over-without objects file id k f i ids is_kind in
      let left = to-left objects file id k f i ids is_kind unattached in
      let not_over = other_over file k f i other in
      let was = counted f i in
      omega (arith, same, all, left, not_over, was)
