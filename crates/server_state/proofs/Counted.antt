-- The page tables that are counted with their address spaces, and the devices with their page tables, as objects and
-- attachments come and go.
use Rattle.std.proofs.Common.{◌≡◌, ℕ, ◌+◌, ◌-◌, ◌<◌, ◌≤◌, Bool, true, false, cond, ◌&&◌, not, eqb, leb, ltb, Option}
use Rattle.std.proofs.Common.{Some, None, List, [], ◌∷◌, length, map, refl, sym, ◌∙◌, ap, subst, arith}
use Rattle.std.proofs.Common.{IfSome}
use Rattle.std.specs.Option.{option_map}
use Rattle.std.specs.List.{count_by, find, list_all, list_any}
use Rattle.std.proofs.lemmas.Bool.Decides.{nat_tests}
use Rattle.iofd_rows.proofs.Bools.{and_true, not_true}
use Rattle.iofd_rows.proofs.Each.{in_found}
use Rattle.iofd_rows.proofs.Found.{found_passes}
use Rattle.iofd_rows.proofs.Inserted.{count-inserted}
use Rattle.iofd_rows.proofs.Named.{file_is, id_is}
use Rattle.iofd_rows.specs.Debts.{attach_once, is_over_space}
use Rattle.iofd_rows.specs.Ids.{have_own_ids}
use Rattle.iofd_words.specs.Attachments.{attachment_of, ioas_of, with_attachment, without_attachment}
use Rattle.iofd_words.specs.Objects.{access_ioas, comes_before, has_access_to, has_hwpt, has_ioas, is_access_to}
use Rattle.iofd_words.specs.Objects.{is_full, is_hwpt, is_hwpt_over, is_ioas, is_object, kind_of, objects_of}
use Rattle.iofd_words.specs.Objects.{with_object, without_object}
use Rattle.iofd_words.specs.declared.numbers.FileNo.{FileNo}
use Rattle.iofd_words.specs.declared.numbers.ObjId.{ObjId}
use Rattle.iofd_words.specs.declared.numbers.DeviceNo.{DeviceNo}
use Rattle.iofd_words.specs.declared.rows.Attachment.{Attachment}
use Rattle.iofd_words.specs.declared.rows.Object.{Object}
use Rattle.iofd_words.specs.declared.rows.ObjectKind.{ObjectKind}
use Rattle.iofd_words.specs.declared.rows.ObjectKind.TheVariants as kind
use Rattle.iofd_words.specs.declared.width.Width.{Width}
use Rattle.user_memory_rows.proofs.CountBy.{any_count, count-cons}
use Rattle.object_table.specs.Table.{Row, changed_at, inserted, is_at, is_same_kind, removed}
use Rattle.object_table.specs.Table.{with_users}
use Rattle.object_table.specs.declared.kind.Kind.{Kind}
use Rattle.object_table.specs.declared.kind.Kind.TheVariants as of_kind
use Rattle.server_state.proofs.AreasHeld.{found_first}
use Rattle.server_state.proofs.Objects.{kind_at, kind_of_rows}
use Rattle.server_state.proofs.DevicesOn.{devices-with, devices-without, on_by}
use Rattle.server_state.specs.Held.{areas_at, held_kind, is_own, kind_in, object_of, table_kind}
use Rattle.server_state.specs.Spaces.{is_space}
use Rattle.server_state.specs.Users.{AreCounted, accesses_to, devices_on, tables_over, users_at}
use Rattle.server_state.specs.declared.held.Held.{Held}

turned : (a b c d : ℕ) → ◌≡◌ {A = ℕ} (cond (eqb a b && eqb c d) 1 0) (cond (eqb b a && eqb d c) 1 0)
turned a b c d = grind (arith, nat_tests)

kind_itself : (k : Kind) → is_same_kind k k ≡ true
kind_itself of_kind.Ioas = refl
kind_itself of_kind.Hwpt = refl
kind_itself of_kind.Device = refl
kind_itself of_kind.Access = refl

-- what holds where something is found
pub where_found : {X : Type 0} (P : X → Type 0) (o : Option X) (x : X) → o ≡ Some x → IfSome o P → P x
where_found {X = X} P o x is holds = let Holds = λ (o : Option X). IfSome o P in subst Holds is holds

-- ---- how many page tables stand over an address space

-- 1 where an object of this file and kind is a page table over it
abbrev pub over_by : FileNo → ObjectKind → FileNo → ObjId → ℕ
over_by file k f i = cond (eqb file.0 f.0 && is_hwpt_over i k) 1 0

pub has_over : (objects : List Object) (f : FileNo) (i : ObjId)
    → has_hwpt objects f i ≡ ltb 0 (tables_over objects f i)
has_over objects f i = any_count (λ (o : Object). eqb o.file.0 f.0 && is_hwpt_over i o.kind) objects

pub none_over : (objects : List Object) (f : FileNo) (i : ObjId) → has_hwpt objects f i ≡ false
    → tables_over objects f i ≡ 0
none_over objects f i none = zero (tables_over objects f i) (sym (has_over objects f i) ∙ none)
  where
    zero : (n : ℕ) → ltb 0 n ≡ false → n ≡ 0
    zero n is = search (is, arith, nat_tests)

-- page tables stand over address spaces alone
pub over_spaces : (objects : List Object) (f : FileNo) (i : ObjId)
    → list_all (is_over_space objects) objects ≡ true → has_ioas objects f i ≡ false → tables_over objects f i ≡ 0
over_spaces objects f i over none = among objects over
  where
    not_over : (file : FileNo) (k : ObjectKind) → is_over_space objects (record {
      file = file;
      id = i;
      kind = k;
    }) ≡ true → (eqb file.0 f.0 && is_hwpt_over i k) ≡ false
    not_over file kind.Ioas is = fails (eqb file.0 f.0)
      where
        fails : (b : Bool) → (b && false) ≡ false
        fails true = refl
        fails false = refl
    not_over file (kind.Device device) is = fails (eqb file.0 f.0)
      where
        fails : (b : Bool) → (b && false) ≡ false
        fails true = refl
        fails false = refl
    not_over file (kind.Access attached) is = fails (eqb file.0 f.0)
      where
        fails : (b : Bool) → (b && false) ≡ false
        fails true = refl
        fails false = refl
    not_over file (kind.Hwpt own width automatic) is = by_names (eqb file.0 f.0) (eqb own.0 i.0) refl refl
      where
        by_names : (b c : Bool) → eqb file.0 f.0 ≡ b → eqb own.0 i.0 ≡ c → (b && c) ≡ false
        by_names true true of_file of_id =
            let there : has_ioas objects f i ≡ true =
            sym (ap (λ (x : FileNo). has_ioas objects x own) (file_is file f of_file)
            ∙ ap (λ (x : ObjId). has_ioas objects f x) (id_is own i of_id)) ∙ is in
            cc
        by_names true false of_file of_id = refl
        by_names false c of_file of_id = refl

    among : (xs : List Object) → list_all (is_over_space objects) xs ≡ true → tables_over xs f i ≡ 0
    among [] all = refl
    among (x ∷ xs) all =
        let parts = and_true (is_over_space objects x) (list_all (is_over_space objects) xs) all in
        let rest = among xs parts.1 in
        let one : over_by x.file x.kind f i ≡ 0 = ap (λ (b : Bool). cond b 1 0) (not_over x.file x.kind parts.0) in
        let all = count-cons (λ (o : Object). eqb o.file.0 f.0 && is_hwpt_over i o.kind) x xs in
        omega (arith, all, one, rest)

-- a page table is over an address space
pub space_under : (objects : List Object) (file : FileNo) (id ioas : ObjId) (width : Width) (automatic : Bool)
    → list_all (is_over_space objects) objects ≡ true
    → kind_of objects file id ≡ Some (kind.Hwpt ioas width automatic) → has_ioas objects file ioas ≡ true
space_under objects file id ioas width automatic over is = by_object (find (is_object file id) objects) refl is
  where
    by_object : (o : Option Object) → find (is_object file id) objects ≡ o
        → elim o as (λ _. Option ObjectKind) [ Some x ↦ Some x.kind | None ↦ None ]
        ≡ Some (kind.Hwpt ioas width automatic) → has_ioas objects file ioas ≡ true
    by_object None found is = cc
    by_object (Some x) found is =
        let passes = found_passes (is_over_space objects) (is_object file id) objects x over found in
        let names = and_true (eqb x.file.0 file.0) (eqb x.id.0 id.0) passes.1 in
        let of_kind : x.kind ≡ kind.Hwpt ioas width automatic = cc in
        let there : has_ioas objects x.file ioas ≡ true = sym (ap (λ (k : ObjectKind). elim (ioas_of k) as (λ _. Bool)
        [ Some own ↦ has_ioas objects x.file own | None ↦ true ]) of_kind) ∙ passes.0 in
        sym (ap (λ (f : FileNo). has_ioas objects f ioas) (file_is x.file file names.0)) ∙ there

pub over-with : (object : Object) (objects : List Object) (f : FileNo) (i : ObjId)
    → tables_over (with_object object objects) f i ≡ over_by object.file object.kind f i + tables_over objects f i
over-with object objects f i =
    count-inserted comes_before (λ (o : Object). eqb o.file.0 f.0 && is_hwpt_over i o.kind) object objects

pub no_one : (b : Bool) → ◌≡◌ {A = ℕ} (cond (b && false) 1 0) 0
no_one true = refl
no_one false = refl

pub other_over : (file : FileNo) (k : ObjectKind) (f : FileNo) (i : ObjId) → is_hwpt k ≡ false → over_by file k f i ≡ 0
other_over file kind.Ioas f i is = no_one (eqb file.0 f.0)
other_over file (kind.Hwpt ioas width automatic) f i is = cc
other_over file (kind.Device device) f i is = no_one (eqb file.0 f.0)
other_over file (kind.Access attached) f i is = no_one (eqb file.0 f.0)

-- an object that is no page table comes
pub over-beside : (object : Object) (objects : List Object) (f : FileNo) (i : ObjId) → is_hwpt object.kind ≡ false
    → tables_over (with_object object objects) f i ≡ tables_over objects f i
over-beside object objects f i other =
    let all = over-with object objects f i in
    let none = other_over object.file object.kind f i other in
    omega (arith, all, none)

not_there : (objects : List Object) (file : FileNo) (id : ObjId) → list_any (is_object file id) objects ≡ false
    → without_object file id objects ≡ objects
not_there [] file id none = refl
not_there (o ∷ objects) file id none = let rest = not_there objects file id in grind (arith, nat_tests)

pub same_named : (object : Object) (file : FileNo) (id : ObjId) (objects : List Object)
    → is_object file id object ≡ true
    → list_any (is_object object.file object.id) objects ≡ list_any (is_object file id) objects
same_named object file id [] is = refl
same_named object file id (o ∷ objects) is =
    let rest = same_named object file id objects is in grind (arith, nat_tests)

-- how many objects of a file are of kinds that pass a test
abbrev pub count_kinds : (ObjectKind → Bool) → FileNo → List Object → ℕ
count_kinds test f objects = count_by (λ (o : Object). eqb o.file.0 f.0 && test o.kind) objects

-- one goes
pub kinds-without : (test : ObjectKind → Bool) (objects : List Object) (file : FileNo) (id : ObjId) (k : ObjectKind)
    (f : FileNo) → have_own_ids objects ≡ true → kind_of objects file id ≡ Some k
    → count_kinds test f (without_object file id objects) + cond (eqb file.0 f.0 && test k) 1 0
    ≡ count_kinds test f objects
kinds-without test [] file id k f ids is = cc
kinds-without test (object ∷ objects) file id k f ids is =
    let owns = and_true (not (list_any (is_object object.file object.id) objects)) (have_own_ids objects) ids in
    by_test (is_object file id object) refl (not_true _ owns.0) is
    (λ later. kinds-without test objects file id k f owns.1 later)
  where
    passes : Object → Bool
    passes o = eqb o.file.0 f.0 && test o.kind

    one_by : FileNo → ObjectKind → ℕ
    one_by own kind = cond (eqb own.0 f.0 && test kind) 1 0

    by_test : (b : Bool) → is_object file id object ≡ b
        → list_any (is_object object.file object.id) objects ≡ false
        → elim (cond b (Some object) (find (is_object file id) objects)) as (λ _. Option ObjectKind)
        [ Some o ↦ Some o.kind | None ↦ None ] ≡ Some k
        → (kind_of objects file id ≡ Some k
        → count_by passes (without_object file id objects) + one_by file k ≡ count_by passes objects)
        → count_by passes (cond (not b) (object ∷ without_object file id objects) (without_object file id objects))
        + one_by file k ≡ count_by passes (object ∷ objects)
    by_test true named none is later =
        let gone = not_there objects file id (sym (same_named object file id objects named) ∙ none) in
        let names = and_true (eqb object.file.0 file.0) (eqb object.id.0 id.0) named in
        let of_kind : object.kind ≡ k = cc in
        let one : one_by object.file object.kind ≡ one_by file k =
        ap (λ (x : FileNo). one_by x object.kind) (file_is object.file file names.0) ∙ ap (one_by file) of_kind in
        let all = count-cons passes object objects in
        let same : count_by passes (without_object file id objects) ≡ count_by passes objects =
        ap (count_by passes) gone in
        omega (arith, all, same, one)
    by_test false named none is later =
        let rest = later is in
        let all = count-cons passes object objects in
        let left = count-cons passes object (without_object file id objects) in
        omega (arith, rest, all, left)

pub over-without : (objects : List Object) (file : FileNo) (id : ObjId) (k : ObjectKind) (f : FileNo) (i : ObjId)
    → have_own_ids objects ≡ true → kind_of objects file id ≡ Some k
    → tables_over (without_object file id objects) f i + over_by file k f i ≡ tables_over objects f i
over-without objects file id k f i ids is = kinds-without (is_hwpt_over i) objects file id k f ids is

itself : (n : ℕ) → eqb n n ≡ true
itself n = grind (arith, nat_tests)

-- over the address space of a page table stands one
pub some_over : (objects : List Object) (file : FileNo) (id ioas : ObjId) (width : Width) (automatic : Bool)
    → have_own_ids objects ≡ true → kind_of objects file id ≡ Some (kind.Hwpt ioas width automatic)
    → 0 < tables_over objects file ioas
some_over objects file id ioas width automatic ids is =
    let all = over-without objects file id (kind.Hwpt ioas width automatic) file ioas ids is in
    let one : over_by file (kind.Hwpt ioas width automatic) file ioas ≡ 1 = rw (itself file.0, itself ioas.0) refl in
    omega (arith, all, one)

-- ---- how many access objects are attached to an address space

-- 1 where an object of this file and kind is one
abbrev pub to_by : FileNo → ObjectKind → FileNo → ObjId → ℕ
to_by file k f i = cond (eqb file.0 f.0 && is_access_to i k) 1 0

pub has_to : (objects : List Object) (f : FileNo) (i : ObjId)
    → has_access_to objects f i ≡ ltb 0 (accesses_to objects f i)
has_to objects f i = any_count (λ (o : Object). eqb o.file.0 f.0 && is_access_to i o.kind) objects

-- what is no access object, or one that isn't attached
pub unattached : (file : FileNo) (k : ObjectKind) (f : FileNo) (i : ObjId) → access_ioas k ≡ None → to_by file k f i ≡ 0
unattached file k f i none =
    ap (λ (o : Option ObjId). let n : ℕ = cond (eqb file.0 f.0 && elim o as (λ _. Bool)
    [ Some attached ↦ eqb attached.0 i.0 | None ↦ false ]) 1 0 in n) none
    ∙ no_one (eqb file.0 f.0)

-- it comes
pub to-beside : (object : Object) (objects : List Object) (f : FileNo) (i : ObjId) → access_ioas object.kind ≡ None
    → accesses_to (with_object object objects) f i ≡ accesses_to objects f i
to-beside object objects f i other =
    let all =
    count-inserted comes_before (λ (o : Object). eqb o.file.0 f.0 && is_access_to i o.kind) object objects in
    let none = unattached object.file object.kind f i other in
    omega (arith, all, none)

-- and goes
pub to-left : (objects : List Object) (file : FileNo) (id : ObjId) (k : ObjectKind) (f : FileNo) (i : ObjId)
    → have_own_ids objects ≡ true → kind_of objects file id ≡ Some k → access_ioas k ≡ None
    → accesses_to (without_object file id objects) f i ≡ accesses_to objects f i
to-left objects file id k f i ids is other =
    let all = kinds-without (is_access_to i) objects file id k f ids is in
    let none = unattached file k f i other in
    omega (arith, all, none)

-- page tables and access objects on an address space are objects of its file
pub few_users : (objects : List Object) (f : FileNo) (i : ObjId)
    → tables_over objects f i + accesses_to objects f i ≤ length (objects_of objects f)
few_users [] f i = omega arith
few_users (o ∷ objects) f i =
    rw (
      count-cons (λ (x : Object). eqb x.file.0 f.0 && is_hwpt_over i x.kind) o objects,
      count-cons (λ (x : Object). eqb x.file.0 f.0 && is_access_to i x.kind) o objects,
    ) (by_file (eqb o.file.0 f.0) (few_users objects f i))
  where
    at_most_one : (k : ObjectKind) → cond (is_hwpt_over i k) 1 0 + cond (is_access_to i k) 1 0 ≤ 1
    at_most_one kind.Ioas = omega arith
    at_most_one (kind.Hwpt ioas width automatic) = by_id (eqb ioas.0 i.0)
      where
        by_id : (b : Bool) → cond b 1 0 + 0 ≤ 1
        by_id true = omega arith
        by_id false = omega arith
    at_most_one (kind.Device device) = omega arith
    at_most_one (kind.Access None) = omega arith
    at_most_one (kind.Access (Some ioas)) = by_id (eqb ioas.0 i.0)
      where
        by_id : (b : Bool) → 0 + cond b 1 0 ≤ 1
        by_id true = omega arith
        by_id false = omega arith

    by_file : (b : Bool) → tables_over objects f i + accesses_to objects f i ≤ length (objects_of objects f)
        → (cond (b && is_hwpt_over i o.kind) 1 0 + tables_over objects f i)
        + (cond (b && is_access_to i o.kind) 1 0 + accesses_to objects f i)
        ≤ length (cond b (o ∷ objects_of objects f) (objects_of objects f))
    by_file true rest = let one = at_most_one o.kind in omega (arith, rest, one)
    by_file false rest = omega (arith, rest)

-- so they are few where the file isn't full
pub few_standing : (objects : List Object) (f : FileNo) (i : ObjId) → is_full objects f ≡ false
    → tables_over objects f i + accesses_to objects f i < 65535
few_standing objects f i room =
    let few = few_users objects f i in
    let below = short (length (objects_of objects f)) room in
    omega (arith, few, below)
  where
    short : (n : ℕ) → leb 65535 n ≡ false → n < 65535
    short n is = grind (arith, nat_tests)

-- all users of an object
abbrev pub counts_of : List Object → List Attachment → FileNo → ObjId → ℕ
counts_of objects attachments f i =
    tables_over objects f i + accesses_to objects f i + devices_on attachments f i

-- ---- how many are counted

module _ {A : Type 0} where
  abbrev users_from : Option (Row (Held A)) → ℕ
  users_from o = elim o [ Some row ↦ row.users | None ↦ 0 ]

  -- an object that nobody uses comes, under an unused id
  pub users-inserted : (row : Row (Held A)) (rows : List (Row (Held A))) (f : FileNo) (i : ObjId) → row.users ≡ 0
      → find (is_at row.file row.id) rows ≡ None → users_at (inserted row rows) f i ≡ users_at rows f i
  users-inserted row [] f i none unused = grind (arith, nat_tests)
  users-inserted row (next ∷ rows) f i none unused =
      let rest = users-inserted row rows f i none in grind (arith, nat_tests)

  -- a count changes: the objects stay, and their areas
  pub objects-counted : (rows : List (Row (Held A))) (file : FileNo) (id : ObjId) (n : ℕ)
      → map object_of (changed_at file id (with_users n) rows) ≡ map object_of rows
  objects-counted [] file id n = refl
  objects-counted (row ∷ rows) file id n = by_test (is_at file id row) (objects-counted rows file id n)
    where
      by_test : (b : Bool) → map object_of (changed_at file id (with_users n) rows) ≡ map object_of rows
          → map object_of (cond b (with_users n row) row ∷ changed_at file id (with_users n) rows)
          ≡ map object_of (row ∷ rows)
      by_test true rest = ap (λ (l : List Object). object_of row ∷ l) rest
      by_test false rest = ap (λ (l : List Object). object_of row ∷ l) rest

  pub areas-counted : (rows : List (Row (Held A))) (file : FileNo) (id : ObjId) (n : ℕ) (f : FileNo) (i : ObjId)
      → areas_at (changed_at file id (with_users n) rows) f i ≡ areas_at rows f i
  areas-counted [] file id n f i = refl
  areas-counted (row ∷ rows) file id n f i =
      by_tests (is_at file id row) (is_at f i row) refl (areas-counted rows file id n f i)
    where
      by_tests : (b c : Bool) → is_at f i row ≡ c
          → areas_at (changed_at file id (with_users n) rows) f i ≡ areas_at rows f i
          → areas_at (cond b (with_users n row) row ∷ changed_at file id (with_users n) rows) f i
          ≡ areas_at (row ∷ rows) f i
      by_tests true true is rest = rw (is, areas_at) refl
      by_tests true false is rest = rw (is, areas_at) rest
      by_tests false true is rest = rw (is, areas_at) refl
      by_tests false false is rest = rw (is, areas_at) rest

  pub users_here : (rows : List (Row (Held A))) (file : FileNo) (id : ObjId) (n : ℕ) (row : Row (Held A))
      → find (is_at file id) rows ≡ Some row → users_at (changed_at file id (with_users n) rows) file id ≡ n
  users_here [] file id n found is = cc
  users_here (row ∷ rows) file id n found is =
      by_test (is_at file id row) refl is (users_here rows file id n found)
    where
      by_test : (b : Bool) → is_at file id row ≡ b → cond b (Some row) (find (is_at file id) rows) ≡ Some found
          → (find (is_at file id) rows ≡ Some found → users_at (changed_at file id (with_users n) rows) file id ≡ n)
          → users_at (cond b (with_users n row) row ∷ changed_at file id (with_users n) rows) file id ≡ n
      by_test true here is later = rw (here, users_at) refl
      by_test false here is later = rw (here, users_at) (later is)

  pub users_elsewhere : (rows : List (Row (Held A))) (file : FileNo) (id : ObjId) (n : ℕ) (f : FileNo) (i : ObjId)
      → is_space file id f i ≡ false → users_at (changed_at file id (with_users n) rows) f i ≡ users_at rows f i
  users_elsewhere [] file id n f i other = refl
  users_elsewhere (row ∷ rows) file id n f i other =
      let rest = users_elsewhere rows file id n f i other in grind (arith, nat_tests)

  users_left : (rows : List (Row (Held A))) (file : FileNo) (id : ObjId) (f : FileNo) (i : ObjId)
      → is_space file id f i ≡ false → users_at (removed file id rows) f i ≡ users_at rows f i
  users_left [] file id f i other = refl
  users_left (row ∷ rows) file id f i other =
      let rest = users_left rows file id f i other in grind (arith, nat_tests)

  none_left : (rows : List (Row (Held A))) (file : FileNo) (id : ObjId) → users_at (removed file id rows) file id ≡ 0
  none_left [] file id = refl
  none_left (row ∷ rows) file id = by_test (is_at file id row) refl (none_left rows file id)
    where
      by_test : (b : Bool) → is_at file id row ≡ b → users_at (removed file id rows) file id ≡ 0
          → users_at (cond (not b) (row ∷ removed file id rows) (removed file id rows)) file id ≡ 0
      by_test true is rest = rest
      by_test false is rest = rw (is, users_at) rest

  -- one that nobody uses goes
  pub users-removed : (rows : List (Row (Held A))) (file : FileNo) (id : ObjId) → users_at rows file id ≡ 0
      → (f : FileNo) (i : ObjId) → users_at (removed file id rows) f i ≡ users_at rows f i
  users-removed rows file id none f i = by_name (is_space file id f i) refl
    where
      by_name : (b : Bool) → is_space file id f i ≡ b → users_at (removed file id rows) f i ≡ users_at rows f i
      by_name true is =
          let names = and_true (eqb f.0 file.0) (eqb i.0 id.0) is in
          rw (file_is f file names.0, id_is i id names.1) (none_left rows file id ∙ sym none)
      by_name false is = users_left rows file id f i is

  -- ---- the row of an object

  pub own_row : (rows : List (Row (Held A))) (file : FileNo) (id : ObjId) (k : ObjectKind)
      → kind_of (map object_of rows) file id ≡ Some k
      → (row : Row (Held A)) × (find (is_own file (table_kind k) id) rows ≡ Some row)
      × (find (is_at file id) rows ≡ Some row)
  own_row [] file id k is = cc
  own_row (row ∷ rows) file id k is = by_test (is_at file id row) refl is (own_row rows file id k)
    where
      by_test : (b : Bool) → is_at file id row ≡ b
          → elim (cond b (Some (object_of row)) (find (is_object file id) (map object_of rows)))
          as (λ _. Option ObjectKind) [ Some o ↦ Some o.kind | None ↦ None ] ≡ Some k
          → (kind_of (map object_of rows) file id ≡ Some k → (found : Row (Held A))
          × (find (is_own file (table_kind k) id) rows ≡ Some found) × (find (is_at file id) rows ≡ Some found))
          → (found : Row (Held A)) × (find (is_own file (table_kind k) id) (row ∷ rows) ≡ Some found)
          × (find (is_at file id) (row ∷ rows) ≡ Some found)
      by_test true here is later =
          let of_kind : kind_in row.value ≡ k = cc in
          let same : is_same_kind (table_kind (kind_in row.value)) (table_kind k) ≡ true =
          rw of_kind (kind_itself (table_kind k)) in
          (row, rw (here, same) refl, rw here refl)
      by_test false here is later = let (found, own, at) = later is in (found, rw here own, rw here at)

  -- an object that is found under a kind is of that kind
  pub own_kind : (rows : List (Row (Held A))) (file : FileNo) (id : ObjId) (k : Kind) (row : Row (Held A))
      → have_own_ids (map object_of rows) ≡ true → find (is_own file k id) rows ≡ Some row
      → (find (is_at file id) rows ≡ Some row) × (kind_of (map object_of rows) file id ≡ Some (kind_in row.value))
      × (table_kind (kind_in row.value) ≡ k)
  own_kind rows file id k row ids found =
      let there = found_first rows file k id row ids found in
      let own = and_true (is_at file id row) (is_same_kind (held_kind row.value) k)
      (in_found (is_own file k id) rows row found).1 in (
        there,
        kind_of_rows rows file id
            ∙ ap (λ (o : Option (Row (Held A))). kind_at (option_map (λ (r : Row (Held A)). r.value) o)) there,
        kind_is (held_kind row.value) k own.1,
      )
    where
      kind_is : (a b : Kind) → is_same_kind a b ≡ true → a ≡ b
      kind_is of_kind.Ioas of_kind.Ioas is = refl
      kind_is of_kind.Ioas of_kind.Hwpt is = cc
      kind_is of_kind.Ioas of_kind.Device is = cc
      kind_is of_kind.Ioas of_kind.Access is = cc
      kind_is of_kind.Hwpt of_kind.Ioas is = cc
      kind_is of_kind.Hwpt of_kind.Hwpt is = refl
      kind_is of_kind.Hwpt of_kind.Device is = cc
      kind_is of_kind.Hwpt of_kind.Access is = cc
      kind_is of_kind.Device of_kind.Ioas is = cc
      kind_is of_kind.Device of_kind.Hwpt is = cc
      kind_is of_kind.Device of_kind.Device is = refl
      kind_is of_kind.Device of_kind.Access is = cc
      kind_is of_kind.Access of_kind.Ioas is = cc
      kind_is of_kind.Access of_kind.Hwpt is = cc
      kind_is of_kind.Access of_kind.Device is = cc
      kind_is of_kind.Access of_kind.Access is = refl

  -- the row of an address space
  pub space_row : (rows : List (Row (Held A))) (file : FileNo) (ioas : ObjId)
      → has_ioas (map object_of rows) file ioas ≡ true
      → (row : Row (Held A)) × (find (is_own file of_kind.Ioas ioas) rows ≡ Some row)
      × (find (is_at file ioas) rows ≡ Some row)
  space_row rows file ioas has =
      own_row rows file ioas kind.Ioas (by_kind (kind_of (map object_of rows) file ioas) has)
    where
      by_kind : (o : Option ObjectKind) → elim o as (λ _. Bool) [ Some k ↦ is_ioas k | None ↦ false ] ≡ true
          → o ≡ Some kind.Ioas
      by_kind None is = cc
      by_kind (Some kind.Ioas) is = refl
      by_kind (Some (kind.Hwpt over width automatic)) is = cc
      by_kind (Some (kind.Device device)) is = cc
      by_kind (Some (kind.Access attached)) is = cc

  -- ---- what is counted stays right

  module _ (rows : List (Row (Held A))) (file : FileNo) (id : ObjId) (row : Row (Held A)) (old new : FileNo → ObjId → ℕ)
      (found : find (is_at file id) rows ≡ Some row)
      (was : (f : FileNo) (i : ObjId) → users_at rows f i ≡ old f i) where
    -- where there is one more under one id, one more is counted there
    pub one_more : ((f : FileNo) (i : ObjId) → new f i ≡ cond (is_space file id f i) 1 0 + old f i)
        → (f : FileNo) (i : ObjId) → users_at (changed_at file id (with_users (row.users + 1)) rows) f i ≡ new f i
    one_more more f i = by_name (is_space file id f i) refl (more f i)
      where
        by_name : (b : Bool) → is_space file id f i ≡ b → new f i ≡ cond b 1 0 + old f i
            → users_at (changed_at file id (with_users (row.users + 1)) rows) f i ≡ new f i
        by_name true is sum =
            let names = and_true (eqb f.0 file.0) (eqb i.0 id.0) is in
            let here : users_at (changed_at file id (with_users (row.users + 1)) rows) f i ≡ row.users + 1 =
            rw (file_is f file names.0, id_is i id names.1) (users_here rows file id (row.users + 1) row found) in
            let there : users_at rows f i ≡ row.users =
            rw (file_is f file names.0, id_is i id names.1) (ap users_from found) in
            let before = was f i in
            omega (arith, here, there, before, sum)
        by_name false is sum =
            let same = users_elsewhere rows file id (row.users + 1) f i is in
            let before = was f i in
            omega (arith, same, before, sum)

    -- and one fewer where there is one fewer
    pub one_fewer : ((f : FileNo) (i : ObjId) → new f i + cond (is_space file id f i) 1 0 ≡ old f i)
        → (f : FileNo) (i : ObjId) → users_at (changed_at file id (with_users (row.users - 1)) rows) f i ≡ new f i
    one_fewer fewer f i = by_name (is_space file id f i) refl (fewer f i)
      where
        by_name : (b : Bool) → is_space file id f i ≡ b → new f i + cond b 1 0 ≡ old f i
            → users_at (changed_at file id (with_users (row.users - 1)) rows) f i ≡ new f i
        by_name true is sum =
            let names = and_true (eqb f.0 file.0) (eqb i.0 id.0) is in
            let here : users_at (changed_at file id (with_users (row.users - 1)) rows) f i ≡ row.users - 1 =
            rw (file_is f file names.0, id_is i id names.1) (users_here rows file id (row.users - 1) row found) in
            let there : users_at rows f i ≡ row.users =
            rw (file_is f file names.0, id_is i id names.1) (ap users_from found) in
            let before = was f i in
            omega (arith, here, there, before, sum)
        by_name false is sum =
            let same = users_elsewhere rows file id (row.users - 1) f i is in
            let before = was f i in
            omega (arith, same, before, sum)

  module _ (objects : List Object) (attachments : List Attachment) (rows : List (Row (Held A)))
      (counted : AreCounted objects attachments rows) where
    -- the users of a row that is found
    pub users_of_row : (file : FileNo) (id : ObjId) (row : Row (Held A)) → find (is_at file id) rows ≡ Some row
        → row.users ≡ tables_over objects file id + accesses_to objects file id + devices_on attachments file id
    users_of_row file id row found = sym (ap users_from found) ∙ counted file id

    -- a page table is over its own address space
    over_own : (file : FileNo) (ioas : ObjId) (width : Width) (automatic : Bool) (f : FileNo) (i : ObjId)
        → over_by file (kind.Hwpt ioas width automatic) f i ≡ cond (is_space file ioas f i) 1 0
    over_own file ioas width automatic f i = turned file.0 f.0 ioas.0 i.0

    -- one more is counted where a page table comes
    pub table_comes : (file : FileNo) (ioas id : ObjId) (width : Width) (automatic : Bool) (row : Row (Held A))
        → find (is_at file ioas) rows ≡ Some row → AreCounted
        (with_object (record { file = file; id = id; kind = kind.Hwpt ioas width automatic }) objects) attachments
        (changed_at file ioas (with_users (row.users + 1)) rows)
    table_comes file ioas id width automatic row found =
        let object : Object = record { file = file; id = id; kind = kind.Hwpt ioas width automatic } in
        one_more rows file ioas row (counts_of objects attachments)
        (counts_of (with_object object objects) attachments) found counted
        (λ f i.
        let all = over-with object objects f i in
        let same = to-beside object objects f i refl in
        let one = over_own file ioas width automatic f i in
        omega (arith, all, same, one))

    -- one fewer where one goes
    pub table_goes : (file : FileNo) (ioas id : ObjId) (width : Width) (automatic : Bool) (row : Row (Held A))
        → have_own_ids objects ≡ true → kind_of objects file id ≡ Some (kind.Hwpt ioas width automatic)
        → find (is_at file ioas) rows ≡ Some row → AreCounted (without_object file id objects) attachments
        (changed_at file ioas (with_users (row.users - 1)) rows)
    table_goes file ioas id width automatic row ids is_kind found =
        one_fewer rows file ioas row (counts_of objects attachments)
        (counts_of (without_object file id objects) attachments) found counted
        (λ f i.
        let all = over-without objects file id (kind.Hwpt ioas width automatic) f i ids is_kind in
        let same = to-left objects file id (kind.Hwpt ioas width automatic) f i ids is_kind refl in
        let one = over_own file ioas width automatic f i in
        omega (arith, all, same, one))

    -- one more where a device comes to a page table
    pub device_comes : (a : Attachment) (row : Row (Held A)) → find (is_at a.file a.hwpt) rows ≡ Some row
        → AreCounted objects (with_attachment a attachments)
        (changed_at a.file a.hwpt (with_users (row.users + 1)) rows)
    device_comes a row found =
        one_more rows a.file a.hwpt row (counts_of objects attachments)
        (counts_of objects (with_attachment a attachments)) found counted
        (λ f i.
        let all = devices-with a attachments f i in
        let one : on_by a f i ≡ cond (is_space a.file a.hwpt f i) 1 0 = turned a.file.0 f.0 a.hwpt.0 i.0 in
        omega (arith, all, one))

    -- one fewer where it goes
    pub device_goes : (device : DeviceNo) (a : Attachment) (row : Row (Held A)) → attach_once attachments ≡ true
        → attachment_of attachments device ≡ Some a → find (is_at a.file a.hwpt) rows ≡ Some row
        → AreCounted objects (without_attachment device attachments)
        (changed_at a.file a.hwpt (with_users (row.users - 1)) rows)
    device_goes device a row once is found =
        one_fewer rows a.file a.hwpt row (counts_of objects attachments)
        (counts_of objects (without_attachment device attachments)) found counted
        (λ f i.
        let all = devices-without attachments device a f i once is in
        let one : on_by a f i ≡ cond (is_space a.file a.hwpt f i) 1 0 = turned a.file.0 f.0 a.hwpt.0 i.0 in
        omega (arith, all, one))

  -- a count that goes down where nobody was counted stays
  pub still_none : (rows : List (Row (Held A))) (file : FileNo) (id ioas : ObjId) (row : Row (Held A))
      → find (is_at file ioas) rows ≡ Some row → users_at rows file id ≡ 0
      → users_at (changed_at file ioas (with_users (row.users - 1)) rows) file id ≡ 0
  still_none rows file id ioas row found none = by_space (is_space file ioas file id) refl
    where
      by_space : (b : Bool) → is_space file ioas file id ≡ b
          → users_at (changed_at file ioas (with_users (row.users - 1)) rows) file id ≡ 0
      by_space true is =
          let names = and_true (eqb file.0 file.0) (eqb id.0 ioas.0) is in
          let here : users_at (changed_at file ioas (with_users (row.users - 1)) rows) file id ≡ row.users - 1 =
          rw (id_is id ioas names.1) (users_here rows file ioas (row.users - 1) row found) in
          let was : users_at rows file id ≡ row.users = rw (id_is id ioas names.1) (ap users_from found) in
          omega (arith, here, was, none)
      by_space false is = users_elsewhere rows file ioas (row.users - 1) file id is ∙ none
