-- Which object an id of a file names, after objects came or went.
use Rattle.std.proofs.Common.{◌≡◌, Bool, true, false, cond, not, eqb, Option, Some, None, List, [], ◌∷◌, refl, ap, sym}
use Rattle.std.proofs.Common.{◌∙◌, arith, ◌⊎◌, inl, inr}
use Rattle.std.specs.List.{filter, find, list_any}
use Rattle.std.proofs.lemmas.Bool.{eqb-true}
use Rattle.std.proofs.lemmas.Bool.Decides.{nat_tests}
use Rattle.iofd_rows.specs.Ids.{have_own_ids}
use Rattle.iofd_words.specs.Objects.{comes_before, is_object, kind_of, with_object}
use Rattle.iofd_words.specs.declared.numbers.FileNo.{FileNo}
use Rattle.iofd_words.specs.declared.numbers.ObjId.{ObjId}
use Rattle.iofd_words.specs.declared.rows.Object.{Object}
use Rattle.iofd_words.specs.declared.rows.ObjectKind.{ObjectKind}
use Rattle.iofd_rows.proofs.Bools.{and_true, not_true}
use Rattle.iofd_rows.proofs.Each.{IsIn, in_found, found_kept, of_any}
use Rattle.iofd_rows.proofs.Found.{find-with_object}
use Rattle.iofd_rows.proofs.Inserted.{found-inserted}

-- ---- options

-- a test that fails at None
pub some_passes : {X : Type 0} (p : X → Bool) (o : Option X) → elim o [ Some x ↦ p x | None ↦ false ] ≡ true
    → (x : X) × (o ≡ Some x) × (p x ≡ true)
some_passes p None passes = cc
some_passes p (Some x) passes = (x, refl, passes)

kind_found : (o : Option Object) (k : ObjectKind) → elim o [ Some object ↦ Some object.kind | None ↦ None ] ≡ Some k
    → (object : Object) × (o ≡ Some object) × (object.kind ≡ k)
kind_found None k found = cc
kind_found (Some object) k found = (object, refl, cc)

-- ---- names

pub file_is : (a b : FileNo) → eqb a.0 b.0 ≡ true → a ≡ b
file_is a b same = let numbers = eqb-true a.0 b.0 same in ap (λ n. let f : FileNo = record { 0 = n } in f) numbers

pub id_is : (a b : ObjId) → eqb a.0 b.0 ≡ true → a ≡ b
id_is a b same = let numbers = eqb-true a.0 b.0 same in ap (λ n. let i : ObjId = record { 0 = n } in i) numbers

-- an object has its name
pub named : (a b : Object) → b.file ≡ a.file → b.id ≡ a.id → is_object a.file a.id b ≡ true
named a b of_file of_id =
    let file = ap (λ (f : FileNo). f.0) of_file in let id = ap (λ (i : ObjId). i.0) of_id in grind (arith, nat_tests)

-- an object that has a kind under a name
pub object_of_kind : (objects : List Object) (file : FileNo) (id : ObjId) (k : ObjectKind)
    → kind_of objects file id ≡ Some k → (object : Object) × (find (is_object file id) objects ≡ Some object)
    × IsIn objects object × (object.file ≡ file) × (object.id ≡ id) × (object.kind ≡ k)
object_of_kind objects file id k found =
    let first = kind_found (find (is_object file id) objects) k found in
    let within = in_found (is_object file id) objects first.0 first.1 in
    let names = and_true (eqb first.0.file.0 file.0) (eqb first.0.id.0 id.0) within.1 in
    (first.0, first.1, within.0, file_is first.0.file file names.0, id_is first.0.id id names.1, first.2)

-- the kind of an object that is found
abbrev kind_from : Option Object → Option ObjectKind
kind_from o = elim o [ Some object ↦ Some object.kind | None ↦ None ]

kind_some : (a b : ObjectKind) → a ≡ b → (let o : Option ObjectKind = Some a in o) ≡ Some b
kind_some a b same = rw same refl

-- ---- objects go

pub kind_kept : (q : Object → Bool) (objects : List Object) (file : FileNo) (id : ObjId) (k : ObjectKind)
    → ((object : Object) → object.file ≡ file → object.id ≡ id → object.kind ≡ k → q object ≡ true)
    → kind_of objects file id ≡ Some k → kind_of (filter q objects) file id ≡ Some k
kind_kept q objects file id k kept found =
    let (object, first, within, of_file, of_id, of_kind) = object_of_kind objects file id k found in
    ap kind_from (found_kept (is_object file id) q objects object first (kept object of_file of_id of_kind))
    ∙ kind_some object.kind k of_kind

-- ---- an object comes

-- under a name that no object has
pub kind_before : (object : Object) (objects : List Object) (file : FileNo) (id : ObjId) (k : ObjectKind)
    → list_any (is_object object.file object.id) objects ≡ false → kind_of objects file id ≡ Some k
    → kind_of (with_object object objects) file id ≡ Some k
kind_before object objects file id k free found = by_name (is_object file id object) refl
  where
    by_name : (b : Bool) → is_object file id object ≡ b → kind_of (with_object object objects) file id ≡ Some k
    by_name true is =
        let names = and_true (eqb object.file.0 file.0) (eqb object.id.0 id.0) is in
        let (first, found, within, of_file, of_id, of_kind) = object_of_kind objects file id k found in
        let passes : is_object object.file object.id first ≡ true =
        named object first (of_file ∙ sym (file_is object.file file names.0)) (of_id
        ∙ sym (id_is object.id id names.1)) in
        let some = of_any (is_object object.file object.id) objects first within passes in
        cc
    by_name false is = ap kind_from (find-with_object (is_object file id) object objects is) ∙ found

-- the new object's own kind
pub kind_new : (object : Object) (objects : List Object) → list_any (is_object object.file object.id) objects ≡ false
    → kind_of (with_object object objects) object.file object.id ≡ Some object.kind
kind_new object objects free =
    ap kind_from (found-inserted comes_before (is_object object.file object.id) object objects
    (named object object refl refl) free)

-- ---- unique ids

found_only : (objects : List Object) (object : Object) → have_own_ids objects ≡ true → IsIn objects object
    → find (is_object object.file object.id) objects ≡ Some object
found_only [] object own within = absurd within
found_only (o ∷ objects) object own within =
    let parts = and_true (not (list_any (is_object o.file o.id) objects)) (have_own_ids objects) own in
    by_name (is_object object.file object.id o) refl within (not_true _ parts.0)
    (λ later. found_only objects object parts.1 later)
  where
    by_name : (b : Bool) → is_object object.file object.id o ≡ b → (o ≡ object) ⊎ IsIn objects object
        → list_any (is_object o.file o.id) objects ≡ false
        → (IsIn objects object → find (is_object object.file object.id) objects ≡ Some object)
        → cond b (Some o) (find (is_object object.file object.id) objects) ≡ Some object
    by_name true is (inl same) none rest = rw same refl
    by_name true is (inr later) none rest =
        let names = and_true (eqb o.file.0 object.file.0) (eqb o.id.0 object.id.0) is in
        let again = of_any (is_object o.file o.id) objects object later
        (named o object (sym (file_is o.file object.file names.0)) (sym (id_is o.id object.id names.1))) in
        cc
    by_name false is (inl same) none rest = let here : is_object object.file object.id o ≡ true =
        named object o (ap (λ (x : Object). x.file) same) (ap (λ (x : Object). x.id) same) in cc
    by_name false is (inr later) none rest = rest later

-- an object is the one that its name finds
pub kind_only : (objects : List Object) (object : Object) → have_own_ids objects ≡ true → IsIn objects object
    → kind_of objects object.file object.id ≡ Some object.kind
kind_only objects object own within = ap kind_from (found_only objects object own within)

-- the kind of a row, by its name
pub row_kind : (objects : List Object) (object : Object) (file : FileNo) (id : ObjId) (k : ObjectKind)
    → have_own_ids objects ≡ true → IsIn objects object → object.file ≡ file → object.id ≡ id → object.kind ≡ k
    → kind_of objects file id ≡ Some k
row_kind objects object file id k own there of_file of_id is =
    rw (← of_file, ← of_id, ← is) (kind_only objects object own there)
