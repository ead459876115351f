-- Access objects are attached to address spaces alone, whatever objects come or go.
use Rattle.std.proofs.Common.{◌≡◌, ◌+◌, Bool, true, false, cond, eqb, Option, Some, None, List, [], ◌∷◌, refl}
use Rattle.std.proofs.Common.{sym, ◌∙◌, ap, map, arith}
use Rattle.std.specs.List.{find, list_any}
use Rattle.std.proofs.lemmas.Bool.Decides.{nat_tests}
use Rattle.iofd_rows.proofs.Bools.{and_true, clash}
use Rattle.iofd_rows.proofs.Named.{file_is, id_is, kind_before, some_passes}
use Rattle.iofd_rows.specs.Ids.{have_own_ids}
use Rattle.iofd_words.specs.Objects.{access_ioas, has_ioas, is_access_to, is_ioas, is_object, kind_of, with_object}
use Rattle.iofd_words.specs.Objects.{without_object}
use Rattle.iofd_words.specs.declared.numbers.FileNo.{FileNo}
use Rattle.iofd_words.specs.declared.numbers.ObjId.{ObjId}
use Rattle.iofd_words.specs.declared.rows.Object.{Object}
use Rattle.iofd_words.specs.declared.rows.ObjectKind.{ObjectKind}
use Rattle.object_table.specs.Table.{Row, is_at}
use Rattle.server_state.proofs.Counted.{kinds-without, to-beside, to_by}
use Rattle.server_state.specs.Held.{object_of}
use Rattle.server_state.specs.Spaces.{is_space}
use Rattle.server_state.specs.Users.{AccessSpaces, accesses_to}
use Rattle.server_state.specs.declared.held.Held.{Held}

-- the object of this kind, if there is one, is an address space
abbrev is_some_ioas : Option ObjectKind → Bool
is_some_ioas o = elim o [ Some k ↦ is_ioas k | None ↦ false ]

-- none is attached to what is no address space
pub none_to : (objects : List Object) (f : FileNo) (i : ObjId) (k : ObjectKind) → AccessSpaces objects
    → kind_of objects f i ≡ Some k → is_ioas k ≡ false → accesses_to objects f i ≡ 0
none_to objects f i k spaces is other = spaces f i (ap is_some_ioas is ∙ other)

-- an object comes under an unused name, that is attached to nothing
pub spaces-with : (object : Object) (objects : List Object)
    → list_any (is_object object.file object.id) objects ≡ false → access_ioas object.kind ≡ None
    → AccessSpaces objects → AccessSpaces (with_object object objects)
spaces-with object objects free other spaces f i no_space =
    to-beside object objects f i other ∙ spaces f i (before (has_ioas objects f i) refl)
  where
    before : (b : Bool) → has_ioas objects f i ≡ b → has_ioas objects f i ≡ false
    before false is = is
    before true is =
        let (k, found, space) = some_passes is_ioas (kind_of objects f i) is in
        let there : has_ioas (with_object object objects) f i ≡ true =
        ap is_some_ioas (kind_before object objects f i k free found) ∙ space in
        absurd (clash _ no_space there)

kind_elsewhere : (objects : List Object) (file : FileNo) (id : ObjId) (f : FileNo) (i : ObjId)
    → is_space file id f i ≡ false
    → find (is_object f i) (without_object file id objects) ≡ find (is_object f i) objects
kind_elsewhere [] file id f i other = refl
kind_elsewhere (o ∷ objects) file id f i other =
    let rest = kind_elsewhere objects file id f i other in grind (arith, nat_tests)

-- an object goes to which none is attached
pub spaces-without : (objects : List Object) (file : FileNo) (id : ObjId) (k : ObjectKind)
    → have_own_ids objects ≡ true → kind_of objects file id ≡ Some k → accesses_to objects file id ≡ 0
    → AccessSpaces objects → AccessSpaces (without_object file id objects)
spaces-without objects file id k ids is none spaces f i no_space = by_name (is_space file id f i) refl
  where
    fewer : accesses_to (without_object file id objects) f i + to_by file k f i ≡ accesses_to objects f i
    fewer = kinds-without (is_access_to i) objects file id k f ids is

    by_name : (b : Bool) → is_space file id f i ≡ b → accesses_to (without_object file id objects) f i ≡ 0
    by_name true here =
        let names = and_true (eqb f.0 file.0) (eqb i.0 id.0) here in
        let was : accesses_to objects f i ≡ 0 = rw (file_is f file names.0, id_is i id names.1) none in
        omega (arith, fewer, was)
    by_name false there =
        let same : has_ioas objects f i ≡ has_ioas (without_object file id objects) f i =
        ap (λ (o : Option Object). is_some_ioas (elim o as (λ _. Option ObjectKind)
        [ Some x ↦ Some x.kind | None ↦ None ])) (sym (kind_elsewhere objects file id f i there)) in
        let was = spaces f i (same ∙ no_space) in
        omega (arith, fewer, was)

-- no row is at a name that is unused
pub unnamed : {A : Type 0} (rows : List (Row (Held A))) (file : FileNo) (id : ObjId)
    → find (is_at file id) rows ≡ None → list_any (is_object file id) (map object_of rows) ≡ false
unnamed [] file id none = refl
unnamed (row ∷ rows) file id none = by_test (is_at file id row) refl none (unnamed rows file id)
  where
    by_test : (b : Bool) → is_at file id row ≡ b → cond b (Some row) (find (is_at file id) rows) ≡ None
        → (find (is_at file id) rows ≡ None → list_any (is_object file id) (map object_of rows) ≡ false)
        → list_any (is_object file id) (map object_of (row ∷ rows)) ≡ false
    by_test true is none later = cc
    by_test false is none later = rw is (later none)
