-- Access objects are attached to address spaces of their own file: the law, said of any object, and kept as objects
-- come and go, and as access objects are attached and detached.
use Rattle.std.proofs.Common.{◌≡◌, ℕ, Bool, true, false, cond, ◌&&◌, eqb, Option, Some, None, List, refl, ap, sym, ◌∙◌}
use Rattle.std.proofs.Common.{⊎_elim, arith}
use Rattle.std.specs.List.{filter, list_any}
use Rattle.std.proofs.lemmas.Bool.Decides.{nat_tests}
use Rattle.iofd_rows.proofs.Accesses.{kind_reattached, reattached}
use Rattle.iofd_rows.proofs.Bools.{and_true, both_true}
use Rattle.iofd_rows.proofs.Each.{IsIn, in_filter, in_map, in_with_object, of_all, of_any, of_each}
use Rattle.iofd_rows.proofs.Named.{file_is, kind_before, kind_kept, object_of_kind}
use Rattle.iofd_rows.proofs.Owed.{IsSpace, space_of}
use Rattle.iofd_rows.specs.AccessPins.{are_in_spaces, is_in_space}
use Rattle.iofd_words.specs.Objects.{access_ioas, access_ioas_of, has_access_to, has_ioas, is_access, is_access_to}
use Rattle.iofd_words.specs.Objects.{is_ioas, is_object, kind_of, with_access, with_object}
use Rattle.iofd_words.specs.declared.numbers.FileNo.{FileNo}
use Rattle.iofd_words.specs.declared.numbers.ObjId.{ObjId}
use Rattle.iofd_words.specs.declared.rows.Object.{Object}
use Rattle.iofd_words.specs.declared.rows.ObjectKind.{ObjectKind}
use Rattle.iofd_words.specs.declared.rows.ObjectKind.TheVariants as kind

-- ---- said of any object

abbrev pub EachInSpace : List Object → Type 0
EachInSpace objects = (object : Object) → IsIn objects object → (ioas : ObjId) → access_ioas object.kind ≡ Some ioas
    → IsSpace objects object.file ioas

pub each_in_space : (objects : List Object) → are_in_spaces objects ≡ true → EachInSpace objects
each_in_space objects all object among ioas is =
    space_of objects object.file ioas
    (sym (ap (λ (o : Option ObjId). elim o [ Some to ↦ has_ioas objects object.file to | None ↦ true ]) is)
    ∙ of_each (is_in_space objects) objects object all among)

-- an address space is one
has_space : (objects : List Object) (file : FileNo) (id : ObjId) → IsSpace objects file id
    → has_ioas objects file id ≡ true
has_space objects file id is =
    ap (λ (o : Option ObjectKind). elim o [ Some k ↦ is_ioas k | None ↦ false ]) is

pub all_in_spaces : (objects : List Object) → EachInSpace objects → are_in_spaces objects ≡ true
all_in_spaces objects each =
    of_all (is_in_space objects) objects
    (λ object among. by_space object (access_ioas object.kind) (λ ioas is. each object among ioas is))
  where
    by_space : (object : Object) (o : Option ObjId)
        → ((ioas : ObjId) → o ≡ Some ioas → IsSpace objects object.file ioas)
        → elim o [ Some to ↦ has_ioas objects object.file to | None ↦ true ] ≡ true
    by_space object None to = refl
    by_space object (Some ioas) to = has_space objects object.file ioas (to ioas refl)

-- the address space to which the file's access object of this id is attached
pub record IsAttachedIn (objects : List Object) (file : FileNo) (id ioas : ObjId) : Type 0 where
  pub access : kind_of objects file id ≡ Some (kind.Access (Some ioas))
  pub space : kind_of objects file ioas ≡ Some kind.Ioas

access_kind : (k : ObjectKind) (ioas : ObjId) → access_ioas k ≡ Some ioas → k ≡ kind.Access (Some ioas)
access_kind kind.Ioas ioas is = cc
access_kind (kind.Hwpt over width automatic) ioas is = cc
access_kind (kind.Device device) ioas is = cc
access_kind (kind.Access attached) ioas is = ap (λ (o : Option ObjId). let k : ObjectKind = kind.Access o in k) is

pub attached_kind : (objects : List Object) (file : FileNo) (id ioas : ObjId)
    → access_ioas_of objects file id ≡ Some ioas → kind_of objects file id ≡ Some (kind.Access (Some ioas))
attached_kind objects file id ioas is = by_kind (kind_of objects file id) is
  where
    by_kind : (o : Option ObjectKind) → elim o [ Some k ↦ access_ioas k | None ↦ None ] ≡ Some ioas
        → o ≡ Some (kind.Access (Some ioas))
    by_kind None is = cc
    by_kind (Some k) is = let same = access_kind k ioas is in cc

pub attached_in : (objects : List Object) (file : FileNo) (id ioas : ObjId) → are_in_spaces objects ≡ true
    → access_ioas_of objects file id ≡ Some ioas → IsAttachedIn objects file id ioas
attached_in objects file id ioas all is =
    let access = attached_kind objects file id ioas is in
    let (x, first, within, of_file, of_id, of_kind) = object_of_kind objects file id _ access in
    record {
      access = access;
      space = rw (← of_file) (each_in_space objects all x within ioas (ap access_ioas of_kind));
    }

-- ---- objects come and go

-- one comes that isn't attached
pub spaces_more : (object : Object) (objects : List Object) → list_any (is_object object.file object.id) objects ≡ false
    → access_ioas object.kind ≡ None → are_in_spaces objects ≡ true
    → are_in_spaces (with_object object objects) ≡ true
spaces_more object objects free unattached all =
    all_in_spaces (with_object object objects) (λ o among ioas is.
    kind_before object objects o.file ioas _ free
    (⊎_elim (λ (same : object ≡ o). absurd (never o ioas same is))
    (λ (old : IsIn objects o). each_in_space objects all o old ioas is) (in_with_object object objects o among)))
  where
    never : (o : Object) (ioas : ObjId) → object ≡ o → access_ioas o.kind ≡ Some ioas → ⊥
    never o ioas same is =
        let here = ap (λ (x : Object). access_ioas x.kind) same ∙ is in let clashes = sym unattached ∙ here in cc

-- some go, but no address space to which an access object is attached
pub spaces_fewer : (q : Object → Bool) (objects : List Object)
    → ((object : Object) → kind_of objects object.file object.id ≡ Some kind.Ioas → object.kind ≡ kind.Ioas
    → has_access_to objects object.file object.id ≡ true → q object ≡ true)
    → are_in_spaces objects ≡ true → are_in_spaces (filter q objects) ≡ true
spaces_fewer q objects keeps all =
    all_in_spaces (filter q objects) (λ o among ioas is.
    let old = (in_filter q objects o among).0 in
    let space = each_in_space objects all o old ioas is in
    kind_kept q objects o.file ioas _ (λ object of_file of_id of_kind.
    keeps object (rw (of_file, of_id) space) of_kind (rw (of_file, of_id) (has_one o old ioas is))) space)
  where
    itself : (n : ℕ) → eqb n n ≡ true
    itself n = grind (arith, nat_tests)

    has_one : (o : Object) → IsIn objects o → (ioas : ObjId) → access_ioas o.kind ≡ Some ioas
        → has_access_to objects o.file ioas ≡ true
    has_one o among ioas is =
        of_any (λ (x : Object). eqb x.file.0 o.file.0 && is_access_to ioas x.kind) objects o among
        (both_true _ _ (itself o.file.0)
        (ap (λ (to : Option ObjId). elim to [ Some attached ↦ eqb attached.0 ioas.0 | None ↦ false ]) is
        ∙ itself ioas.0))

-- an access object is attached to an address space of its file, or detached
abbrev pub IsSpaceOf : List Object → FileNo → Option ObjId → Type 0
IsSpaceOf objects file None = Unit {0}
IsSpaceOf objects file (Some ioas) = has_ioas objects file ioas ≡ true

pub spaces_reattached : (objects : List Object) (file : FileNo) (id : ObjId) (attached : Option ObjId)
    → IsSpaceOf objects file attached → are_in_spaces objects ≡ true
    → are_in_spaces (with_access file id attached objects) ≡ true
spaces_reattached objects file id attached to all =
    all_in_spaces (with_access file id attached objects) (λ o among ioas is.
    let (old, before, same) = in_map (reattached file id attached) objects o among in
    kind_reattached file id attached objects o.file ioas _ refl
    (by_test old before (is_object file id old && is_access old.kind) refl o same ioas is))
  where
    by_attached : (to : Option ObjId) → IsSpaceOf objects file to → (ioas : ObjId) → to ≡ Some ioas
        → IsSpace objects file ioas
    by_attached None space ioas is = cc
    by_attached (Some at) space ioas is = let same : at ≡ ioas = cc in rw (← same) (space_of objects file at space)

    by_test : (old : Object) → IsIn objects old → (b : Bool) → (is_object file id old && is_access old.kind) ≡ b
        → (o : Object) → cond b (record old { kind = kind.Access attached }) old ≡ o → (ioas : ObjId)
        → access_ioas o.kind ≡ Some ioas → IsSpace objects o.file ioas
    by_test old before false names o same ioas is =
        rw (← same) (each_in_space objects all old before ioas (ap (λ (x : Object). access_ioas x.kind) same ∙ is))
    by_test old before true names o same ioas is =
        let own = and_true (eqb old.file.0 file.0) (eqb old.id.0 id.0)
        (and_true (is_object file id old) (is_access old.kind) names).0 in
        let of_file : o.file ≡ file =
        sym (ap (λ (x : Object). x.file) same) ∙ file_is old.file file own.0 in
        rw of_file (by_attached attached to ioas (ap (λ (x : Object). access_ioas x.kind) same ∙ is))
