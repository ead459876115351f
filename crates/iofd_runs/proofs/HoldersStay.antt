-- What an event that nothing refuses leaves of access pins: who holds one stays attached, and no area goes that one
-- meets.
use Rattle.std.proofs.Common.{◌≡◌, ℕ, Bool, true, false, ◌&&◌, not, eqb, is_some, length, Option, Some}
use Rattle.std.proofs.Common.{None, List, refl, ap, sym, ◌∙◌, arith}
use Rattle.std.specs.List.{filter, list_any}
use Rattle.std.proofs.lemmas.Bool.Decides.{nat_tests}
use Rattle.iofd_rows.proofs.Accesses.{kind_elsewhere, kind_reattached}
use Rattle.iofd_rows.proofs.Bools.{and_true, both_true, clash, not_false, not_true, or_false}
use Rattle.iofd_rows.proofs.Each.{IsIn, in_kept, of_any}
use Rattle.iofd_rows.proofs.InSpaces.{IsSpaceOf, spaces_fewer, spaces_more, spaces_reattached}
use Rattle.iofd_rows.proofs.ListTests.{false_else}
use Rattle.iofd_rows.proofs.Named.{file_is, id_is, kind_before, kind_kept, object_of_kind}
use Rattle.iofd_rows.proofs.OwnIds.{unused}
use Rattle.iofd_rows.proofs.Unusable.{each_not, none_of}
use Rattle.iofd_rows.specs.AccessPins.{IsHeld, are_in_spaces}
use Rattle.iofd_runs.proofs.Accessed.{EachHeld, HoldersStay, some_in}
use Rattle.iofd_steps.specs.After.{goes_with}
use Rattle.iofd_steps.specs.Answers.{waits}
use Rattle.iofd_words.specs.Areas.{is_held_back, is_of, is_touched, owed_by, touched}
use Rattle.iofd_words.specs.Attachments.{devices_of}
use Rattle.iofd_refusals.specs.Checks.{is_used}
use Rattle.iofd_words.specs.Objects.{access_ioas, access_ioas_of, has_access_to, has_hwpt, is_access, is_access_to}
use Rattle.iofd_words.specs.Objects.{is_bound_device, is_fresh, is_object, kind_of, objects_of}
use Rattle.iofd_words.specs.Objects.{with_access}
use Rattle.iofd_words.specs.Objects.{with_object, without_device_object, without_object}
use Rattle.iofd_words.specs.Pins.{has_pin_in, holds_pin, is_pin_in}
use Rattle.iofd_words.specs.Span.{meets}
use Rattle.iofd_words.specs.View.{view}
use Rattle.iofd_words.specs.World.{World}
use Rattle.iofd_words.specs.declared.event.UnmapRequest.{UnmapRequest}
use Rattle.iofd_words.specs.declared.numbers.FileNo.{FileNo}
use Rattle.iofd_words.specs.declared.numbers.ObjId.{ObjId}
use Rattle.iofd_words.specs.declared.rows.AccessPin.{AccessPin}
use Rattle.iofd_words.specs.declared.rows.Area.{Area}
use Rattle.iofd_words.specs.declared.rows.Attachment.{Attachment}
use Rattle.iofd_words.specs.declared.rows.Object.{Object}
use Rattle.iofd_words.specs.declared.rows.ObjectKind.{ObjectKind}
use Rattle.iofd_words.specs.declared.rows.ObjectKind.TheVariants as kind

-- ---- objects

pub same_holders : (objects : List Object) (pins : List AccessPin) → HoldersStay objects objects pins
same_holders objects pins pin among ioas is space = (is, space)

-- one comes, under a fresh id
pub more_holders : (object : Object) (objects : List Object) (pins : List AccessPin)
    → is_fresh objects object.file object.id ≡ true → HoldersStay objects (with_object object objects) pins
more_holders object objects pins fresh pin among ioas is space =
    let free = unused objects object.file object.id fresh in (
      kind_before object objects pin.file pin.access _ free is,
      kind_before object objects pin.file ioas _ free space,
    )

-- fewer are left, by a test that access objects that are attached pass, and the address spaces that they are attached
-- to
record KeepsHolders (q : Object → Bool) (objects : List Object) : Type 0 where
  holder : (object : Object) (ioas : ObjId) → kind_of objects object.file object.id ≡ Some (kind.Access (Some ioas))
      → object.kind ≡ kind.Access (Some ioas) → q object ≡ true
  space : (object : Object) → kind_of objects object.file object.id ≡ Some kind.Ioas → object.kind ≡ kind.Ioas
      → has_access_to objects object.file object.id ≡ true → q object ≡ true

-- an access object that is attached is one to its address space
accesses : (objects : List Object) (file : FileNo) (id ioas : ObjId)
    → kind_of objects file id ≡ Some (kind.Access (Some ioas)) → has_access_to objects file ioas ≡ true
accesses objects file id ioas is =
    let (x, first, within, of_file, of_id, of_kind) = object_of_kind objects file id _ is in
    of_any (λ (o : Object). eqb o.file.0 file.0 && is_access_to ioas o.kind) objects x within
    (both_true _ _ (ap (λ (f : FileNo). eqb f.0 file.0) of_file ∙ itself file.0)
    (ap (is_access_to ioas) of_kind ∙ itself ioas.0))
  where
    itself : (n : ℕ) → eqb n n ≡ true
    itself n = grind (arith, nat_tests)

fewer_holders : (q : Object → Bool) (objects : List Object) (pins : List AccessPin) → KeepsHolders q objects
    → HoldersStay objects (filter q objects) pins
fewer_holders q objects pins keeps pin among ioas is space = (
  kind_kept q objects pin.file pin.access _
      (λ object of_file of_id of_kind. keeps.holder object ioas (rw (of_file, of_id) is) of_kind) is,
  kind_kept q objects pin.file ioas _
      (λ object of_file of_id of_kind. keeps.space object (rw (of_file, of_id) space) of_kind
      (rw (of_file, of_id) (accesses objects pin.file pin.access ioas is))) space,
)

-- DESTROY is refused for one that is attached
destroyed_keeps : (w : World) (file : FileNo) (id : ObjId)
    → is_used (view w) file id (kind_of w.objects file id) ≡ false
    → KeepsHolders (λ o. not (is_object file id o)) w.objects
destroyed_keeps w file id unused =
    record {
      holder = λ object ioas is of_kind.
          not_false _ (false_else (is_object file id object) (λ names. never object ioas is names));
      space = λ object is of_kind has.
          not_false _ (false_else (is_object file id object) (λ names. in_use object is has names));
    }
  where
    in_use : (object : Object) → kind_of w.objects object.file object.id ≡ Some kind.Ioas
        → has_access_to w.objects object.file object.id ≡ true → is_object file id object ≡ true → ⊥
    in_use object is has names =
        let parts = and_true (eqb object.file.0 file.0) (eqb object.id.0 id.0) names in
        let here : kind_of w.objects file id ≡ Some kind.Ioas =
        rw (← file_is object.file file parts.0, ← id_is object.id id parts.1) is in
        let accessed : has_access_to w.objects file id ≡ true =
        rw (← file_is object.file file parts.0, ← id_is object.id id parts.1) has in
        clash _ (or_false (has_hwpt w.objects file id) _ (sym (ap (is_used (view w) file id) here) ∙ unused)).1 accessed

    never : (object : Object) (ioas : ObjId) → kind_of w.objects object.file object.id ≡ Some (kind.Access (Some ioas))
        → is_object file id object ≡ true → ⊥
    never object ioas is names =
        let parts = and_true (eqb object.file.0 file.0) (eqb object.id.0 id.0) names in
        let here : kind_of w.objects file id ≡ Some (kind.Access (Some ioas)) =
        rw (← file_is object.file file parts.0, ← id_is object.id id parts.1) is in
        let free = sym (ap (is_used (view w) file id) here) ∙ unused in
        cc

joined : (x a f : ℕ) → eqb x a ≡ true → eqb a f ≡ true → eqb x f ≡ true
joined x a f first second = grind (arith, nat_tests)

-- what is attached is an access object
is_one : (ioas : ObjId) (k : ObjectKind) → is_access_to ioas k ≡ true → is_access k ≡ true
is_one ioas kind.Ioas is = cc
is_one ioas (kind.Hwpt over width automatic) is = cc
is_one ioas (kind.Device device) is = cc
is_one ioas (kind.Access attached) is = refl

-- Close for a file that has any
closed_keeps : (w : World) (file : FileNo)
    → list_any (λ (o : Object). is_access o.kind) (objects_of w.objects file) ≡ false
    → KeepsHolders (λ o. not (eqb o.file.0 file.0)) w.objects
closed_keeps w file none =
    record {
      holder = λ object ioas is of_kind.
          not_false _ (false_else (eqb object.file.0 file.0) (λ own. never object ioas is own));
      space = λ object is of_kind has.
          not_false _ (false_else (eqb object.file.0 file.0) (λ own. in_use object has own));
    }
  where
    in_use : (object : Object) → has_access_to w.objects object.file object.id ≡ true → eqb object.file.0 file.0 ≡ true
        → ⊥
    in_use object has own =
        let (x, within, both) = some_in (λ (o : Object). eqb o.file.0 object.file.0 && is_access_to object.id o.kind)
        w.objects has in
        let parts = and_true (eqb x.file.0 object.file.0) (is_access_to object.id x.kind) both in
        clash _ none (of_any (λ (o : Object). is_access o.kind) (objects_of w.objects file) x
        (in_kept (λ (o : Object). eqb o.file.0 file.0) w.objects x within
        (joined x.file.0 object.file.0 file.0 parts.0 own)) (is_one object.id x.kind parts.1))

    never : (object : Object) (ioas : ObjId) → kind_of w.objects object.file object.id ≡ Some (kind.Access (Some ioas))
        → eqb object.file.0 file.0 ≡ true → ⊥
    never object ioas is own =
        let (x, first, within, of_file, of_id, of_kind) = object_of_kind w.objects object.file object.id _ is in
        let own_x : eqb x.file.0 file.0 ≡ true = ap (λ (f : FileNo). eqb f.0 file.0) of_file ∙ own in
        clash _ none (of_any (λ (o : Object). is_access o.kind) (objects_of w.objects file) x
        (in_kept (λ (o : Object). eqb o.file.0 file.0) w.objects x within own_x) (ap is_access of_kind))

-- what else goes is no access object
unbound_keeps : (w : World) (file : FileNo) (id : ObjId)
    → KeepsHolders (λ o. not (is_object file id o && is_bound_device o.kind)) w.objects
unbound_keeps w file id =
    record {
      holder = λ object ioas is of_kind. rw of_kind (and_no (is_object file id object));
      space = λ object is of_kind has. rw of_kind (and_no (is_object file id object));
    }
  where
    and_no : (b : Bool) → not (b && false) ≡ true
    and_no true = refl
    and_no false = refl

detached_keeps : (w : World) (others : List Attachment) (a : Attachment)
    → KeepsHolders (λ o. not (goes_with others a o)) w.objects
detached_keeps w others a =
    record {
      holder = λ object ioas is of_kind. rw of_kind (and_no (is_object a.file a.hwpt object) _);
      space = λ object is of_kind has. rw of_kind (and_no (is_object a.file a.hwpt object) _);
    }
  where
    and_no : (b c : Bool) → not ((b && false) && c) ≡ true
    and_no true c = refl
    and_no false c = refl

-- an access object that wasn't attached is, or one that holds no pin is detached
reattached_holders : (w : World) (file : FileNo) (id : ObjId) (attached : Option ObjId)
    → ((pin : AccessPin) → IsIn w.access_pins pin → (ioas : ObjId)
    → kind_of w.objects pin.file pin.access ≡ Some (kind.Access (Some ioas))
    → (eqb pin.file.0 file.0 && eqb pin.access.0 id.0) ≡ false)
    → HoldersStay w.objects (with_access file id attached w.objects) w.access_pins
reattached_holders w file id attached other pin among ioas is space = (
  kind_elsewhere file id attached w.objects pin.file pin.access (other pin among ioas is) ∙ is,
  kind_reattached file id attached w.objects pin.file ioas _ refl space,
)

pub unattached_other : (w : World) (file : FileNo) (id : ObjId) → is_some (access_ioas_of w.objects file id) ≡ false
    → (own : FileNo) (access ioas : ObjId) → kind_of w.objects own access ≡ Some (kind.Access (Some ioas))
    → (eqb own.0 file.0 && eqb access.0 id.0) ≡ false
unattached_other w file id none own access ioas is =
    false_else (eqb own.0 file.0 && eqb access.0 id.0) (λ names. never names)
  where
    never : (eqb own.0 file.0 && eqb access.0 id.0) ≡ true → ⊥
    never names =
        let parts = and_true (eqb own.0 file.0) (eqb access.0 id.0) names in
        let here : kind_of w.objects file id ≡ Some (kind.Access (Some ioas)) =
        rw (← file_is own file parts.0, ← id_is access id parts.1) is in
        let some = ap (λ (o : Option ObjectKind). is_some (elim o as (λ _. Option ObjId)
        [ Some k ↦ access_ioas k | None ↦ None ])) here in
        clash _ none some

pub unpinned_other : (w : World) (file : FileNo) (id : ObjId) → holds_pin w.access_pins file id ≡ false
    → (pin : AccessPin) → IsIn w.access_pins pin → (eqb pin.file.0 file.0 && eqb pin.access.0 id.0) ≡ false
unpinned_other w file id none pin among =
    each_not (λ (p : AccessPin). eqb p.file.0 file.0 && eqb p.access.0 id.0) w.access_pins pin none among

-- ---- and access objects are attached to address spaces of their file

-- what an event leaves of access objects: who holds a pin stays attached, and who is attached has an address space
pub record AccessesStay (objects left : List Object) (pins : List AccessPin) : Type 0 where
  pub holders : HoldersStay objects left pins
  pub spaces : are_in_spaces objects ≡ true → are_in_spaces left ≡ true

pub same_accesses : (w : World) → AccessesStay w.objects w.objects w.access_pins
same_accesses w = record { holders = same_holders w.objects w.access_pins; spaces = λ all. all }

-- one object comes that isn't attached
pub more_accesses : (w : World) (object : Object) → is_fresh w.objects object.file object.id ≡ true
    → access_ioas object.kind ≡ None → AccessesStay w.objects (with_object object w.objects) w.access_pins
more_accesses w object fresh unattached = record {
  holders = more_holders object w.objects w.access_pins fresh;
  spaces = spaces_more object w.objects (unused w.objects object.file object.id fresh) unattached;
}

fewer_accesses : (w : World) (q : Object → Bool) → KeepsHolders q w.objects
    → AccessesStay w.objects (filter q w.objects) w.access_pins
fewer_accesses w q keeps = record {
  holders = fewer_holders q w.objects w.access_pins keeps;
  spaces = spaces_fewer q w.objects keeps.space;
}

pub destroyed_accesses : (w : World) (file : FileNo) (id : ObjId)
    → is_used (view w) file id (kind_of w.objects file id) ≡ false
    → AccessesStay w.objects (without_object file id w.objects) w.access_pins
destroyed_accesses w file id unused = fewer_accesses w _ (destroyed_keeps w file id unused)

pub closed_accesses : (w : World) (file : FileNo)
    → list_any (λ (o : Object). is_access o.kind) (objects_of w.objects file) ≡ false
    → AccessesStay w.objects (filter (λ (o : Object). not (eqb o.file.0 file.0)) w.objects) w.access_pins
closed_accesses w file none = fewer_accesses w _ (closed_keeps w file none)

pub unbound_accesses : (w : World) (file : FileNo) (id : ObjId)
    → AccessesStay w.objects (without_device_object file id w.objects) w.access_pins
unbound_accesses w file id = fewer_accesses w _ (unbound_keeps w file id)

pub detached_accesses : (w : World) (others : List Attachment) (a : Attachment)
    → AccessesStay w.objects (filter (λ (o : Object). not (goes_with others a o)) w.objects) w.access_pins
detached_accesses w others a = fewer_accesses w _ (detached_keeps w others a)

pub reattached_accesses : (w : World) (file : FileNo) (id : ObjId) (attached : Option ObjId)
    → IsSpaceOf w.objects file attached
    → ((pin : AccessPin) → IsIn w.access_pins pin → (ioas : ObjId)
    → kind_of w.objects pin.file pin.access ≡ Some (kind.Access (Some ioas))
    → (eqb pin.file.0 file.0 && eqb pin.access.0 id.0) ≡ false)
    → AccessesStay w.objects (with_access file id attached w.objects) w.access_pins
reattached_accesses w file id attached space other = record {
  holders = reattached_holders w file id attached other;
  spaces = spaces_reattached w.objects file id attached space;
}

-- ---- areas

-- no access pin meets an area that goes
abbrev pub NoPinGoes : World → (Area → Bool) → Type 0
NoPinGoes w goes = (area : Area) → IsIn w.areas area → goes area ≡ true
    → has_pin_in w.objects w.access_pins area ≡ false

-- an UNMAP that answers bytes didn't have to wait
pub unmapped_free : (w : World) (file : FileNo) (request : UnmapRequest) → not (waits w file request) ≡ true
    → NoPinGoes w (is_touched file request)
unmapped_free w file request done area among touches =
    (or_false (not (eqb (length (owed_by (devices_of w.objects w.attachments file request.ioas) area.phase)) 0)) _
    (each_not (is_held_back (devices_of w.objects w.attachments file request.ioas) (has_pin_in w.objects w.access_pins))
    (touched w.areas file request) area (not_true _ done)
    (in_kept (is_touched file request) w.areas area among touches))).1

-- a pin in an area is one of an access object that is attached to its address space, which is there
record Holder (w : World) (area : Area) : Type 0 where
  x : Object
  within : IsIn w.objects x
  own : eqb x.file.0 area.file.0 ≡ true
  to : is_access_to area.ioas x.kind ≡ true
  space : kind_of w.objects area.file area.ioas ≡ Some kind.Ioas

holder : (w : World) (pin : AccessPin) (area : Area) → IsHeld w.objects w.areas pin
    → is_pin_in w.objects pin area ≡ true → Holder w area
holder w pin area held is =
    let parts = and_true (eqb area.file.0 pin.file.0) _ is in
    let (x, first, within, of_file, of_id, of_kind) = object_of_kind w.objects pin.file pin.access _ held.attached in
    let same : eqb held.ioas.0 area.ioas.0 ≡ true =
    ap (λ (o : Option ObjectKind). elim o [ Some k ↦ is_access_to area.ioas k | None ↦ false ]) (sym held.attached)
    ∙ parts.1 in
    record {
      x = x;
      within = within;
      own = ap (λ (f : FileNo). eqb f.0 area.file.0) of_file ∙ flipped area.file.0 pin.file.0 parts.0;
      to = ap (is_access_to area.ioas) of_kind ∙ same;
      space = rw (file_is area.file pin.file parts.0, ← id_is held.ioas area.ioas same) held.space;
    }
  where
    flipped : (m n : ℕ) → eqb m n ≡ true → eqb n m ≡ true
    flipped m n is = grind (arith, nat_tests)

no_pin : (w : World) (area : Area) → EachHeld w.objects w.areas w.access_pins → (Holder w area → ⊥)
    → has_pin_in w.objects w.access_pins area ≡ false
no_pin w area held never =
    none_of (λ (pin : AccessPin). is_pin_in w.objects pin area && meets area.span pin.span) w.access_pins
    (λ pin among. false_else _ (λ both.
    never (holder w pin area (held pin among) (and_true (is_pin_in w.objects pin area) _ both).0)))

-- DESTROY of an address space is refused where an access object is attached to it
pub destroyed_free : (w : World) (file : FileNo) (id : ObjId)
    → is_used (view w) file id (kind_of w.objects file id) ≡ false → EachHeld w.objects w.areas w.access_pins
    → NoPinGoes w (is_of file id)
destroyed_free w file id unused held area among of =
    no_pin w area held (λ h.
    let names = and_true (eqb area.file.0 file.0) (eqb area.ioas.0 id.0) of in
    let here : kind_of w.objects file id ≡ Some kind.Ioas =
    rw (← file_is area.file file names.0, ← id_is area.ioas id names.1) h.space in
    let none = (or_false (has_hwpt w.objects file id) _ (sym (ap (is_used (view w) file id) here) ∙ unused)).1 in
    let own_file : eqb h.x.file.0 file.0 ≡ true = joined h.x.file.0 area.file.0 file.0 h.own names.0 in
    let to_id : is_access_to id h.x.kind ≡ true =
    ap (λ (i : ObjId). is_access_to i h.x.kind) (sym (id_is area.ioas id names.1)) ∙ h.to in
    clash _ none (of_any (λ (o : Object). eqb o.file.0 file.0 && is_access_to id o.kind) w.objects h.x h.within
    (both_true _ _ own_file to_id)))

-- Close where the file has any access object
pub closed_free : (w : World) (file : FileNo)
    → list_any (λ (o : Object). is_access o.kind) (objects_of w.objects file) ≡ false
    → EachHeld w.objects w.areas w.access_pins → NoPinGoes w (λ (area : Area). eqb area.file.0 file.0)
closed_free w file none held area among own =
    no_pin w area held (λ h.
    clash _ none (of_any (λ (o : Object). is_access o.kind) (objects_of w.objects file) h.x
    (in_kept (λ (o : Object). eqb o.file.0 file.0) w.objects h.x h.within
    (joined h.x.file.0 area.file.0 file.0 h.own own)) (is_one area.ioas h.x.kind h.to)))
