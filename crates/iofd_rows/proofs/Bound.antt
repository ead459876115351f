-- Devices that are attached are bound to the files whose rows name them, as objects come and go.
use Rattle.std.proofs.Common.{◌≡◌, ℕ, Bool, true, false, cond, ◌&&◌, ◌||◌, not, eqb, Option, Some, None, List, []}
use Rattle.std.proofs.Common.{◌∷◌, is_some, refl, ap, ◌∙◌, arith}
use Rattle.std.specs.List.{filter, find, list_all, list_any}
use Rattle.std.proofs.lemmas.Bool.{eqb-true}
use Rattle.std.proofs.lemmas.Bool.Decides.{nat_tests}
use Rattle.iofd_words.specs.Attachments.{attachment_of, has_lower_device, with_attachment}
use Rattle.iofd_refusals.specs.Checks.{is_attached, is_device_object}
use Rattle.iofd_rows.specs.Debts.{attach_once}
use Rattle.iofd_rows.specs.Ids.{have_own_ids}
use Rattle.iofd_words.specs.Objects.{binding_of, is_automatic, is_bound_as, is_bound_device, is_object, kind_of}
use Rattle.iofd_words.specs.Objects.{objects_of, with_object, without_device_object}
use Rattle.iofd_words.specs.View.{view}
use Rattle.iofd_words.specs.World.{World}
use Rattle.iofd_words.specs.declared.numbers.DeviceNo.{DeviceNo}
use Rattle.iofd_words.specs.declared.numbers.FileNo.{FileNo}
use Rattle.iofd_words.specs.declared.numbers.ObjId.{ObjId}
use Rattle.iofd_words.specs.declared.rows.Attachment.{Attachment}
use Rattle.iofd_words.specs.declared.rows.Object.{Object}
use Rattle.iofd_words.specs.declared.rows.ObjectKind.{ObjectKind}
use Rattle.iofd_words.specs.declared.rows.ObjectKind.TheVariants as kind
use Rattle.iofd_rows.proofs.Bools.{or_false, and_true, not_true}
use Rattle.iofd_rows.proofs.Each.{IsIn, of_all, of_each}
use Rattle.iofd_rows.proofs.Found.{all_weaker, find-filter, find-with_object}
use Rattle.iofd_rows.proofs.Inserted.{all-inserted}
use Rattle.iofd_rows.proofs.ListTests.{false_else}
use Rattle.iofd_rows.proofs.Moves.{found_once}
use Rattle.iofd_rows.proofs.Named.{file_is, id_is, kind_only}
use Rattle.iofd_rows.proofs.Unusable.{none_of}

-- an object, if there is one, is of the file
abbrev pub is_of_file : FileNo → Option Object → Bool
is_of_file file None = false
is_of_file file (Some object) = eqb object.file.0 file.0

-- the device of this number is bound to the file
abbrev pub is_bound_to : List Object → FileNo → ℕ → Bool
is_bound_to objects file device = is_of_file file (binding_of objects (record { 0 = device }))

abbrev pub attachments_bound : List Object → List Attachment → Bool
attachments_bound objects attachments = list_all (λ (a : Attachment). is_bound_to objects a.file a.device.0) attachments

-- what was bound is bound still
abbrev pub StayBound : List Object → List Object → Type 0
StayBound old new =
    (file : FileNo) (device : ℕ) → is_bound_to old file device ≡ true → is_bound_to new file device ≡ true

-- the rows of a world whose objects keep what is bound
pub attachments_stay : (old new : List Object) (attachments : List Attachment) → StayBound old new
    → attachments_bound old attachments ≡ true → attachments_bound new attachments ≡ true
attachments_stay old new attachments stay all = all_weaker _ _ attachments (λ a. stay a.file a.device.0) all

pub find_stays : (old new : List Object) → ((device : DeviceNo) → binding_of new device ≡ binding_of old device)
    → StayBound old new
find_stays old new same = λ file device bound. ap (is_of_file file) (same (record { 0 = device })) ∙ bound

-- ---- rows that come

pub attachments-with_attachment : (objects : List Object) (attachment : Attachment) (attachments : List Attachment)
    → is_bound_to objects attachment.file attachment.device.0 ≡ true → attachments_bound objects attachments ≡ true
    → attachments_bound objects (with_attachment attachment attachments) ≡ true
attachments-with_attachment objects =
    all-inserted has_lower_device (λ (a : Attachment). is_bound_to objects a.file a.device.0)

-- ---- objects that come or go

-- an object that binds no device, or one that wasn't bound
pub stays_more : (object : Object) (objects : List Object)
    → ((device : DeviceNo) → is_bound_as device object.kind ≡ true → binding_of objects device ≡ None)
    → StayBound objects (with_object object objects)
stays_more object objects unbound file number bound =
    by_test (is_bound_as device object.kind) refl
  where
    device : DeviceNo
    device = record { 0 = number }

    by_test : (b : Bool) → is_bound_as device object.kind ≡ b
        → is_bound_to (with_object object objects) file number ≡ true
    by_test false other =
        ap (is_of_file file) (find-with_object (λ o. is_bound_as device o.kind) object objects other) ∙ bound
    by_test true same = let never = ap (is_of_file file) (unbound device same) in cc

-- an object that goes isn't a device's
pub stays-filter : (goes : Object → Bool) (objects : List Object)
    → ((device : DeviceNo) → list_any (λ o. is_bound_as device o.kind && not (not (goes o))) objects ≡ false)
    → StayBound objects (filter (λ o. not (goes o)) objects)
stays-filter goes objects others = find_stays objects (filter (λ o. not (goes o)) objects)
    (λ device. find-filter (λ o. is_bound_as device o.kind) (λ o. not (goes o)) objects (others device))

no_device : (device : DeviceNo) (k : ObjectKind) → is_bound_device k ≡ false → is_bound_as device k ≡ false
no_device device kind.Ioas is = refl
no_device device (kind.Hwpt ioas width automatic) is = refl
no_device device (kind.Device bound) is = cc
no_device device (kind.Access attached) is = refl

pub no_device_either : (device : DeviceNo) (k : ObjectKind) (b : Bool) → is_bound_as device k ≡ true
    → not ((b && is_automatic k)) ≡ true
no_device_either device kind.Ioas b is = cc
no_device_either device (kind.Hwpt ioas width automatic) b is = cc
no_device_either device (kind.Device bound) true is = refl
no_device_either device (kind.Device bound) false is = refl
no_device_either device (kind.Access attached) b is = cc

same_id : (file : FileNo) (id : ObjId) (first o : Object) → is_object file id first ≡ true
    → is_object first.file first.id o ≡ false → is_object file id o ≡ false
same_id file id first o is other = grind (arith, nat_tests)

and_no : (b : Bool) → (b && false) ≡ false
and_no true = refl
and_no false = refl

-- none of a file's objects is a device's
pub file_without_devices : (device : DeviceNo) (file : FileNo) (objects : List Object)
    → list_any (λ o. is_bound_device o.kind) (objects_of objects file) ≡ false
    → list_any (λ o. is_bound_as device o.kind && not (not (eqb o.file.0 file.0))) objects ≡ false
file_without_devices device file [] none = refl
file_without_devices device file (o ∷ objects) none =
    by_file (eqb o.file.0 file.0) none (file_without_devices device file objects)
  where
    by_file : (b : Bool) → list_any (λ o. is_bound_device o.kind)
        (cond b (o ∷ objects_of objects file) (objects_of objects file)) ≡ false
        → (list_any (λ o. is_bound_device o.kind) (objects_of objects file) ≡ false
        → list_any (λ o. is_bound_as device o.kind && not (not (eqb o.file.0 file.0))) objects ≡ false)
        → ((is_bound_as device o.kind && not (not b))
        || list_any (λ o. is_bound_as device o.kind && not (not (eqb o.file.0 file.0))) objects) ≡ false
    by_file true is rest =
        let parts = or_false (is_bound_device o.kind) _ is in
        rw (no_device device o.kind parts.0) (rest parts.1)
    by_file false is rest = rw (and_no (is_bound_as device o.kind)) (rest is)

-- what has no object of an id has none that is a device's
none_left : (device : DeviceNo) (file : FileNo) (id : ObjId) (first : Object) (objects : List Object)
    → is_object file id first ≡ true → list_any (is_object first.file first.id) objects ≡ false
    → list_any (λ o. is_bound_as device o.kind && not (not (is_object file id o))) objects ≡ false
none_left device file id first [] is none = refl
none_left device file id first (o ∷ objects) is none =
    let parts = or_false (is_object first.file first.id o) (list_any (is_object first.file first.id) objects) none in
    rw (same_id file id first o is parts.0, and_no (is_bound_as device o.kind))
    (none_left device file id first objects is parts.1)

-- the object of an id that is given isn't a device's
pub id_without_device : (device : DeviceNo) (file : FileNo) (id : ObjId) (objects : List Object)
    → have_own_ids objects ≡ true → is_device_object (kind_of objects file id) ≡ false
    → list_any (λ o. is_bound_as device o.kind && not (not (is_object file id o))) objects ≡ false
id_without_device device file id [] own none = refl
id_without_device device file id (o ∷ objects) own none =
    let owns = and_true (not (list_any (is_object o.file o.id) objects)) (have_own_ids objects) own in
    by_id (is_object file id o) refl none (not_true _ owns.0) (id_without_device device file id objects owns.1)
  where
    by_id : (b : Bool) → is_object file id o ≡ b
        → is_device_object (elim (cond b (Some o) (find (is_object file id) objects)) [
          | Some object ↦ Some object.kind
          | None ↦ None
        ]) ≡ false → list_any (is_object o.file o.id) objects ≡ false
        → (is_device_object (kind_of objects file id) ≡ false
        → list_any (λ o. is_bound_as device o.kind && not (not (is_object file id o))) objects ≡ false)
        → ((is_bound_as device o.kind && not (not b))
        || list_any (λ o. is_bound_as device o.kind && not (not (is_object file id o))) objects) ≡ false
    by_id true is here others rest = rw (no_device device o.kind here) (none_left device file id o objects is others)
    by_id false is here others rest = rw (and_no (is_bound_as device o.kind)) (rest here)

-- a device's object goes, of a device that isn't attached
pub attachments-unbound : (w : World) (file : FileNo) (id : ObjId) → have_own_ids w.objects ≡ true
    → attach_once w.attachments ≡ true → is_attached (view w) (kind_of w.objects file id) ≡ false
    → attachments_bound w.objects w.attachments ≡ true
    → attachments_bound (without_device_object file id w.objects) w.attachments ≡ true
attachments-unbound w file id own once unattached bound =
    of_all (λ (a : Attachment). is_bound_to (without_device_object file id w.objects) a.file a.device.0) w.attachments
    (λ a within.
    ap (is_of_file a.file) (find-filter (is_as a) stays w.objects
    (none_of (λ o. is_as a o && not (stays o)) w.objects
    (λ o among. false_else _ (λ both. other a within o among both))))
    ∙ of_each (λ (a : Attachment). is_bound_to w.objects a.file a.device.0) w.attachments a bound within)
  where
    is_as : Attachment → Object → Bool
    is_as a o = is_bound_as (record { 0 = a.device.0 }) o.kind

    stays : Object → Bool
    stays o = not (is_object file id o && is_bound_device o.kind)

    -- an attached device isn't the one of the object that goes
    never : (a : Attachment) → IsIn w.attachments a → (k : ObjectKind)
        → is_bound_as (record { 0 = a.device.0 }) k ≡ true → is_attached (view w) (Some k) ≡ false → ⊥
    never a within (kind.Device device) same unattached =
        let found = found_once w.attachments a once within in
        let like = ap (λ (n : ℕ). is_some (attachment_of w.attachments (record { 0 = n })))
        (eqb-true device.0 a.device.0 same) in
        cc
    never a within kind.Ioas same unattached = cc
    never a within (kind.Hwpt ioas width automatic) same unattached = cc
    never a within (kind.Access attached) same unattached = cc

    goes : (named device : Bool) → not (not (named && device)) ≡ true → named ≡ true
    goes true device is = refl
    goes false device is = cc

    other : (a : Attachment) → IsIn w.attachments a → (o : Object) → IsIn w.objects o
        → (is_as a o && not (stays o)) ≡ true → ⊥
    other a within o among both =
        let parts = and_true (is_as a o) (not (stays o)) both in
        let names = and_true (eqb o.file.0 file.0) (eqb o.id.0 id.0)
        (goes (is_object file id o) (is_bound_device o.kind) parts.1) in
        let kind : kind_of w.objects file id ≡ Some o.kind =
        rw (file_is o.file file names.0, id_is o.id id names.1) at (kind_only w.objects o own among) in
        never a within o.kind parts.0 (rw kind at unattached)
