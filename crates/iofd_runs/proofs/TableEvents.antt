-- Events that make no page table and no live area, and events that take no page table away.
use Rattle.std.proofs.Common.{◌≡◌, ℕ, Bool, true, false, cond, ◌&&◌, ◌||◌, not, eqb, is_some, Option}
use Rattle.std.proofs.Common.{Some, None, List, refl, ap, sym, ◌∙◌, subst, ltb, ◌+◌}
use Rattle.std.specs.List.{filter, find, list_all, list_any}
use Rattle.iofd_steps.specs.After.{attached, goes_with}
use Rattle.iofd_words.specs.Areas.{leaving, paid, tried, with_tries}
use Rattle.iofd_words.specs.Attachments.{attachment_of, without_attachment}
use Rattle.iofd_words.specs.Files.{device_of}
use Rattle.iofd_words.specs.Objects.{automatic_hwpt, binding_of, is_bound_device, is_hwpt, is_ioas, is_object, kind_of}
use Rattle.iofd_words.specs.Objects.{with_object, without_device_object, without_object, is_access, with_access}
use Rattle.iofd_words.specs.Settings.{DeviceSettings}
use Rattle.iofd_words.specs.TablePlaces.{is_live}
use Rattle.iofd_words.specs.World.{World}
use Rattle.iofd_words.specs.declared.event.Event.{Event}
use Rattle.iofd_words.specs.declared.event.Event.TheVariants as event
use Rattle.iofd_words.specs.declared.numbers.DeviceNo.{DeviceNo}
use Rattle.iofd_words.specs.declared.numbers.FileNo.{FileNo}
use Rattle.iofd_words.specs.declared.numbers.ObjId.{ObjId}
use Rattle.iofd_words.specs.declared.rows.Attachment.{Attachment}
use Rattle.iofd_words.specs.declared.rows.Object.{Object}
use Rattle.iofd_words.specs.declared.rows.ObjectKind.{ObjectKind}
use Rattle.iofd_words.specs.declared.rows.ObjectKind.TheVariants as kind
use Rattle.iofd_words.specs.declared.rows.Phase.{Phase}
use Rattle.iofd_words.specs.declared.rows.Phase.TheVariants.{Live, Leaving}
use Rattle.iofd_rows.proofs.Bools.{and_true}
use Rattle.iofd_rows.proofs.Each.{found_kept, in_found}
use Rattle.iofd_rows.proofs.Found.{all_weaker, found_passes}
use Rattle.iofd_rows.proofs.ListTests.{filter_all}
use Rattle.iofd_rows.proofs.Moves.{device_is}
use Rattle.iofd_rows.proofs.Named.{file_is, id_is, kind_before, kind_kept}
use Rattle.iofd_rows.proofs.Accesses.{kind_reattached}

-- ---- no page table and no live area comes

-- an attachment finds its page table: the one that it names, or the automatic one of its width
abbrev pub finds_table : List Object → ObjId → Option Object → Option DeviceSettings → Bool
finds_table objects pt_id None settings = true
finds_table objects pt_id (Some bound) None = true
finds_table objects pt_id (Some bound) (Some d) =
    not (elim (kind_of objects bound.file pt_id) [ Some kind ↦ is_ioas kind | None ↦ false ])
    || is_some (automatic_hwpt objects bound.file pt_id d.width)

-- an event that makes no page table and no live area
abbrev pub MakesNone : {A : Type 0} → World → Event A → Type 0
MakesNone w (event.Map file request) = ⊥
MakesNone w (event.Copy file request) = ⊥
MakesNone w (event.HwptAlloc file request) = ⊥
MakesNone w (event.Attach device pt_id) =
    finds_table w.objects pt_id (binding_of w.objects device) (device_of w.settings device) ≡ true
MakesNone w e = Unit {0}

-- no area becomes live: not where a device pays
pub paid_live : (device : DeviceNo) (phase : Phase) → is_live (paid device phase) ≡ true → is_live phase ≡ true
paid_live device Live live = refl
paid_live device (Leaving owed tries) live = live

-- nor where an UNMAP waits
tried_live : (most : ℕ) (phase : Phase) → is_live (tried most phase) ≡ is_live phase
tried_live most phase = by_count (ltb most 100)
  where
    with_same : (tries : ℕ) (phase : Phase) → is_live (with_tries tries phase) ≡ is_live phase
    with_same tries Live = refl
    with_same tries (Leaving owed before) = refl

    by_count : (b : Bool) → is_live (cond b (with_tries (most + 1) phase) phase) ≡ is_live phase
    by_count true = with_same (most + 1) phase
    by_count false = refl

pub leaving_live : (touched : Bool) (most : ℕ) (attached : List ℕ) (phase : Phase)
    → is_live (cond touched (tried most (leaving attached phase)) phase) ≡ true → is_live phase ≡ true
leaving_live false most attached phase live = live
leaving_live true most attached Live live = refl
leaving_live true most attached (Leaving owed tries) live =
    sym (tried_live most (Leaving owed tries)) ∙ live

-- ---- no page table goes

-- each page table is one still
abbrev pub HwptsStay : List Object → List Object → Type 0
HwptsStay objects left = (file : FileNo) (id : ObjId) (k : ObjectKind) → is_hwpt k ≡ true
    → kind_of objects file id ≡ Some k → kind_of left file id ≡ Some k

pub stay_same : (objects : List Object) → HwptsStay objects objects
stay_same objects file id k is found = found

pub stay_with : (object : Object) (objects : List Object) → list_any (is_object object.file object.id) objects ≡ false
    → HwptsStay objects (with_object object objects)
stay_with object objects free file id k is found = kind_before object objects file id k free found

-- a page table is no access object
pub no_access : (k : ObjectKind) → is_hwpt k ≡ true → is_access k ≡ false
no_access kind.Ioas is = refl
no_access (kind.Hwpt ioas width automatic) is = refl
no_access (kind.Device device) is = refl
no_access (kind.Access attached) is = cc

pub stay_reattached : (own : FileNo) (access : ObjId) (attached : Option ObjId) (objects : List Object)
    → HwptsStay objects (with_access own access attached objects)
stay_reattached own access attached objects file id k is found =
    kind_reattached own access attached objects file id k (no_access k is) found

pub stay_fewer : (q : Object → Bool) (objects : List Object)
    → ((object : Object) → is_hwpt object.kind ≡ true → kind_of objects object.file object.id ≡ Some object.kind
    → q object ≡ true) → HwptsStay objects (filter q objects)
stay_fewer q objects keeps file id k is found =
    kind_kept q objects file id k (λ object of_file of_id of_kind. keeps object (ap is_hwpt of_kind ∙ is)
    (rw (of_file, of_id, of_kind) found)) found

-- by a test of each object
stay_listed : (q : Object → Bool) (objects : List Object)
    → list_all (λ object. not (is_hwpt object.kind) || q object) objects ≡ true → HwptsStay objects (filter q objects)
stay_listed q objects keeps file id k is found = by_found (find (is_object file id) objects) refl found
  where
    by_found : (o : Option Object) → find (is_object file id) objects ≡ o
        → elim o [ Some object ↦ Some object.kind | None ↦ None ] ≡ Some k → kind_of (filter q objects) file id ≡ Some k
    by_found None at is_kind = cc
    by_found (Some object) at is_kind =
        let of_kind : object.kind ≡ k = cc in
        let kept = found_passes (λ object. not (is_hwpt object.kind) || q object) (is_object file id)
        objects object keeps at in
        let stays : q object ≡ true = rw (ap is_hwpt of_kind ∙ is) at kept.0 in
        ap (λ (o : Option Object). elim o [ Some object ↦ Some object.kind | None ↦ None ])
        (found_kept (is_object file id) q objects object at stays) ∙ is_kind

-- the page table of an attachment stays when it ends
abbrev pub leaves_table : List Object → List Attachment → Option Attachment → Bool
leaves_table objects attachments None = true
leaves_table objects attachments (Some a) =
    list_all (λ object. not (goes_with (without_attachment a.device attachments) a object)) objects

-- an event that takes no page table away
abbrev pub TakesNone : {A : Type 0} → World → Event A → Type 0
TakesNone w (event.Destroy file id) =
    elim (kind_of w.objects file id) [ Some kind ↦ is_hwpt kind | None ↦ false ] ≡ false
TakesNone w (event.Close file) =
    list_all (λ object. not (eqb object.file.0 file.0 && is_hwpt object.kind)) w.objects ≡ true
TakesNone w (event.Detach device) = leaves_table w.objects w.attachments (attachment_of w.attachments device) ≡ true
TakesNone w e = Unit {0}

-- ---- so the page tables stay where objects go

pub destroyed_stay : (w : World) (file : FileNo) (id : ObjId)
    → elim (kind_of w.objects file id) [ Some kind ↦ is_hwpt kind | None ↦ false ] ≡ false
    → HwptsStay w.objects (without_object file id w.objects)
destroyed_stay w file id takes =
    stay_fewer (λ object. not (is_object file id object)) w.objects
    (λ object is found. by_name object is found (is_object file id object) refl)
  where
    by_name : (object : Object) → is_hwpt object.kind ≡ true
        → kind_of w.objects object.file object.id ≡ Some object.kind → (b : Bool) → is_object file id object ≡ b
        → not b ≡ true
    by_name object is found true named =
        let names = and_true (eqb object.file.0 file.0) (eqb object.id.0 id.0) named in
        let here = ap (λ f. kind_of w.objects f id) (sym (file_is object.file file names.0))
        ∙ ap (kind_of w.objects object.file) (sym (id_is object.id id names.1)) ∙ found in
        let other : is_hwpt object.kind ≡ false =
        sym (ap (λ (o : Option ObjectKind). elim o [ Some kind ↦ is_hwpt kind | None ↦ false ]) here) ∙ takes in
        cc
    by_name object is found false named = refl

pub closed_stay : (w : World) (file : FileNo)
    → list_all (λ object. not (eqb object.file.0 file.0 && is_hwpt object.kind)) w.objects ≡ true
    → HwptsStay w.objects (filter (λ (o : Object). not (eqb o.file.0 file.0)) w.objects)
closed_stay w file takes =
    stay_listed (λ object. not (eqb object.file.0 file.0)) w.objects
    (all_weaker _ (λ object. not (is_hwpt object.kind) || not (eqb object.file.0 file.0)) w.objects
    (λ object none. either (eqb object.file.0 file.0) (is_hwpt object.kind) none) takes)
  where
    either : (a b : Bool) → not (a && b) ≡ true → (not b || not a) ≡ true
    either true true none = none
    either true false none = refl
    either false true none = refl
    either false false none = refl

pub unbound_stay : (w : World) (file : FileNo) (id : ObjId)
    → HwptsStay w.objects (without_device_object file id w.objects)
unbound_stay w file id =
    stay_fewer (λ object. not (is_object file id object && is_bound_device object.kind)) w.objects
    (λ object is found. by_kind (is_object file id object) object.kind is)
  where
    by_kind : (b : Bool) (k : ObjectKind) → is_hwpt k ≡ true → not (b && is_bound_device k) ≡ true
    by_kind true (kind.Hwpt ioas width automatic) is = refl
    by_kind true kind.Ioas is = refl
    by_kind true (kind.Device device) is = cc
    by_kind true (kind.Access attached) is = cc
    by_kind false k is = refl

pub detached_stay : (w : World) (device : DeviceNo) (a : Attachment) → attachment_of w.attachments device ≡ Some a
    → leaves_table w.objects w.attachments (attachment_of w.attachments device) ≡ true
    → HwptsStay w.objects (filter (λ (o : Object). not (goes_with (without_attachment device w.attachments) a o))
    w.objects)
detached_stay w device a is takes =
    let leaves : leaves_table w.objects w.attachments (Some a) ≡ true = rw is at takes in
    let of : a.device ≡ device =
    device_is a.device device (in_found (λ (b : Attachment). eqb b.device.0 device.0) w.attachments a is).1 in
    rw (← of) (subst (HwptsStay w.objects) (sym
    (filter_all (λ object. not (goes_with (without_attachment a.device w.attachments) a object)) w.objects
    leaves)) (stay_same w.objects))
