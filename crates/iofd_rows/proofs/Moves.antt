-- What rows that come and go leave of the law of debts.
use Rattle.std.proofs.Common.{◌≡◌, ℕ, ◌+◌, Bool, true, false, cond, not, eqb, ltb, Option, Some, List, [], ◌∷◌, refl}
use Rattle.std.proofs.Common.{ap}
use Rattle.std.proofs.Common.{◌∙◌, subst}
use Rattle.std.proofs.Common.{arith, inl, inr, ⊎_elim, ◌⊎◌}
use Rattle.std.specs.List.{filter, list_any}
use Rattle.std.proofs.lemmas.Bool.{eqb-true}
use Rattle.std.proofs.lemmas.Bool.Decides.{nat_tests}
use Rattle.iofd_words.specs.Areas.{all_paid, is_of, is_touched, leaving, paid, touched_tries, tried, with_area}
use Rattle.iofd_words.specs.Areas.{with_leaving, with_phase, with_tries}
use Rattle.iofd_words.specs.Attachments.{attachment_of, devices_of, has_lower_device, ioas_of, is_attached_to}
use Rattle.iofd_words.specs.Attachments.{with_attachment}
use Rattle.iofd_rows.specs.Debts.{attach_once, debtors_of}
use Rattle.iofd_words.specs.Objects.{is_access, is_object, kind_of, with_access, with_object}
use Rattle.iofd_words.specs.declared.event.UnmapRequest.{UnmapRequest}
use Rattle.iofd_words.specs.declared.numbers.DeviceNo.{DeviceNo}
use Rattle.iofd_words.specs.declared.numbers.FileNo.{FileNo}
use Rattle.iofd_words.specs.declared.numbers.ObjId.{ObjId}
use Rattle.iofd_words.specs.declared.rows.Area.{Area}
use Rattle.iofd_words.specs.declared.rows.Attachment.{Attachment}
use Rattle.iofd_words.specs.declared.rows.Object.{Object}
use Rattle.iofd_words.specs.declared.rows.ObjectKind.{ObjectKind}
use Rattle.iofd_words.specs.declared.rows.ObjectKind.TheVariants as kind
use Rattle.iofd_words.specs.declared.rows.Phase.{Phase}
use Rattle.iofd_words.specs.declared.rows.Phase.TheVariants.{Live, Leaving}
use Rattle.iofd_rows.proofs.Accesses.{in_reattached, kind_reattached}
use Rattle.iofd_rows.proofs.Bools.{or_false, and_true, both_false, not_true}
use Rattle.iofd_rows.proofs.Each.{IsIn, in_filter, in_found, in_map, in_with_area, in_with_object, inserted_in, of_any}
use Rattle.iofd_rows.proofs.Inserted.{any-inserted}
use Rattle.iofd_rows.proofs.Named.{file_is, id_is, kind_before}
use Rattle.iofd_rows.proofs.Owed.{EachOwed, HasTable, IsDebtor, IsSpace, debtor_of}

-- ---- a device is attached once

eqb_flipped : (m n : ℕ) → eqb m n ≡ eqb n m
eqb_flipped m n = grind (arith, nat_tests)

pub device_is : (a b : DeviceNo) → eqb a.0 b.0 ≡ true → a ≡ b
device_is a b same = let numbers = eqb-true a.0 b.0 same in ap (λ n. let d : DeviceNo = record { 0 = n } in d) numbers

-- an attachment of this device comes later
abbrev again : DeviceNo → List Attachment → Bool
again device attachments = list_any (λ (a : Attachment). eqb a.device.0 device.0) attachments

-- the first attachment of a device is its only one
pub found_once : (attachments : List Attachment) (a : Attachment) → attach_once attachments ≡ true → IsIn attachments a
    → attachment_of attachments a.device ≡ Some a
found_once [] a once within = absurd within
found_once (b ∷ attachments) a once within =
    let parts = and_true (not (again b.device attachments)) (attach_once attachments) once in
    by_device (eqb b.device.0 a.device.0) refl within (not_true _ parts.0)
    (λ later. found_once attachments a parts.1 later)
  where
    by_device : (t : Bool) → eqb b.device.0 a.device.0 ≡ t → (b ≡ a) ⊎ IsIn attachments a
        → again b.device attachments ≡ false → (IsIn attachments a → attachment_of attachments a.device ≡ Some a)
        → cond t (Some b) (attachment_of attachments a.device) ≡ Some a
    by_device true is (inl same) other rest = rw same refl
    by_device true is (inr later) other rest = let here =
        of_any (λ (c : Attachment). eqb c.device.0 b.device.0) attachments a later (eqb_flipped a.device.0 b.device.0
        ∙ is) in cc
    by_device false is (inl same) other rest =
        let here : eqb b.device.0 a.device.0 ≡ true = rw same (grind (arith, nat_tests)) in cc
    by_device false is (inr later) other rest = rest later

again_filter : (q : Attachment → Bool) (device : DeviceNo) (attachments : List Attachment)
    → again device attachments ≡ false → again device (filter q attachments) ≡ false
again_filter q device [] none = refl
again_filter q device (a ∷ attachments) none =
    let parts = or_false (eqb a.device.0 device.0) (again device attachments) none in
    kept (q a) parts.0 (again_filter q device attachments parts.1)
  where
    kept : (b : Bool) → eqb a.device.0 device.0 ≡ false → again device (filter q attachments) ≡ false
        → again device (cond b (a ∷ filter q attachments) (filter q attachments)) ≡ false
    kept true here rest = rw here rest
    kept false here rest = rest

pub once_filter : (q : Attachment → Bool) (attachments : List Attachment) → attach_once attachments ≡ true
    → attach_once (filter q attachments) ≡ true
once_filter q [] once = refl
once_filter q (a ∷ attachments) once =
    let parts = and_true (not (again a.device attachments)) (attach_once attachments) once in
    kept (q a) (again_filter q a.device attachments (not_true _ parts.0)) (once_filter q attachments parts.1)
  where
    kept : (b : Bool) → again a.device (filter q attachments) ≡ false → attach_once (filter q attachments) ≡ true
        → attach_once (cond b (a ∷ filter q attachments) (filter q attachments)) ≡ true
    kept true here rest = rw (here, rest) refl
    kept false here rest = rest

pub once_with : (attachment : Attachment) (attachments : List Attachment) → again attachment.device attachments ≡ false
    → attach_once attachments ≡ true → attach_once (with_attachment attachment attachments) ≡ true
once_with attachment [] none once = refl
once_with attachment (a ∷ attachments) none once =
    let nones = or_false (eqb a.device.0 attachment.device.0) (again attachment.device attachments) none in
    let parts = and_true (not (again a.device attachments)) (attach_once attachments) once in
    let others : again a.device (with_attachment attachment attachments) ≡ false =
    any-inserted has_lower_device (λ (b : Attachment). eqb b.device.0 a.device.0) attachment attachments
    ∙ both_false _ _ (eqb_flipped attachment.device.0 a.device.0 ∙ nones.0) (not_true _ parts.0) in
    by_order _ others (once_with attachment attachments nones.1 parts.1)
  where
    by_order : (b : Bool) → again a.device (with_attachment attachment attachments) ≡ false
        → attach_once (with_attachment attachment attachments) ≡ true
        → attach_once (cond b (attachment ∷ a ∷ attachments) (a ∷ with_attachment attachment attachments)) ≡ true
    by_order true here rest = rw (none, once) refl
    by_order false here rest = rw (here, rest) refl

-- who is attached stays attached where one more is
pub found_with : (attachment : Attachment) (attachments : List Attachment) (device : DeviceNo) (a : Attachment)
    → attach_once (with_attachment attachment attachments) ≡ true → attachment_of attachments device ≡ Some a
    → attachment_of (with_attachment attachment attachments) device ≡ Some a
found_with attachment attachments device a once found =
    let parts = in_found (λ (a : Attachment). eqb a.device.0 device.0) attachments a found in
    rw (← device_is a.device device parts.1)
    (found_once (with_attachment attachment attachments) a once
    (inserted_in has_lower_device attachment attachments a (inr parts.0)))

-- ---- debts that change

-- what a payment leaves was owed before, by another device
paid_before : (device : DeviceNo) (phase : Phase) (d : ℕ) → IsIn (debtors_of (paid device phase)) d
    → IsIn (debtors_of phase) d × (eqb d device.0 ≡ false)
paid_before device Live d within = absurd within
paid_before device (Leaving owed tries) d within =
    let parts = in_filter (λ n. not (eqb n device.0)) owed d within in
    (parts.0, not_true _ parts.1)

-- what holds of each area as the payment leaves it
pub each_paid : (P : Area → Type 0) (device : DeviceNo) (areas : List Area)
    → ((area : Area) → IsIn areas area → P (with_phase (paid device area.phase) area)) → (area : Area)
    → IsIn (all_paid device areas) area → P area
each_paid P device areas each area within =
    let (old, before, same) = in_map (λ (area : Area). with_phase (paid device area.phase) area) areas area within in
    subst P same (each old before)

-- the debtors after a payment, by a step that keeps the other devices attached
pub debtors_paid : (objects new : List Object) (attachments others : List Attachment) (device : DeviceNo)
    (areas : List Area) → EachOwed objects attachments areas
    → ((area : Area) (d : ℕ) → eqb d device.0 ≡ false → IsDebtor objects attachments area.file area.ioas d
    → IsDebtor new others area.file area.ioas d) → (area : Area) → IsIn (all_paid device areas) area → (d : ℕ)
    → IsIn (debtors_of area.phase) d → IsDebtor new others area.file area.ioas d
debtors_paid objects new attachments others device areas each stays =
    each_paid (λ area. (d : ℕ) → IsIn (debtors_of area.phase) d
    → IsDebtor new others area.file area.ioas d) device areas
    (λ area within d owes. let parts = paid_before device area.phase d owes in stays area d parts.1
    (each.debtors area within d parts.0))

pub spaces_paid : (objects : List Object) (device : DeviceNo) (areas : List Area)
    → ((area : Area) → IsIn areas area → IsSpace objects area.file area.ioas) → (area : Area)
    → IsIn (all_paid device areas) area → IsSpace objects area.file area.ioas
spaces_paid objects device areas each =
    each_paid (λ area. IsSpace objects area.file area.ioas) device areas (λ area within. each area within)

-- a flush
pub owed_flush : (objects : List Object) (attachments : List Attachment) (areas : List Area) (device : DeviceNo)
    → EachOwed objects attachments areas → EachOwed objects attachments (all_paid device areas)
owed_flush objects attachments areas device each = record {
  once = each.once;
  debtors = debtors_paid objects objects attachments attachments device areas each (λ area d differ is. is);
  tables = each.tables;
  spaces = each.spaces;
  in_spaces = spaces_paid objects device areas each.in_spaces;
}

-- ---- objects that come

-- an object keeps its kind
abbrev pub KindsStay : List Object → List Object → Type 0
KindsStay old new =
    (file : FileNo) (id : ObjId) (k : ObjectKind) → kind_of old file id ≡ Some k → kind_of new file id ≡ Some k

-- whoever was attached is attached still, where attachments and objects stay
pub debtor_stays : (old new : List Object) (attachments others : List Attachment) (file : FileNo) (ioas : ObjId)
    (device : ℕ) → KindsStay old new → ((a : Attachment) → attachment_of attachments (record { 0 = device }) ≡ Some a
    → attachment_of others (record { 0 = device }) ≡ Some a) → IsDebtor old attachments file ioas device
    → IsDebtor new others file ioas device
debtor_stays old new attachments others file ioas device stay found is = record {
  a = is.a;
  found = found is.a is.found;
  of_file = is.of_file;
  width = is.width;
  automatic = is.automatic;
  table = stay is.a.file is.a.hwpt _ is.table;
}

pub table_stays : (old new : List Object) (a : Attachment) → KindsStay old new → HasTable old a → HasTable new a
table_stays old new a stay is =
    record { ioas = is.ioas; width = is.width; automatic = is.automatic; table = stay a.file a.hwpt _ is.table }

-- one more object, which if it is a page table is over an address space of its file
pub spaces_with : (objects : List Object) (object : Object) → list_any (is_object object.file object.id) objects ≡ false
    → ((ioas : ObjId) → ioas_of object.kind ≡ Some ioas → IsSpace objects object.file ioas)
    → ((o : Object) → IsIn objects o → (ioas : ObjId) → ioas_of o.kind ≡ Some ioas → IsSpace objects o.file ioas)
    → (o : Object) → IsIn (with_object object objects) o → (ioas : ObjId) → ioas_of o.kind ≡ Some ioas
    → IsSpace (with_object object objects) o.file ioas
spaces_with objects object free new each o within ioas over =
    ⊎_elim
    (λ (same : object ≡ o). subst (λ (o : Object). ioas_of o.kind ≡ Some ioas
    → IsSpace (with_object object objects) o.file ioas) same (λ is. kind_before object objects object.file
    ioas kind.Ioas free (new ioas is)) over)
    (λ (before : IsIn objects o). kind_before object objects o.file ioas kind.Ioas free (each o before ioas over))
    (in_with_object object objects o within)

pub owed_object : (objects : List Object) (attachments : List Attachment) (areas : List Area) (object : Object)
    → list_any (is_object object.file object.id) objects ≡ false
    → ((ioas : ObjId) → ioas_of object.kind ≡ Some ioas → IsSpace objects object.file ioas)
    → EachOwed objects attachments areas → EachOwed (with_object object objects) attachments areas
owed_object objects attachments areas object free new each =
    let stay : KindsStay objects (with_object object objects) =
    λ file id k is. kind_before object objects file id k free is in
    record {
      once = each.once;
      debtors = λ area within device owes. debtor_stays objects (with_object object objects) attachments attachments
          area.file area.ioas device stay (λ a found. found) (each.debtors area within device owes);
      tables = λ a within. table_stays objects (with_object object objects) a stay (each.tables a within);
      spaces = spaces_with objects object free new each.spaces;
      in_spaces = λ area within. stay area.file area.ioas kind.Ioas (each.in_spaces area within);
    }

-- ---- areas that come, go and leave

-- a live area of an address space that the file has
pub owed_area : (objects : List Object) (attachments : List Attachment) (areas : List Area) (area : Area)
    → debtors_of area.phase ≡ [] → IsSpace objects area.file area.ioas → EachOwed objects attachments areas
    → EachOwed objects attachments (with_area area areas)
owed_area objects attachments areas area none space each = record {
  once = each.once;
  debtors = λ x within. ⊎_elim
      (λ (same : area ≡ x). subst (λ (x : Area). (device : ℕ) → IsIn (debtors_of x.phase) device
      → IsDebtor objects attachments x.file x.ioas device) same (λ device owes. absurd
      (subst (λ ds. IsIn ds device) none owes)))
      (λ (before : IsIn areas x). each.debtors x before)
      (in_with_area area areas x within);
  tables = each.tables;
  spaces = each.spaces;
  in_spaces = λ x within. ⊎_elim
      (λ (same : area ≡ x). subst (λ (x : Area). IsSpace objects x.file x.ioas) same space)
      (λ (before : IsIn areas x). each.in_spaces x before)
      (in_with_area area areas x within);
}

pub owed_fewer : (objects : List Object) (attachments : List Attachment) (areas : List Area) (q : Area → Bool)
    → EachOwed objects attachments areas → EachOwed objects attachments (filter q areas)
owed_fewer objects attachments areas q each = record {
  once = each.once;
  debtors = λ area within. each.debtors area (in_filter q areas area within).0;
  tables = each.tables;
  spaces = each.spaces;
  in_spaces = λ area within. each.in_spaces area (in_filter q areas area within).0;
}

-- an access object is attached or detached
pub owed_reattached : (objects : List Object) (attachments : List Attachment) (areas : List Area) (file : FileNo)
    (id : ObjId) (attached : Option ObjId) → EachOwed objects attachments areas
    → EachOwed (with_access file id attached objects) attachments areas
owed_reattached objects attachments areas file id attached each = record {
  once = each.once;
  debtors = λ area within device owes.
      let debtor = each.debtors area within device owes in
      record {
        a = debtor.a;
        found = debtor.found;
        of_file = debtor.of_file;
        width = debtor.width;
        automatic = debtor.automatic;
        table = kind_reattached file id attached objects debtor.a.file debtor.a.hwpt _ refl debtor.table;
      };
  tables = λ a within.
      let by = each.tables a within in
      record {
        ioas = by.ioas;
        width = by.width;
        automatic = by.automatic;
        table = kind_reattached file id attached objects a.file a.hwpt _ refl by.table;
      };
  spaces = λ object within ioas is.
      let before = in_reattached file id attached objects object (no_access object.kind ioas is) within in
      kind_reattached file id attached objects object.file ioas _ refl (each.spaces object before ioas is);
  in_spaces = λ area within.
      kind_reattached file id attached objects area.file area.ioas _ refl (each.in_spaces area within);
}
  where
    no_access : (k : ObjectKind) (ioas : ObjId) → ioas_of k ≡ Some ioas → is_access k ≡ false
    no_access kind.Ioas ioas is = refl
    no_access (kind.Hwpt over width automatic) ioas is = refl
    no_access (kind.Device device) ioas is = refl
    no_access (kind.Access before) ioas is = cc

-- the devices attached to an address space are its debtors
devices_debtors : (objects : List Object) (attachments : List Attachment) (file : FileNo) (ioas : ObjId) (device : ℕ)
    → attach_once attachments ≡ true → IsIn (devices_of objects attachments file ioas) device
    → IsDebtor objects attachments file ioas device
devices_debtors objects attachments file ioas device once within =
    let (a, kept, same) =
    in_map (λ (a : Attachment). a.device.0) (filter (is_attached_to objects file ioas) attachments) device within in
    let (before, to) = in_filter (is_attached_to objects file ioas) attachments a kept in
    subst (IsDebtor objects attachments file ioas) same
    (debtor_of objects attachments file ioas a.device.0 a (found_once attachments a once before) to)

-- an area after an UNMAP that is pending
abbrev unmapped : ℕ → List ℕ → FileNo → UnmapRequest → Area → Area
unmapped most devices file request area =
    with_phase (cond (is_touched file request area) (tried most (leaving devices area.phase)) area.phase) area

-- a try more is no debt
pub debtors_tried : (most : ℕ) (phase : Phase) → debtors_of (tried most phase) ≡ debtors_of phase
debtors_tried most phase = by_count (ltb most 100)
  where
    with_same : (tries : ℕ) (phase : Phase) → debtors_of (with_tries tries phase) ≡ debtors_of phase
    with_same tries Live = refl
    with_same tries (Leaving owed before) = refl

    by_count : (b : Bool) → debtors_of (cond b (with_tries (most + 1) phase) phase) ≡ debtors_of phase
    by_count true = with_same (most + 1) phase
    by_count false = refl

-- the areas that an UNMAP touches are leaving, and owed by those attached
pub owed_leaving : (objects : List Object) (attachments : List Attachment) (areas : List Area) (file : FileNo)
    (request : UnmapRequest) → EachOwed objects attachments areas
    → EachOwed objects attachments (with_leaving areas (devices_of objects attachments file request.ioas) file request)
owed_leaving objects attachments areas file request each = record {
  once = each.once;
  debtors = λ area within.
      let (old, before, same) =
      in_map (unmapped most (devices_of objects attachments file request.ioas) file request) areas area within in
      subst (λ (area : Area). (device : ℕ) → IsIn (debtors_of area.phase) device
      → IsDebtor objects attachments area.file area.ioas device) same (λ device. by_phase old device
      (is_touched file request old) refl old.phase (each.debtors old before device));
  tables = each.tables;
  spaces = each.spaces;
  in_spaces = λ area within.
      let (old, before, same) =
      in_map (unmapped most (devices_of objects attachments file request.ioas) file request) areas area within in
      subst (λ (area : Area). IsSpace objects area.file area.ioas) same (each.in_spaces old before);
}
  where
    most : ℕ
    most = touched_tries areas file request

    by_phase : (area : Area) (device : ℕ) (touched : Bool) → is_touched file request area ≡ touched → (phase : Phase)
        → (IsIn (debtors_of phase) device → IsDebtor objects attachments area.file area.ioas device)
        → IsIn (debtors_of (cond touched (tried most (leaving (devices_of objects attachments file request.ioas) phase))
        phase)) device → IsDebtor objects attachments area.file area.ioas device
    by_phase area device false is phase before owes = before owes
    by_phase area device true is (Leaving owed tries) before owes =
        before (rw (debtors_tried most (Leaving owed tries)) at owes)
    by_phase area device true is Live before tries =
        let owes : IsIn (devices_of objects attachments file request.ioas) device =
        rw (debtors_tried most (Leaving (devices_of objects attachments file request.ioas) 0)) at tries in
        let of_space = and_true (is_of file request.ioas area) _ is in
        let names = and_true (eqb area.file.0 file.0) (eqb area.ioas.0 request.ioas.0) of_space.0 in
        let debtor = devices_debtors objects attachments file request.ioas device each.once owes in
        rw (file_is area.file file names.0, id_is area.ioas request.ioas names.1) debtor
