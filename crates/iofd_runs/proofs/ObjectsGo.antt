-- What objects that go leave of the law of debts.
use Rattle.std.proofs.Common.{◌≡◌, Bool, true, false, ◌&&◌, not, eqb, Some, List, refl, ap, sym, ◌∙◌}
use Rattle.std.specs.List.{filter, list_any}
use Rattle.iofd_words.specs.Areas.{is_of}
use Rattle.iofd_words.specs.Attachments.{has_device_on, ioas_of}
use Rattle.iofd_refusals.specs.Checks.{is_used}
use Rattle.iofd_words.specs.Objects.{is_bound_device, is_hwpt_over, is_object, kind_of, without_device_object}
use Rattle.iofd_words.specs.Objects.{has_access_to}
use Rattle.iofd_words.specs.View.{view}
use Rattle.iofd_words.specs.World.{World}
use Rattle.iofd_words.specs.declared.numbers.FileNo.{FileNo}
use Rattle.iofd_words.specs.declared.numbers.ObjId.{ObjId}
use Rattle.iofd_words.specs.declared.rows.Area.{Area}
use Rattle.iofd_words.specs.declared.rows.Attachment.{Attachment}
use Rattle.iofd_words.specs.declared.rows.Object.{Object}
use Rattle.iofd_words.specs.declared.rows.ObjectKind.{ObjectKind}
use Rattle.iofd_words.specs.declared.rows.ObjectKind.TheVariants as kind
use Rattle.iofd_words.specs.declared.width.Width.{Width}
use Rattle.iofd_rows.proofs.Bools.{and_true, both_true, not_true, not_false, or_false}
use Rattle.iofd_rows.proofs.Each.{IsIn, found_kept, in_filter, in_found, of_any}
use Rattle.iofd_rows.proofs.Moves.{once_filter}
use Rattle.iofd_rows.proofs.Named.{file_is, id_is, kind_kept}
use Rattle.iofd_rows.proofs.Owed.{EachOwed, IsSpace}

-- ---- one object goes, on which nothing stands

-- an object of another name keeps its kind
other_name : (objects : List Object) (file f : FileNo) (id i : ObjId) (k : ObjectKind)
    → (eqb f.0 file.0 && eqb i.0 id.0) ≡ false → kind_of objects f i ≡ Some k
    → kind_of (filter (λ object. not (is_object file id object)) objects) f i ≡ Some k
other_name objects file f id i k other is =
    kind_kept (λ object. not (is_object file id object)) objects f i k
    (λ object of_file of_id of_kind. rw (of_file, of_id) (not_false _ other)) is

-- no attachment is by it
no_table : (w : World) (file : FileNo) (id : ObjId) (a : Attachment) (ioas : ObjId) (width : Width) (automatic : Bool)
    → is_used (view w) file id (kind_of w.objects file id) ≡ false → IsIn w.attachments a
    → kind_of w.objects a.file a.hwpt ≡ Some (kind.Hwpt ioas width automatic)
    → (eqb a.file.0 file.0 && eqb a.hwpt.0 id.0) ≡ false
no_table w file id a ioas width automatic unused within table = by_name (eqb a.file.0 file.0 && eqb a.hwpt.0 id.0) refl
  where
    by_name : (b : Bool) → (eqb a.file.0 file.0 && eqb a.hwpt.0 id.0) ≡ b → b ≡ false
    by_name false is = refl
    by_name true is =
        let names = and_true (eqb a.file.0 file.0) (eqb a.hwpt.0 id.0) is in
        let here : kind_of w.objects file id ≡ Some (kind.Hwpt ioas width automatic) =
        rw (← file_is a.file file names.0, ← id_is a.hwpt id names.1) table in
        let no_device : has_device_on w.attachments file id ≡ false =
        sym (ap (is_used (view w) file id) here) ∙ unused in
        let device = of_any (λ (c : Attachment). eqb c.file.0 file.0 && eqb c.hwpt.0 id.0) w.attachments a within is in
        cc

hwpt_over : (k : ObjectKind) (over id : ObjId) → ioas_of k ≡ Some over → eqb over.0 id.0 ≡ true
    → is_hwpt_over id k ≡ true
hwpt_over kind.Ioas over id is same = cc
hwpt_over (kind.Hwpt ioas width automatic) over id is same = let here : ioas ≡ over = cc in rw here same
hwpt_over (kind.Device device) over id is same = cc
hwpt_over (kind.Access attached) over id is same = cc

-- no page table is over it
no_space : (w : World) (file : FileNo) (id : ObjId) (object : Object) (ioas : ObjId)
    → is_used (view w) file id (kind_of w.objects file id) ≡ false → IsIn w.objects object
    → ioas_of object.kind ≡ Some ioas → IsSpace w.objects object.file ioas
    → (eqb object.file.0 file.0 && eqb ioas.0 id.0) ≡ false
no_space w file id object ioas unused within over space = by_name (eqb object.file.0 file.0 && eqb ioas.0 id.0) refl
  where
    by_name : (b : Bool) → (eqb object.file.0 file.0 && eqb ioas.0 id.0) ≡ b → b ≡ false
    by_name false is = refl
    by_name true is =
        let names = and_true (eqb object.file.0 file.0) (eqb ioas.0 id.0) is in
        let here : kind_of w.objects file id ≡ Some kind.Ioas =
        rw (← file_is object.file file names.0, ← id_is ioas id names.1) space in
        let no_hwpt : list_any (λ (o : Object). eqb o.file.0 file.0 && is_hwpt_over id o.kind) w.objects ≡ false =
        (or_false _ (has_access_to w.objects file id) (sym (ap (is_used (view w) file id) here) ∙ unused)).0 in
        let hwpt = of_any (λ (o : Object). eqb o.file.0 file.0 && is_hwpt_over id o.kind) w.objects object within
        (both_true _ _ names.0 (hwpt_over object.kind ioas id over names.1)) in
        cc

pub owed_destroyed : (w : World) (file : FileNo) (id : ObjId)
    → is_used (view w) file id (kind_of w.objects file id) ≡ false → EachOwed w.objects w.attachments w.areas
    → EachOwed (filter (λ object. not (is_object file id object)) w.objects) w.attachments
    (filter (λ area. not (is_of file id area)) w.areas)
owed_destroyed w file id unused each =
    let table : (a : Attachment) (ioas : ObjId) (width : Width) (automatic : Bool) → IsIn w.attachments a
    → kind_of w.objects a.file a.hwpt ≡ Some (kind.Hwpt ioas width automatic)
    → kind_of (filter (λ object. not (is_object file id object)) w.objects) a.file a.hwpt ≡ Some
    (kind.Hwpt ioas width automatic) = λ a ioas width automatic within is.
    other_name w.objects file a.file id a.hwpt _ (no_table w file id a ioas width automatic unused within is) is in
    record {
      once = each.once;
      debtors = λ area within device owes.
          let is = each.debtors area (in_filter (λ area. not (is_of file id area)) w.areas area within).0 device owes in
          record {
            a = is.a;
            found = is.found;
            of_file = is.of_file;
            width = is.width;
            automatic = is.automatic;
            table = table is.a area.ioas is.width is.automatic
                (in_found (λ (b : Attachment). eqb b.device.0 device) w.attachments is.a is.found).0 is.table;
          };
      tables = λ a within.
          let is = each.tables a within in
          record {
            ioas = is.ioas;
            width = is.width;
            automatic = is.automatic;
            table = table a is.ioas is.width is.automatic within is.table;
          };
      spaces = λ object within ioas over.
          let before = (in_filter (λ object. not (is_object file id object)) w.objects object within).0 in
          let space = each.spaces object before ioas over in
          other_name w.objects file object.file id ioas kind.Ioas
          (no_space w file id object ioas unused before over space) space;
      in_spaces = λ area within.
          let (before, stays) = in_filter (λ area. not (is_of file id area)) w.areas area within in
          other_name w.objects file area.file id area.ioas kind.Ioas (not_true _ stays) (each.in_spaces area before);
    }

-- ---- a device is unbound

-- an object that is no device keeps its kind
no_device : (objects : List Object) (file f : FileNo) (id i : ObjId) (k : ObjectKind) → is_bound_device k ≡ false
    → kind_of objects f i ≡ Some k → kind_of (without_device_object file id objects) f i ≡ Some k
no_device objects file f id i k other is =
    kind_kept (λ object. not (is_object file id object && is_bound_device object.kind)) objects f i k
    (λ object of_file of_id of_kind.
    stays (is_object file id object) (is_bound_device object.kind) (ap is_bound_device of_kind ∙ other))
    is
  where
    stays : (p q : Bool) → q ≡ false → not (p && q) ≡ true
    stays true q is = not_false q is
    stays false q is = refl

pub owed_unbound : (objects : List Object) (attachments : List Attachment) (areas : List Area)
    (file : FileNo) (id : ObjId)
    → EachOwed objects attachments areas → EachOwed (without_device_object file id objects) attachments areas
owed_unbound objects attachments areas file id each = record {
  once = each.once;
  debtors = λ area within device owes.
      let is = each.debtors area within device owes in
      record {
        a = is.a;
        found = is.found;
        of_file = is.of_file;
        width = is.width;
        automatic = is.automatic;
        table = no_device objects file is.a.file id is.a.hwpt _ refl is.table;
      };
  tables = λ a within.
      let is = each.tables a within in
      record {
        ioas = is.ioas;
        width = is.width;
        automatic = is.automatic;
        table = no_device objects file a.file id a.hwpt _ refl is.table;
      };
  spaces = λ object within ioas over.
      let before = (in_filter (λ object. not (is_object file id object && is_bound_device object.kind))
      objects object within).0 in
      no_device objects file object.file id ioas kind.Ioas refl (each.spaces object before ioas over);
  in_spaces = λ area within. no_device objects file area.file id area.ioas kind.Ioas refl (each.in_spaces area within);
}

-- ---- a file is closed

-- an object of another file keeps its kind
other_file : (objects : List Object) (file f : FileNo) (i : ObjId) (k : ObjectKind) → eqb f.0 file.0 ≡ false
    → kind_of objects f i ≡ Some k → kind_of (filter (λ (object : Object). not (eqb object.file.0 file.0)) objects) f
    i ≡ Some k
other_file objects file f i k other is =
    kind_kept (λ (object : Object). not (eqb object.file.0 file.0)) objects f i k
    (λ object of_file of_id of_kind. rw of_file (not_false _ other)) is

pub owed_closed : (objects : List Object) (attachments : List Attachment) (areas : List Area) (file : FileNo)
    → EachOwed objects attachments areas → EachOwed
    (filter (λ (object : Object). not (eqb object.file.0 file.0)) objects)
    (filter (λ (a : Attachment). not (eqb a.file.0 file.0)) attachments)
    (filter (λ (area : Area). not (eqb area.file.0 file.0)) areas)
owed_closed objects attachments areas file each = record {
  once = once_filter (λ (a : Attachment). not (eqb a.file.0 file.0)) attachments each.once;
  debtors = λ area within device owes.
      let (before, stays) = in_filter (λ (area : Area). not (eqb area.file.0 file.0)) areas area within in
      let is = each.debtors area before device owes in
      let other : eqb is.a.file.0 file.0 ≡ false = rw is.of_file (not_true _ stays) in
      record {
        a = is.a;
        found = found_kept (λ (b : Attachment). eqb b.device.0 device) (λ (a : Attachment). not (eqb a.file.0 file.0))
            attachments is.a is.found (not_false _ other);
        of_file = is.of_file;
        width = is.width;
        automatic = is.automatic;
        table = other_file objects file is.a.file is.a.hwpt _ other is.table;
      };
  tables = λ a within.
      let (before, stays) = in_filter (λ (a : Attachment). not (eqb a.file.0 file.0)) attachments a within in
      let is = each.tables a before in
      record {
        ioas = is.ioas;
        width = is.width;
        automatic = is.automatic;
        table = other_file objects file a.file a.hwpt _ (not_true _ stays) is.table;
      };
  spaces = λ object within ioas over.
      let (before, stays) = in_filter (λ (object : Object). not (eqb object.file.0 file.0)) objects object within in
      other_file objects file object.file ioas kind.Ioas (not_true _ stays) (each.spaces object before ioas over);
  in_spaces = λ area within.
      let (before, stays) = in_filter (λ (area : Area). not (eqb area.file.0 file.0)) areas area within in
      other_file objects file area.file area.ioas kind.Ioas (not_true _ stays) (each.in_spaces area before);
}
