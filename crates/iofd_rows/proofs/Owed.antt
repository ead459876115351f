-- The law of debts, said of any row.
use Rattle.std.proofs.Common.{◌≡◌, ℕ, Bool, true, false, eqb, Option, Some, None, List, refl, ap, sym, ◌∙◌, arith}
use Rattle.std.proofs.lemmas.Bool.Decides.{nat_tests}
use Rattle.iofd_words.specs.Attachments.{attachment_of, ioas_of, ioas_of_attachment, is_attached_to}
use Rattle.iofd_rows.specs.Debts.{DebtsAttached, attach_once, debtors_of, is_attached, is_by_table, is_over_space}
use Rattle.iofd_words.specs.Objects.{has_ioas, is_hwpt_over, is_ioas, kind_of}
use Rattle.iofd_words.specs.World.{World}
use Rattle.iofd_words.specs.declared.numbers.FileNo.{FileNo}
use Rattle.iofd_words.specs.declared.numbers.ObjId.{ObjId}
use Rattle.iofd_words.specs.declared.rows.Area.{Area}
use Rattle.iofd_words.specs.declared.rows.Attachment.{Attachment}
use Rattle.iofd_words.specs.declared.rows.Object.{Object}
use Rattle.iofd_words.specs.declared.rows.ObjectKind.{ObjectKind}
use Rattle.iofd_words.specs.declared.rows.ObjectKind.TheVariants as kind
use Rattle.iofd_words.specs.declared.width.Width.{Width}
use Rattle.iofd_rows.proofs.Bools.{and_true, both_true}
use Rattle.iofd_rows.proofs.Each.{IsIn, of_all, of_each}
use Rattle.iofd_rows.proofs.Named.{file_is, id_is, object_of_kind, some_passes}

-- an address space of the file
abbrev pub IsSpace : List Object → FileNo → ObjId → Type 0
IsSpace objects file id = kind_of objects file id ≡ Some kind.Ioas

-- the attachment is by a page table
pub record HasTable (objects : List Object) (a : Attachment) : Type 0 where
  pub ioas : ObjId
  pub width : Width
  pub automatic : Bool
  pub table : kind_of objects a.file a.hwpt ≡ Some (kind.Hwpt ioas width automatic)

-- the device of this number is attached to the address space
pub record IsDebtor (objects : List Object) (attachments : List Attachment) (file : FileNo) (ioas : ObjId)
    (device : ℕ) : Type 0 where
  pub a : Attachment
  pub found : attachment_of attachments (record { 0 = device }) ≡ Some a
  pub of_file : a.file ≡ file
  pub width : Width
  pub automatic : Bool
  pub table : kind_of objects a.file a.hwpt ≡ Some (kind.Hwpt ioas width automatic)

pub record EachOwed (objects : List Object) (attachments : List Attachment) (areas : List Area) : Type 0 where
  pub once : attach_once attachments ≡ true
  pub debtors : (area : Area) → IsIn areas area → (device : ℕ) → IsIn (debtors_of area.phase) device
      → IsDebtor objects attachments area.file area.ioas device
  pub tables : (a : Attachment) → IsIn attachments a → HasTable objects a
  pub spaces : (object : Object) → IsIn objects object → (ioas : ObjId) → ioas_of object.kind ≡ Some ioas
      → IsSpace objects object.file ioas
  pub in_spaces : (area : Area) → IsIn areas area → IsSpace objects area.file area.ioas

-- ---- from tests

space_kind : (k : ObjectKind) → is_ioas k ≡ true → k ≡ kind.Ioas
space_kind kind.Ioas is = refl
space_kind (kind.Hwpt ioas width automatic) is = cc
space_kind (kind.Device device) is = cc
space_kind (kind.Access attached) is = cc

pub space_of : (objects : List Object) (file : FileNo) (id : ObjId) → has_ioas objects file id ≡ true
    → IsSpace objects file id
space_of objects file id has =
    let (k, found, is) = some_passes is_ioas (kind_of objects file id) has in
    rw (← space_kind k is) found

-- what is over an address space is a page table
table_kind : (k : ObjectKind) (ioas : ObjId) → ioas_of k ≡ Some ioas → (width : Width) × (automatic : Bool)
    × (k ≡ kind.Hwpt ioas width automatic)
table_kind kind.Ioas ioas is = cc
table_kind (kind.Hwpt over width automatic) ioas is = (width, automatic, cc)
table_kind (kind.Device device) ioas is = cc
table_kind (kind.Access attached) ioas is = cc

over_kind : (k : ObjectKind) (ioas : ObjId) → is_hwpt_over ioas k ≡ true → ioas_of k ≡ Some ioas
over_kind kind.Ioas ioas is = cc
over_kind (kind.Hwpt over width automatic) ioas is = let same = id_is over ioas is in cc
over_kind (kind.Device device) ioas is = cc
over_kind (kind.Access attached) ioas is = cc

ioas_by : (o : Option ObjectKind) (ioas : ObjId) → elim o [ Some k ↦ ioas_of k | None ↦ None ] ≡ Some ioas
    → (k : ObjectKind) × (o ≡ Some k) × (ioas_of k ≡ Some ioas)
ioas_by None ioas is = cc
ioas_by (Some k) ioas is = (k, refl, is)

pub table_of : (objects : List Object) (a : Attachment) (ioas : ObjId) → ioas_of_attachment objects a ≡ Some ioas
    → (width : Width) × (automatic : Bool) × (kind_of objects a.file a.hwpt ≡ Some (kind.Hwpt ioas width automatic))
table_of objects a ioas is =
    let (k, found, over) = ioas_by (kind_of objects a.file a.hwpt) ioas is in
    let (width, automatic, same) = table_kind k ioas over in
    (width, automatic, rw same at found)

pub has_table : (objects : List Object) (a : Attachment) → is_by_table objects a ≡ true → HasTable objects a
has_table objects a is =
    let (ioas, found, has) = some_passes (has_ioas objects a.file) (ioas_of_attachment objects a) is in
    let (width, automatic, table) = table_of objects a ioas found in
    record { ioas = ioas; width = width; automatic = automatic; table = table }

pub debtor_of : (objects : List Object) (attachments : List Attachment) (file : FileNo) (ioas : ObjId) (device : ℕ)
    (a : Attachment) → attachment_of attachments (record { 0 = device }) ≡ Some a
    → is_attached_to objects file ioas a ≡ true → IsDebtor objects attachments file ioas device
debtor_of objects attachments file ioas device a found is =
    let parts = and_true (eqb a.file.0 file.0) _ is in
    let (k, kind_found, over) = some_passes (is_hwpt_over ioas) (kind_of objects a.file a.hwpt) parts.1 in
    let (width, automatic, same) = table_kind k ioas (over_kind k ioas over) in
    record {
      a = a;
      found = found;
      of_file = file_is a.file file parts.0;
      width = width;
      automatic = automatic;
      table = rw same at kind_found;
    }

pub debtor : (objects : List Object) (attachments : List Attachment) (file : FileNo) (ioas : ObjId) (device : ℕ)
    → is_attached objects attachments file ioas device ≡ true → IsDebtor objects attachments file ioas device
debtor objects attachments file ioas device is =
    let (a, found, to) =
    some_passes (is_attached_to objects file ioas) (attachment_of attachments (record { 0 = device })) is in
    debtor_of objects attachments file ioas device a found to

pub each_owed : (w : World) → DebtsAttached w → EachOwed w.objects w.attachments w.areas
each_owed w debts = record {
  once = debts.once;
  debtors = λ area within device owes. debtor w.objects w.attachments area.file area.ioas device
      (of_each (is_attached w.objects w.attachments area.file area.ioas) (debtors_of area.phase) device
      (of_each _ w.areas area debts.debtors within) owes);
  tables = λ a within. has_table w.objects a (of_each _ w.attachments a debts.tables within);
  spaces = λ object within ioas is. space_of w.objects object.file ioas
      (over_space object ioas is (of_each _ w.objects object debts.spaces within));
  in_spaces = λ area within. space_of w.objects area.file area.ioas (of_each _ w.areas area debts.areas within);
}
  where
    over_space : (object : Object) (ioas : ObjId) → ioas_of object.kind ≡ Some ioas
        → is_over_space w.objects object ≡ true → has_ioas w.objects object.file ioas ≡ true
    over_space object ioas is over = sym (ap
        (λ (o : Option ObjId). elim o [ Some ioas ↦ has_ioas w.objects object.file ioas | None ↦ true ]) is) ∙ over

-- ---- to tests

has_space : (objects : List Object) (file : FileNo) (id : ObjId) → IsSpace objects file id
    → has_ioas objects file id ≡ true
has_space objects file id is = ap (λ (o : Option ObjectKind). elim o [ Some k ↦ is_ioas k | None ↦ false ]) is

eqb_same : (n : ℕ) → eqb n n ≡ true
eqb_same n = grind (arith, nat_tests)

is_debtor : (objects : List Object) (attachments : List Attachment) (file : FileNo) (ioas : ObjId) (device : ℕ)
    → IsDebtor objects attachments file ioas device → is_attached objects attachments file ioas device ≡ true
is_debtor objects attachments file ioas device is =
    let file_same : eqb is.a.file.0 file.0 ≡ true = rw is.of_file (eqb_same file.0) in
    let over = ap (λ (o : Option ObjectKind). elim o [ Some k ↦ is_hwpt_over ioas k | None ↦ false ]) is.table
    ∙ eqb_same ioas.0 in
    ap (λ (o : Option Attachment). elim o [ Some a ↦ is_attached_to objects file ioas a | None ↦ false ]) is.found
    ∙ both_true _ _ file_same over

-- a page table is over an address space
by_table : (objects : List Object) (a : Attachment)
    → ((object : Object) → IsIn objects object → (ioas : ObjId) → ioas_of object.kind ≡ Some ioas
    → IsSpace objects object.file ioas) → HasTable objects a → is_by_table objects a ≡ true
by_table objects a spaces is =
    let (object, first, within, of_file, of_id, of_kind) =
    object_of_kind objects a.file a.hwpt (kind.Hwpt is.ioas is.width is.automatic) is.table in
    let space : IsSpace objects a.file is.ioas = rw of_file at (spaces object within is.ioas (ap ioas_of of_kind)) in
    ap (λ (o : Option ObjId). elim o [ Some ioas ↦ has_ioas objects a.file ioas | None ↦ false ])
    (ap (λ (o : Option ObjectKind). elim o [ Some k ↦ ioas_of k | None ↦ None ]) is.table)
    ∙ has_space objects a.file is.ioas space

over_space_by : (objects : List Object) (file : FileNo) (o : Option ObjId)
    → ((ioas : ObjId) → o ≡ Some ioas → IsSpace objects file ioas)
    → elim o [ Some ioas ↦ has_ioas objects file ioas | None ↦ true ] ≡ true
over_space_by objects file None space = refl
over_space_by objects file (Some ioas) space = has_space objects file ioas (space ioas refl)

pub debts_attached : (w : World) → EachOwed w.objects w.attachments w.areas → DebtsAttached w
debts_attached w each = record {
  once = each.once;
  debtors = of_all _ w.areas (λ area within. of_all _ (debtors_of area.phase)
      (λ device owes. is_debtor w.objects w.attachments area.file area.ioas device
      (each.debtors area within device owes)));
  tables = of_all _ w.attachments (λ a within. by_table w.objects a each.spaces (each.tables a within));
  spaces = of_all _ w.objects (λ object within. over_space_by w.objects object.file (ioas_of object.kind)
      (each.spaces object within));
  areas = of_all _ w.areas (λ area within. has_space w.objects area.file area.ioas (each.in_spaces area within));
}
