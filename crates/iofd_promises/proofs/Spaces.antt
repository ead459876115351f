-- Which devices translate by an address space, said of rows.
use Rattle.std.proofs.Common.{◌≡◌, ℕ, Bool, true, false, eqb, Option, Some, None, List, [], ◌∷◌, map, refl, ap, sym}
use Rattle.std.proofs.Common.{◌∙◌, subst, arith, inl, inr, ◌≤◌, cond, ◌||◌, leb}
use Rattle.std.specs.List.{filter, list_any}
use Rattle.std.proofs.lemmas.Bool.Decides.{nat_tests}
use Rattle.iofd_words.specs.Attachments.{devices_of, is_attached_to}
use Rattle.iofd_words.specs.Objects.{is_hwpt_over, kind_of}
use Rattle.iofd_words.specs.World.{World}
use Rattle.iofd_words.specs.declared.numbers.DeviceNo.{DeviceNo}
use Rattle.iofd_words.specs.declared.numbers.FileNo.{FileNo}
use Rattle.iofd_words.specs.declared.numbers.ObjId.{ObjId}
use Rattle.iofd_words.specs.declared.rows.Attachment.{Attachment}
use Rattle.iofd_words.specs.declared.rows.Object.{Object}
use Rattle.iofd_words.specs.declared.rows.ObjectKind.{ObjectKind}
use Rattle.iofd_words.specs.declared.rows.ObjectKind.TheVariants as kind
use Rattle.iofd_words.specs.declared.width.Width.{Width}
use Rattle.iofd_rows.proofs.Bools.{and_rest, and_true, both_true, clash, not_true, or_false}
use Rattle.iofd_rows.proofs.Unusable.{by_rows, each_not}
use Rattle.iofd_rows.specs.Reached.{ends_in, keeps_of}
use Rattle.iofd_runs.specs.InUsable.{AreasUsable, is_in_usable}
use Rattle.iofd_promises.specs.Reserved.{Avoids}
use Rattle.iofd_words.specs.Bounds.{Bounds}
use Rattle.iofd_words.specs.Files.{device_of}
use Rattle.iofd_words.specs.Ranges.{meets_some}
use Rattle.iofd_words.specs.Settings.{DeviceSettings}
use Rattle.iofd_words.specs.Span.{meets}
use Rattle.iofd_words.specs.Usable.{interrupt_range, reserved_by, reserved_of}
use Rattle.iofd_words.specs.declared.rows.Area.{Area}
use Rattle.iofd_rows.proofs.Each.{IsIn, in_filter, in_map, of_each}
use Rattle.iofd_rows.proofs.Named.{file_is, id_is, object_of_kind, some_passes, row_kind}
use Rattle.iofd_rows.specs.Ids.{have_own_ids}
use Rattle.iofd_runs.proofs.StillTabled.{in_kept}
use Rattle.iofd_promises.specs.Reaches.{TranslatesBy}
use Rattle.iofd_promises.proofs.Rows.{contains, within}

pub in_mapped : {X Y : Type 0} (f : X → Y) (xs : List X) (x : X) → IsIn xs x → IsIn (map f xs) (f x)
in_mapped f [] x within = absurd within
in_mapped f (y ∷ ys) x (inl same) = inl (ap f same)
in_mapped f (y ∷ ys) x (inr later) = inr (in_mapped f ys x later)

table_over : (k : ObjectKind) (ioas : ObjId) → is_hwpt_over ioas k ≡ true → (width : Width) × (automatic : Bool)
    × (k ≡ kind.Hwpt ioas width automatic)
table_over kind.Ioas ioas is = cc
table_over (kind.Hwpt over width automatic) ioas is =
    let same = id_is over ioas is in (width, automatic, ap (λ (i : ObjId). kind.Hwpt i width automatic) same)
table_over (kind.Device device) ioas is = cc
table_over (kind.Access attached) ioas is = cc

itself : (n : ℕ) → eqb n n ≡ true
itself n = search (arith, nat_tests)

-- an attachment to the address space
pub attached_rows : (w : World) (file : FileNo) (ioas : ObjId) (a : Attachment) → IsIn w.attachments a
    → is_attached_to w.objects file ioas a ≡ true → TranslatesBy w a.device file ioas
attached_rows w file ioas a there is =
    let parts = and_true (eqb a.file.0 file.0) _ is in
    let (k, named, over) = some_passes (is_hwpt_over ioas) (kind_of w.objects a.file a.hwpt) parts.1 in
    let (width, automatic, same) = table_over k ioas over in
    let (object, first, listed, of_file, of_id, of_kind) = object_of_kind w.objects a.file a.hwpt k named in
    let own : a.file ≡ file = file_is a.file file parts.0 in
    record {
      attachment = a;
      attached = contains w.attachments a there;
      of_device = refl;
      of_file = own;
      table = object;
      there = contains w.objects object listed;
      table_file = of_file ∙ own;
      table_id = of_id;
      width = width;
      automatic = automatic;
      over = of_kind ∙ same;
    }

pub rows_attached : (w : World) (file : FileNo) (ioas : ObjId) (a : Attachment) (table : Object) (width : Width)
    (automatic : Bool) → have_own_ids w.objects ≡ true → a.file ≡ file → IsIn w.objects table → table.file ≡ file
    → table.id ≡ a.hwpt → table.kind ≡ kind.Hwpt ioas width automatic
    → is_attached_to w.objects file ioas a ≡ true
rows_attached w file ioas a table width automatic own of_file there table_file table_id is =
    let named = row_kind w.objects table a.file a.hwpt (kind.Hwpt ioas width automatic) own there (table_file
    ∙ sym of_file) table_id is in
    let over : elim (kind_of w.objects a.file a.hwpt) [ Some k ↦ is_hwpt_over ioas k | None ↦ false ] ≡ true =
    ap (λ (o : Option ObjectKind). elim o [ Some k ↦ is_hwpt_over ioas k | None ↦ false ]) named ∙ itself ioas.0 in
    let same : eqb a.file.0 file.0 ≡ true = ap (λ (f : FileNo). eqb f.0 file.0) of_file ∙ itself file.0 in
    both_true _ _ same over

-- a device of the address space, and who it is
pub device_translates : (w : World) (file : FileNo) (ioas : ObjId) (device : DeviceNo)
    → IsIn (devices_of w.objects w.attachments file ioas) device.0 → TranslatesBy w device file ioas
device_translates w file ioas device there =
    let (a, kept, same) = in_map (λ (a : Attachment). a.device.0)
    (filter (is_attached_to w.objects file ioas) w.attachments) device.0 there in
    let (listed, is) = in_filter (is_attached_to w.objects file ioas) w.attachments a kept in
    let device_is : a.device ≡ device = ap (λ (n : ℕ). let d : DeviceNo = record { 0 = n } in d) same in
    subst (λ (d : DeviceNo). TranslatesBy w d file ioas) device_is (attached_rows w file ioas a listed is)

pub translates_device : (w : World) (file : FileNo) (ioas : ObjId) (device : DeviceNo) → have_own_ids w.objects ≡ true
    → TranslatesBy w device file ioas → IsIn (devices_of w.objects w.attachments file ioas) device.0
translates_device w file ioas device own by =
    let is = rows_attached w file ioas by.attachment by.table by.width by.automatic own by.of_file
    (within w.objects by.table by.there) by.table_file by.table_id by.over in
    let kept = in_kept (is_attached_to w.objects file ioas) w.attachments by.attachment
    (within w.attachments by.attachment by.attached) is in
    subst (λ (d : DeviceNo). IsIn (devices_of w.objects w.attachments file ioas) d.0) by.of_device
    (in_mapped (λ (a : Attachment). a.device.0)
    (filter (is_attached_to w.objects file ioas) w.attachments) by.attachment kept)

-- ---- what its devices keep for themselves

-- no span of these meets this one
clear_of : (spans : List Bounds) (span one : Bounds) (address : ℕ) → meets_some spans span ≡ false → IsIn spans one
    → span.first ≤ address → address ≤ span.last → one.first ≤ address → address ≤ one.last → ⊥
clear_of spans span one address clear there first last from to =
    let begins : leb one.first span.last ≡ true = search (from, last, arith, nat_tests) in
    let ends : leb span.first one.last ≡ true = search (first, to, arith, nat_tests) in
    clash _ (each_not (λ (s : Bounds). meets s span) spans one clear there) (both_true _ _ begins ends)

reserved_in_it : (d : DeviceSettings) (span : Bounds) → IsIn d.reserved span → (b : Bool)
    → IsIn (cond b (interrupt_range ∷ d.reserved) d.reserved) span
reserved_in_it d span there true = inr there
reserved_in_it d span there false = there

pub avoids : (w : World) (area : Area) (device : DeviceNo) (d : DeviceSettings) → have_own_ids w.objects ≡ true
    → AreasUsable w → IsIn w.areas area → TranslatesBy w device area.file area.ioas
    → device_of w.settings device ≡ Some d → Avoids area d
avoids w area device d own usable there by known = record {
  reserved = λ span address has first last from to. clear_of (reserved_by d) area.span span address clear
      (reserved_in_it d span (within d.reserved span has) d.x86) first last from to;
  interrupts = λ address x86 first last from to. clear_of (reserved_by d) area.span interrupt_range address clear
      (subst (λ (b : Bool). IsIn (cond b (interrupt_range ∷ d.reserved) d.reserved) interrupt_range) (sym x86)
      (inl refl)) first last from to;
}
  where
    rows : (list_any (ends_in area.file area.ioas area.span) w.objects
        || list_any (keeps_of w.settings w.objects area.file area.ioas area.span) w.attachments) ≡ false
    rows = sym (by_rows w.settings w.objects w.attachments area.file area.ioas area.span)
        ∙ not_true _ (of_each (is_in_usable w) w.areas area usable.usable there)

    none : keeps_of w.settings w.objects area.file area.ioas area.span by.attachment ≡ false
    none = each_not (keeps_of w.settings w.objects area.file area.ioas area.span) w.attachments by.attachment
        (or_false (list_any (ends_in area.file area.ioas area.span) w.objects)
        (list_any (keeps_of w.settings w.objects area.file area.ioas area.span) w.attachments) rows).1 (within
        w.attachments by.attachment by.attached)

    is : is_attached_to w.objects area.file area.ioas by.attachment ≡ true
    is = rows_attached w area.file area.ioas by.attachment by.table by.width by.automatic own by.of_file
        (within w.objects by.table by.there) by.table_file by.table_id by.over

    clear : meets_some (reserved_by d) area.span ≡ false
    clear =
        let kept = and_rest (is_attached_to w.objects area.file area.ioas by.attachment) _ is none in
        ap (λ (o : Option DeviceSettings). meets_some (reserved_of o) area.span)
        (sym (ap (device_of w.settings) by.of_device ∙ known)) ∙ kept
