-- What an attachment that comes or ends leaves of the law of debts.
use Rattle.std.proofs.Common.{◌≡◌, ℕ, Bool, true, false, ◌&&◌, not, eqb, Option, Some, None, List, refl, ap, ◌∙◌, subst}
use Rattle.std.proofs.Common.{arith, is_some, ⊎_elim, sym}
use Rattle.std.specs.List.{filter}
use Rattle.std.proofs.lemmas.Bool.{eqb-true}
use Rattle.std.proofs.lemmas.Bool.Decides.{nat_tests}
use Rattle.iofd_steps.specs.After.{goes_with, with_hwpt}
use Rattle.iofd_steps.specs.Answers.{IsHwptFor}
use Rattle.iofd_words.specs.Areas.{all_paid}
use Rattle.iofd_words.specs.Attachments.{attachment_of, has_device_on, ioas_of, with_attachment, without_attachment}
use Rattle.iofd_rows.specs.Ids.{have_own_ids}
use Rattle.iofd_words.specs.Objects.{automatic_hwpt, is_automatic, is_automatic_over, is_object, kind_of}
use Rattle.iofd_words.specs.World.{World}
use Rattle.iofd_words.specs.declared.numbers.DeviceNo.{DeviceNo}
use Rattle.iofd_words.specs.declared.numbers.FileNo.{FileNo}
use Rattle.iofd_words.specs.declared.numbers.ObjId.{ObjId}
use Rattle.iofd_words.specs.declared.rows.Area.{Area}
use Rattle.iofd_words.specs.declared.rows.Attachment.{Attachment}
use Rattle.iofd_words.specs.declared.rows.Object.{Object}
use Rattle.iofd_words.specs.declared.rows.ObjectKind.{ObjectKind}
use Rattle.iofd_words.specs.declared.rows.ObjectKind.TheVariants as kind
use Rattle.iofd_words.specs.declared.width.Width.{Width}
use Rattle.iofd_rows.proofs.Bools.{and_true, not_false}
use Rattle.iofd_rows.proofs.Each.{IsIn, found_kept, in_filter, in_found, in_with_attachment, of_any}
use Rattle.iofd_rows.proofs.Moves.{KindsStay, debtors_paid, debtor_stays, found_with, once_filter, once_with}
use Rattle.iofd_rows.proofs.Moves.{spaces_paid, spaces_with, table_stays}
use Rattle.iofd_rows.proofs.Named.{file_is, id_is, kind_before, kind_kept, kind_new, kind_only}
use Rattle.iofd_rows.proofs.Owed.{EachOwed, HasTable, IsSpace}
use Rattle.iofd_rows.proofs.OwnIds.{any_found, unused}
use Rattle.iofd_words.specs.Width.{bits_of}

-- ---- an attachment ends

used_stays : (p q r : Bool) → (p ≡ true → r ≡ true) → not ((p && q) && not r) ≡ true
used_stays true q true used = grind (arith, nat_tests)
used_stays true q false used = let is = used refl in cc
used_stays false q r used = refl

-- a page table that a device is still on stays
on_table_stays : (others : List Attachment) (a b : Attachment) (object : Object) → IsIn others b → object.file ≡ b.file
    → object.id ≡ b.hwpt → not (goes_with others a object) ≡ true
on_table_stays others a b object within of_file of_id =
    used_stays (is_object a.file a.hwpt object) (is_automatic object.kind) (has_device_on others a.file a.hwpt)
    (λ is. of_any (λ (c : Attachment). eqb c.file.0 a.file.0 && eqb c.hwpt.0 a.hwpt.0) others b within (on is))
  where
    on : is_object a.file a.hwpt object ≡ true → (eqb b.file.0 a.file.0 && eqb b.hwpt.0 a.hwpt.0) ≡ true
    on is = rw (of_file, of_id) at is

-- an address space stays
space_stays : (others : List Attachment) (a : Attachment) (object : Object) → object.kind ≡ kind.Ioas
    → not (goes_with others a object) ≡ true
space_stays others a object is =
    let manual : is_automatic object.kind ≡ false = ap is_automatic is in
    not_manual (is_object a.file a.hwpt object) (is_automatic object.kind)
    (not (has_device_on others a.file a.hwpt)) manual
  where
    not_manual : (p q r : Bool) → q ≡ false → not ((p && q) && r) ≡ true
    not_manual true q r is = rw is refl
    not_manual false q r is = refl

pub owed_detached : (objects : List Object) (attachments : List Attachment) (areas : List Area) (device : DeviceNo)
    (a : Attachment) → EachOwed objects attachments areas
    → EachOwed (filter (λ object. not (goes_with (without_attachment device attachments) a object)) objects)
    (without_attachment device attachments) (all_paid device areas)
owed_detached objects attachments areas device a each =
    let others : List Attachment = without_attachment device attachments in
    let left : List Object = filter (λ object. not (goes_with others a object)) objects in
    let tables : (b : Attachment) (k : ObjectKind) → IsIn others b → kind_of objects b.file b.hwpt ≡ Some k
    → kind_of left b.file b.hwpt ≡ Some k = λ b k within is. kind_kept (λ object. not (goes_with others a object))
    objects b.file b.hwpt k (λ object of_file of_id of_kind. on_table_stays others a b object within of_file of_id)
    is in
    let spaces : (file : FileNo) (id : ObjId) → IsSpace objects file id
    → IsSpace left file id = λ file id is. kind_kept (λ object. not (goes_with others a object)) objects file id
    kind.Ioas (λ object of_file of_id of_kind. space_stays others a object of_kind) is in
    record {
      once = once_filter (λ (b : Attachment). not (eqb b.device.0 device.0)) attachments each.once;
      debtors = debtors_paid objects left attachments others device areas each (λ area d differ is.
          let found = found_other is.a d differ is.found in
          record {
            a = is.a;
            found = found;
            of_file = is.of_file;
            width = is.width;
            automatic = is.automatic;
            table = tables is.a _ (in_found (λ (b : Attachment). eqb b.device.0 d) others is.a found).0 is.table;
          });
      tables = λ b within.
          let is =
          each.tables b (in_filter (λ (b : Attachment). not (eqb b.device.0 device.0)) attachments b within).0 in
          record { ioas = is.ioas; width = is.width; automatic = is.automatic; table = tables b _ within is.table };
      spaces = λ object within ioas over. spaces object.file ioas
          (each.spaces object (in_filter (λ object. not (goes_with others a object)) objects object within).0 ioas
          over);
      in_spaces =
          spaces_paid left device areas (λ area within. spaces area.file area.ioas (each.in_spaces area within));
    }
  where
    found_other : (b : Attachment) (d : ℕ) → eqb d device.0 ≡ false
        → attachment_of attachments (record { 0 = d }) ≡ Some b
        → attachment_of (without_attachment device attachments) (record { 0 = d }) ≡ Some b
    found_other b d differ found =
        let passes = (in_found (λ (b : Attachment). eqb b.device.0 d) attachments b found).1 in
        let same = eqb-true b.device.0 d passes in
        found_kept (λ (b : Attachment). eqb b.device.0 d) (λ (b : Attachment). not (eqb b.device.0 device.0))
        attachments b found (rw same (not_false _ differ))

-- ---- an attachment comes

-- the page table of an attachment is over this address space, be it there already or new
pub record IsMade (objects new : List Object) (file : FileNo) (ioas id : ObjId) : Type 0 where
  pub stay : KindsStay objects new
  pub spaces : (object : Object) → IsIn new object → (over : ObjId) → ioas_of object.kind ≡ Some over
      → IsSpace new object.file over
  pub width : Width
  pub automatic : Bool
  pub table : kind_of new file id ≡ Some (kind.Hwpt ioas width automatic)

pub automatic_kind : (k : ObjectKind) (ioas : ObjId) (width : Width) → is_automatic_over ioas width k ≡ true
    → (of : Width) × (k ≡ kind.Hwpt ioas of true) × (bits_of width ≡ bits_of of)
automatic_kind kind.Ioas ioas width is = cc
automatic_kind (kind.Hwpt over of automatic) ioas width is =
    let parts = and_true (eqb over.0 ioas.0 && automatic) (eqb (bits_of of) (bits_of width)) is in
    let both = and_true (eqb over.0 ioas.0) automatic parts.0 in
    let same = id_is over ioas both.0 in
    (of, rw (same, both.1) refl, sym (eqb-true (bits_of of) (bits_of width) parts.1))
automatic_kind (kind.Device device) ioas width is = cc
automatic_kind (kind.Access attached) ioas width is = cc

pub is_made : (w : World) (file : FileNo) (ioas id : ObjId) (width : Width) (o : Option Object)
    → have_own_ids w.objects ≡ true → automatic_hwpt w.objects file ioas width ≡ o → IsHwptFor w file id o
    → IsSpace w.objects file ioas → ((object : Object) → IsIn w.objects object → (over : ObjId)
    → ioas_of object.kind ≡ Some over → IsSpace w.objects object.file over)
    → IsMade w.objects (with_hwpt file ioas id width o w.objects) file ioas id
is_made w file ioas id width (Some object) own found answers space spaces =
    let (within, passes) = in_found (λ (object : Object). eqb object.file.0 file.0
    && is_automatic_over ioas width object.kind) w.objects object found in
    let parts = and_true (eqb object.file.0 file.0) (is_automatic_over ioas width object.kind) passes in
    let (of, is_kind, bits) = automatic_kind object.kind ioas width parts.1 in
    let of_file : object.file ≡ file = file_is object.file file parts.0 in
    let only = kind_only w.objects object own within in
    let here : kind_of w.objects file id ≡ Some object.kind = rw (← of_file, answers) only in
    record { stay = λ f i k is. is; spaces = spaces; width = of; automatic = true; table = rw is_kind at here }
is_made w file ioas id width None own found answers space spaces =
    let object : Object = record { file = file; id = id; kind = kind.Hwpt ioas width true } in
    let free = unused w.objects file id answers in
    record {
      stay = λ f i k is. kind_before object w.objects f i k free is;
      spaces = spaces_with w.objects object free (λ over is. let same : ioas ≡ over = cc in rw (← same) space) spaces;
      width = width;
      automatic = true;
      table = kind_new object w.objects free;
    }

-- the one that is named
pub is_there : (objects : List Object) (file : FileNo) (ioas id : ObjId) (width : Width) (automatic : Bool)
    → kind_of objects file id ≡ Some (kind.Hwpt ioas width automatic)
    → ((object : Object) → IsIn objects object → (over : ObjId) → ioas_of object.kind ≡ Some over
    → IsSpace objects object.file over)
    → IsMade objects objects file ioas id
is_there objects file ioas id width automatic table spaces =
    record { stay = λ f i k is. is; spaces = spaces; width = width; automatic = automatic; table = table }

pub owed_attached : (objects new : List Object) (attachments : List Attachment) (areas : List Area)
    → (device : DeviceNo) (file : FileNo) (ioas id : ObjId)
    → is_some (attachment_of attachments device) ≡ false → IsMade objects new file ioas id
    → EachOwed objects attachments areas
    → EachOwed new (with_attachment (record { device = device; file = file; hwpt = id }) attachments)
    (all_paid device areas)
owed_attached objects new attachments areas device file ioas id none made each =
    let attachment : Attachment = record { device = device; file = file; hwpt = id } in
    let once = once_with attachment attachments (any_found (λ (a : Attachment). eqb a.device.0 device.0) attachments
    ∙ none) each.once in
    record {
      once = once;
      debtors = debtors_paid objects new attachments (with_attachment attachment attachments) device areas
          each (λ area d differ is.
          debtor_stays objects new attachments (with_attachment attachment attachments) area.file area.ioas d made.stay
          (λ a found. found_with attachment attachments (record { 0 = d }) a once found)
          is);
      tables = λ a within. ⊎_elim
          (λ (same : attachment ≡ a). subst (HasTable new) same (record {
            ioas = ioas;
            width = made.width;
            automatic = made.automatic;
            table = made.table;
          }))
          (λ (before : IsIn attachments a). table_stays objects new a made.stay (each.tables a before))
          (in_with_attachment attachment attachments a within);
      spaces = made.spaces;
      in_spaces = spaces_paid new device areas
          (λ area within. made.stay area.file area.ioas kind.Ioas (each.in_spaces area within));
    }
