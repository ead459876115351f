-- A device's flush pays only areas of the address space that it is attached to.
use Rattle.std.proofs.Common.{◌≡◌, ◌≢◌, ℕ, Bool, true, false, cond, not, eqb, Option, Some, None, List, [], ◌∷◌, refl}
use Rattle.std.proofs.Common.{ap, sym, ◌∙◌, inl, inr}
use Rattle.std.proofs.lemmas.Bool.{eqb-true}
use Rattle.iofd_words.specs.Areas.{all_paid, areas_of, is_of, paid, with_phase}
use Rattle.iofd_words.specs.Attachments.{attachment_of, ioas_of_attachment}
use Rattle.iofd_rows.specs.Debts.{DebtsAttached, debtors_of}
use Rattle.iofd_words.specs.DeviceSet.{without_device}
use Rattle.iofd_words.specs.Objects.{kind_of}
use Rattle.iofd_words.specs.World.{World}
use Rattle.iofd_words.specs.declared.numbers.DeviceNo.{DeviceNo}
use Rattle.iofd_words.specs.declared.numbers.FileNo.{FileNo}
use Rattle.iofd_words.specs.declared.numbers.ObjId.{ObjId}
use Rattle.iofd_words.specs.declared.rows.Area.{Area}
use Rattle.iofd_words.specs.declared.rows.Attachment.{Attachment}
use Rattle.iofd_words.specs.declared.rows.ObjectKind.{ObjectKind}
use Rattle.iofd_words.specs.declared.rows.ObjectKind.TheVariants as kind
use Rattle.iofd_words.specs.declared.rows.Phase.{Phase}
use Rattle.iofd_words.specs.declared.rows.Phase.TheVariants.{Live, Leaving}
use Rattle.iofd_words.specs.declared.width.Width.{Width}
use Rattle.iofd_rows.proofs.Bools.{and_true}
use Rattle.iofd_rows.proofs.Each.{IsIn, in_filter}
use Rattle.iofd_rows.proofs.Owed.{IsDebtor, each_owed, table_of}

-- ---- one address space

-- to pay all areas and then take those of an address space is to pay those
pub paid_areas_of : (device : DeviceNo) (areas : List Area) (f : FileNo) (i : ObjId)
    → areas_of (all_paid device areas) f i ≡ all_paid device (areas_of areas f i)
paid_areas_of device [] f i = refl
paid_areas_of device (area ∷ areas) f i = by_test (is_of f i area) (paid_areas_of device areas f i)
  where
    by_test : (b : Bool) → areas_of (all_paid device areas) f i ≡ all_paid device (areas_of areas f i)
        → cond b (with_phase (paid device area.phase) area ∷ areas_of (all_paid device areas) f i)
        (areas_of (all_paid device areas) f i) ≡ all_paid device
        (cond b (area ∷ areas_of areas f i) (areas_of areas f i))
    by_test true rest = ap (λ others. with_phase (paid device area.phase) area ∷ others) rest
    by_test false rest = rest

-- ---- a device that owes nothing

nothing_owed : (device : ℕ) (owed : List ℕ) → ((d : ℕ) → IsIn owed d → d ≢ device) → without_device device owed ≡ owed
nothing_owed device [] others = refl
nothing_owed device (d ∷ owed) others =
    by_test (eqb d device) refl (nothing_owed device owed (λ e later. others e (inr later)))
  where
    by_test : (b : Bool) → eqb d device ≡ b → without_device device owed ≡ owed
        → cond (not b) (d ∷ without_device device owed) (without_device device owed) ≡ d ∷ owed
    by_test true is rest = absurd (others d (inl refl) (eqb-true d device is))
    by_test false is rest = ap (λ ds. d ∷ ds) rest

phase_same : (device : DeviceNo) (phase : Phase) → ((d : ℕ) → IsIn (debtors_of phase) d → d ≢ device.0)
    → paid device phase ≡ phase
phase_same device Live others = refl
phase_same device (Leaving owed tries) others = ap (λ ds. Leaving ds tries) (nothing_owed device.0 owed others)

-- areas that it owes nothing stay
areas_same : (device : DeviceNo) (areas : List Area)
    → ((area : Area) → IsIn areas area → (d : ℕ) → IsIn (debtors_of area.phase) d → d ≢ device.0)
    → all_paid device areas ≡ areas
areas_same device [] others = refl
areas_same device (area ∷ areas) others =
    let here : with_phase (paid device area.phase) area ≡ area =
    ap (λ phase. with_phase phase area) (phase_same device area.phase (others area (inl refl))) in
    let rest = areas_same device areas (λ a later. others a (inr later)) in
    rw (here, rest) refl

-- ---- what a device pays

-- a device by its number
found_same : (attachments : List Attachment) (device : DeviceNo) (d : ℕ) (b : Attachment) → d ≡ device.0
    → attachment_of attachments (record { 0 = d }) ≡ Some b → attachment_of attachments device ≡ Some b
found_same attachments device d b same found = rw same at found

-- the debtor of an area is attached to the area's address space
debtor_space : (w : World) (device : DeviceNo) (a : Attachment) (ioas : ObjId) (area : Area) (d : ℕ)
    → attachment_of w.attachments device ≡ Some a → ioas_of_attachment w.objects a ≡ Some ioas
    → IsDebtor w.objects w.attachments area.file area.ioas d → d ≡ device.0 → (area.file ≡ a.file) × (area.ioas ≡ ioas)
debtor_space w device a ioas area d found over is same =
    let here = found_same w.attachments device d is.a same is.found in
    let alike : is.a ≡ a = cc in
    let table : kind_of w.objects a.file a.hwpt ≡ Some (kind.Hwpt area.ioas is.width is.automatic) =
    rw alike at is.table in
    let other = table_of w.objects a ioas over in (
      sym is.of_file ∙ ap (λ (b : Attachment). b.file) alike,
      one_table (kind_of w.objects a.file a.hwpt) area.ioas ioas is.width other.0
          is.automatic other.1 table other.2,
    )
  where
    one_table : (o : Option ObjectKind) (i j : ObjId) (v w : Width) (p q : Bool) → o ≡ Some (kind.Hwpt i v p)
        → o ≡ Some (kind.Hwpt j w q) → i ≡ j
    one_table o i j v w p q first second = cc

-- a device that is attached to an address space pays no area of another one
pub pays_own : (w : World) (device : DeviceNo) (a : Attachment) (ioas : ObjId) → DebtsAttached w
    → attachment_of w.attachments device ≡ Some a → ioas_of_attachment w.objects a ≡ Some ioas
    → (f : FileNo) (i : ObjId) → (f.0 ≡ a.file.0 → i.0 ≢ ioas.0)
    → areas_of (all_paid device w.areas) f i ≡ areas_of w.areas f i
pays_own w device a ioas debts found over f i other =
    paid_areas_of device w.areas f i
    ∙ areas_same device (areas_of w.areas f i) (λ area within d owes same.
    let (before, passes) = in_filter (is_of f i) w.areas area within in
    let names = and_true (eqb area.file.0 f.0) (eqb area.ioas.0 i.0) passes in
    let space = debtor_space w device a ioas area d found over ((each_owed w debts).debtors area before d owes) same in
    other (sym (eqb-true area.file.0 f.0 names.0) ∙ ap (λ (f : FileNo). f.0) space.0)
    (sym (eqb-true area.ioas.0 i.0 names.1) ∙ ap (λ (i : ObjId). i.0) space.1))

-- a device that isn't attached pays nothing
pub pays_none : (w : World) (device : DeviceNo) → DebtsAttached w → attachment_of w.attachments device ≡ None
    → all_paid device w.areas ≡ w.areas
pays_none w device debts unattached =
    areas_same device w.areas (λ area within d owes same.
    let is = (each_owed w debts).debtors area within d owes in
    let here = found_same w.attachments device d is.a same is.found in
    cc)
