-- An attachment that ends: its page table may go with it, and the pins of its address space with the page table.
use Rattle.std.proofs.Common.{◌≡◌, ℕ, Bool, true, false, ◌&&◌, not, eqb, Option, Some, None, List, [], ◌∷◌, refl, sym}
use Rattle.std.proofs.Common.{◌∙◌, ap, arith, inl, inr}
use Rattle.std.specs.List.{filter, list_all, list_any}
use Rattle.std.proofs.lemmas.Bool.Decides.{nat_tests}
use Rattle.iofd_steps.specs.After.{goes_with}
use Rattle.iofd_words.specs.Attachments.{has_device_on, ioas_of, ioas_of_attachment}
use Rattle.iofd_rows.specs.Ids.{have_own_ids}
use Rattle.iofd_words.specs.Objects.{binding_of, has_hwpt, is_automatic, is_bound_as, is_hwpt_over, is_object, kind_of}
use Rattle.iofd_words.specs.Objects.{without_object}
use Rattle.iofd_words.specs.World.{World}
use Rattle.iofd_words.specs.declared.numbers.DeviceNo.{DeviceNo}
use Rattle.iofd_words.specs.declared.numbers.FileNo.{FileNo}
use Rattle.iofd_words.specs.declared.numbers.ObjId.{ObjId}
use Rattle.iofd_words.specs.declared.rows.Attachment.{Attachment}
use Rattle.iofd_words.specs.declared.rows.Object.{Object}
use Rattle.iofd_words.specs.declared.rows.ObjectKind.{ObjectKind}
use Rattle.iofd_words.specs.declared.rows.ObjectKind.TheVariants as kind
use Rattle.iofd_rows.proofs.Bools.{and_true, both_true}
use Rattle.iofd_rows.proofs.Each.{IsIn, in_found, of_all, of_any}
use Rattle.iofd_rows.proofs.Found.{find-filter, none_both}
use Rattle.iofd_rows.proofs.ListTests.{alike, any-filter}
use Rattle.iofd_rows.proofs.Named.{file_is, id_is, kind_only, object_of_kind}
use Rattle.iofd_rows.proofs.PageTables.{hwpt-filter, hwpt_alike}
use Rattle.server_state.proofs.TablesUnreached.{some_one}
use Rattle.hwpt_device.specs.Attaching.{is_idle}

-- ---- rows of a list

pub filter_same_on : {X : Type 0} (p q : X → Bool) (xs : List X) → ((x : X) → IsIn xs x → p x ≡ q x)
    → filter p xs ≡ filter q xs
filter_same_on p q [] same = refl
filter_same_on p q (x ∷ xs) same = rw (same x (inl refl), filter_same_on p q xs (λ y later. same y (inr later))) refl

pub filter_true : {X : Type 0} (xs : List X) → filter (λ (x : X). not false) xs ≡ xs
filter_true [] = refl
filter_true (x ∷ xs) = ap (λ rest. x ∷ rest) (filter_true xs)

-- ---- the page table that goes

pub goes_is : (objects : List Object) (others : List Attachment) (a : Attachment) → have_own_ids objects ≡ true
    → (object : Object) → IsIn objects object
    → goes_with others a object ≡ (is_object a.file a.hwpt object && is_idle objects others a.file a.hwpt)
goes_is objects others a own object within = by_name (is_object a.file a.hwpt object) refl
  where
    by_name : (b : Bool) → is_object a.file a.hwpt object ≡ b
        → ((b && is_automatic object.kind) && not (has_device_on others a.file a.hwpt)) ≡ (b
        && is_idle objects others a.file a.hwpt)
    by_name true is =
        let names = and_true (eqb object.file.0 a.file.0) (eqb object.id.0 a.hwpt.0) is in
        let here : kind_of objects a.file a.hwpt ≡ Some object.kind =
        rw (← file_is object.file a.file names.0, ← id_is object.id a.hwpt names.1)
        (kind_only objects object own within) in
        ap (λ (o : Option ObjectKind). elim o [ Some k ↦ is_automatic k | None ↦ false ]
        && not (has_device_on others a.file a.hwpt)) (sym here)
    by_name false is = refl

abbrev pub left_of : List Attachment → Attachment → List Object → List Object
left_of others a objects = filter (λ object. not (goes_with others a object)) objects

-- none goes
pub none_goes : (objects : List Object) (others : List Attachment) (a : Attachment) → have_own_ids objects ≡ true
    → is_idle objects others a.file a.hwpt ≡ false → left_of others a objects ≡ objects
none_goes objects others a own busy =
    filter_same_on (λ object. not (goes_with others a object)) (λ object. not false) objects
    (λ object within. ap not (goes_is objects others a own object within
    ∙ ap (λ b. is_object a.file a.hwpt object && b) busy ∙ never (is_object a.file a.hwpt object)))
    ∙ filter_true objects
  where
    never : (b : Bool) → (b && false) ≡ false
    never true = refl
    never false = refl

none_any : {X : Type 0} (p : X → Bool) (xs : List X) → ((x : X) → IsIn xs x → p x ≡ false) → list_any p xs ≡ false
none_any p [] none = refl
none_any p (x ∷ xs) none = rw (none x (inl refl), none_any p xs (λ y later. none y (inr later))) refl

-- some goes exactly where its page table is an automatic one without a device
pub some_goes : (objects : List Object) (others : List Attachment) (a : Attachment) (k : ObjectKind)
    → have_own_ids objects ≡ true → kind_of objects a.file a.hwpt ≡ Some k
    → list_any (goes_with others a) objects ≡ is_idle objects others a.file a.hwpt
some_goes objects others a k own there = by_idle (is_idle objects others a.file a.hwpt) refl
  where
    by_idle : (b : Bool) → is_idle objects others a.file a.hwpt ≡ b → list_any (goes_with others a) objects ≡ b
    by_idle true idle =
        let (object, found, within, of_file, of_id, of_kind) = object_of_kind objects a.file a.hwpt k there in
        let its_name = (in_found (is_object a.file a.hwpt) objects object found).1 in
        of_any (goes_with others a) objects object within
        (goes_is objects others a own object within ∙ both_true _ _ its_name idle)
    by_idle false busy =
        none_any (goes_with others a) objects
        (λ object within. goes_is objects others a own object within
        ∙ ap (λ b. is_object a.file a.hwpt object && b) busy ∙ never (is_object a.file a.hwpt object))
      where
        never : (b : Bool) → (b && false) ≡ false
        never true = refl
        never false = refl

pub none_of : (objects : List Object) (others : List Attachment) (a : Attachment) → have_own_ids objects ≡ true
    → is_idle objects others a.file a.hwpt ≡ false → list_all (λ object. not (goes_with others a object)) objects ≡ true
none_of objects others a own busy =
    of_all (λ object. not (goes_with others a object)) objects
    (λ object within. ap not (goes_is objects others a own object within
    ∙ ap (λ b. is_object a.file a.hwpt object && b) busy ∙ never (is_object a.file a.hwpt object)))
  where
    never : (b : Bool) → (b && false) ≡ false
    never true = refl
    never false = refl

pub one_goes : (objects : List Object) (others : List Attachment) (a : Attachment) → have_own_ids objects ≡ true
    → is_idle objects others a.file a.hwpt ≡ true → left_of others a objects ≡ without_object a.file a.hwpt objects
one_goes objects others a own idle =
    filter_same_on (λ object. not (goes_with others a object)) (λ object. not (is_object a.file a.hwpt object)) objects
    (λ object within. ap not (goes_is objects others a own object within
    ∙ ap (λ b. is_object a.file a.hwpt object && b) idle ∙ always (is_object a.file a.hwpt object)))
  where
    always : (b : Bool) → (b && true) ≡ b
    always true = refl
    always false = refl

-- all devices stay bound
pub bindings_stay : (objects : List Object) (others : List Attachment) (a : Attachment) (device : DeviceNo)
    → binding_of (left_of others a objects) device ≡ binding_of objects device
bindings_stay objects others a device =
    find-filter (λ (object : Object). is_bound_as device object.kind)
    (λ object. not (goes_with others a object)) objects
    (none_both (λ (object : Object). is_bound_as device object.kind) (λ object. not (goes_with others a object)) objects
    (λ object bound. stays object.kind (is_object a.file a.hwpt object) bound))
  where
    stays : (k : ObjectKind) (named : Bool) → is_bound_as device k ≡ true
        → not ((named && is_automatic k) && not (has_device_on others a.file a.hwpt)) ≡ true
    stays kind.Ioas named bound = cc
    stays (kind.Hwpt ioas width automatic) named bound = cc
    stays (kind.Device d) true bound = refl
    stays (kind.Device d) false bound = refl
    stays (kind.Access attached) named bound = cc

-- ---- other address spaces

same_space : (k : ObjectKind) (over ioas : ObjId) → is_hwpt_over over k ≡ true → ioas_of k ≡ Some ioas
    → eqb over.0 ioas.0 ≡ true
same_space kind.Ioas over ioas of is = cc
same_space (kind.Hwpt i width automatic) over ioas of is =
    let same : i ≡ ioas = cc in let number = ap (λ (j : ObjId). j.0) same in grind (arith, nat_tests)
same_space (kind.Device device) over ioas of is = cc
same_space (kind.Access attached) over ioas of is = cc

-- an object over another address space is not the page table of the attachment
other_stays : (w : World) (others : List Attachment) (a : Attachment) (ioas over : ObjId) (file : FileNo)
    → have_own_ids w.objects ≡ true → ioas_of_attachment w.objects a ≡ Some ioas
    → (eqb a.file.0 file.0 && eqb ioas.0 over.0) ≡ false → has_hwpt w.objects file over ≡ true
    → has_hwpt (left_of others a w.objects) file over ≡ true
other_stays w others a ioas over file own attached other has =
    let (object, within, is) =
    some_one (λ (object : Object). eqb object.file.0 file.0 && is_hwpt_over over object.kind) w.objects has in
    any-filter (λ (object : Object). eqb object.file.0 file.0 && is_hwpt_over over object.kind)
    (λ object. not (goes_with others a object)) w.objects
    ∙ of_any (λ object. not (goes_with others a object)
    && (eqb object.file.0 file.0 && is_hwpt_over over object.kind)) w.objects object within
    (both_true _ _ (stays object (is_object a.file a.hwpt object) refl within is) is)
  where
    stays : (object : Object) (b : Bool) → is_object a.file a.hwpt object ≡ b → IsIn w.objects object
        → (eqb object.file.0 file.0 && is_hwpt_over over object.kind) ≡ true
        → not ((b && is_automatic object.kind) && not (has_device_on others a.file a.hwpt)) ≡ true
    stays object false named within is = refl
    stays object true named within is =
        let names = and_true (eqb object.file.0 a.file.0) (eqb object.id.0 a.hwpt.0) named in
        let parts = and_true (eqb object.file.0 file.0) (is_hwpt_over over object.kind) is in
        let here : kind_of w.objects a.file a.hwpt ≡ Some object.kind =
        rw (← file_is object.file a.file names.0, ← id_is object.id a.hwpt names.1)
        (kind_only w.objects object own within) in
        let to : ioas_of object.kind ≡ Some ioas =
        sym (ap (λ (o : Option ObjectKind). elim o [ Some k ↦ ioas_of k | None ↦ None ]) here) ∙ attached in
        let same = same_space object.kind over ioas parts.1 to in
        absurd (contrary object.file.0 a.file.0 file.0 over.0 ioas.0 names.0 parts.0 same other)
      where
        contrary : (o f g m n : ℕ) → eqb o f ≡ true → eqb o g ≡ true → eqb m n ≡ true → (eqb f g && eqb n m) ≡ false → ⊥
        contrary o f g m n first second third fails = grind (arith, nat_tests)

-- all other address spaces keep their page tables
pub others_stay : (w : World) (others : List Attachment) (a : Attachment) (ioas : ObjId) → have_own_ids w.objects ≡ true
    → ioas_of_attachment w.objects a ≡ Some ioas
    → (f : FileNo) (i : ObjId) → (eqb f.0 a.file.0 && eqb i.0 ioas.0) ≡ false
    → has_hwpt (left_of others a w.objects) f i ≡ has_hwpt w.objects f i
others_stay w others a ioas own attached f i other =
    alike (has_hwpt (left_of others a w.objects) f i) (has_hwpt w.objects f i)
    (λ has. hwpt-filter (λ object. not (goes_with others a object)) w.objects f i has)
    (λ has. other_stays w others a ioas i f own attached (turned f.0 a.file.0 i.0 ioas.0 other) has)
  where
    turned : (f g m n : ℕ) → (eqb f g && eqb m n) ≡ false → (eqb g f && eqb n m) ≡ false
    turned f g m n fails = grind (arith, nat_tests)

-- where its own has one left, all do
pub all_stay : (w : World) (others : List Attachment) (a : Attachment) (ioas : ObjId) → have_own_ids w.objects ≡ true
    → ioas_of_attachment w.objects a ≡ Some ioas → has_hwpt w.objects a.file ioas ≡ true
    → has_hwpt (left_of others a w.objects) a.file ioas ≡ true
    → (f : FileNo) (i : ObjId) → has_hwpt (left_of others a w.objects) f i ≡ has_hwpt w.objects f i
all_stay w others a ioas own attached had has f i = by_space (eqb f.0 a.file.0 && eqb i.0 ioas.0) refl
  where
    by_space : (b : Bool) → (eqb f.0 a.file.0 && eqb i.0 ioas.0) ≡ b
        → has_hwpt (left_of others a w.objects) f i ≡ has_hwpt w.objects f i
    by_space true is =
        let names = and_true (eqb f.0 a.file.0) (eqb i.0 ioas.0) is in
        sym (hwpt_alike (left_of others a w.objects) f a.file i ioas names.0 names.1) ∙ has ∙ sym had
        ∙ hwpt_alike w.objects f a.file i ioas names.0 names.1
    by_space false is = others_stay w others a ioas own attached f i is
