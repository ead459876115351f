-- Which spans can't be used, as objects and attachments come and go: a span that can be used still can, where no page
-- table and no attachment came that reaches it.
use Rattle.std.proofs.Common.{◌≡◌, Bool, true, false, ◌&&◌, ◌||◌, eqb, Option, Some, None, List, [], ◌∷◌, refl, ap, sym}
use Rattle.std.proofs.Common.{◌∙◌, inl, inr}
use Rattle.std.specs.List.{filter, flat_map, list_any}
use Rattle.std.proofs.lemmas.List.Folds.{list_any-append}
use Rattle.iofd_words.specs.Attachments.{is_attached_to}
use Rattle.iofd_words.specs.Bounds.{Bounds}
use Rattle.iofd_words.specs.Files.{device_of}
use Rattle.iofd_words.specs.Objects.{is_access, is_hwpt_over, kind_of, with_access}
use Rattle.iofd_words.specs.Ranges.{meets_some}
use Rattle.iofd_words.specs.Settings.{Settings}
use Rattle.iofd_words.specs.Span.{meets}
use Rattle.iofd_words.specs.Usable.{beyond_table, beyond_tables, reserved_in, reserved_of, unusable}
use Rattle.iofd_words.specs.declared.numbers.FileNo.{FileNo}
use Rattle.iofd_words.specs.declared.numbers.ObjId.{ObjId}
use Rattle.iofd_words.specs.declared.rows.Attachment.{Attachment}
use Rattle.iofd_words.specs.declared.rows.Object.{Object}
use Rattle.iofd_words.specs.declared.rows.ObjectKind.{ObjectKind}
use Rattle.iofd_words.specs.declared.rows.ObjectKind.TheVariants as kind
use Rattle.iofd_rows.specs.Ids.{have_own_ids}
use Rattle.iofd_rows.specs.Reached.{ends_in, keeps_of}
use Rattle.iofd_rows.proofs.Accesses.{attached-reattached, in_reattached}
use Rattle.iofd_rows.proofs.Bools.{and_true, both_false, both_true, clash, or_false}
use Rattle.iofd_rows.proofs.Each.{IsIn, in_filter, of_any}
use Rattle.iofd_rows.proofs.ListTests.{any-filter, false_else}
use Rattle.iofd_rows.proofs.Named.{kind_only, object_of_kind, some_passes}

-- ---- by one row

pub any-flat_map : {X Y : Type 0} (p : Y → Bool) (f : X → List Y) (xs : List X)
    → list_any p (flat_map f xs) ≡ list_any (λ x. list_any p (f x)) xs
any-flat_map p f [] = refl
any-flat_map p f (x ∷ xs) =
    list_any-append p (f x) (flat_map f xs) ∙ ap (λ b. list_any p (f x) || b) (any-flat_map p f xs)

pub by_rows : (settings : Settings) (objects : List Object) (attachments : List Attachment) (file : FileNo)
    (ioas : ObjId) (span : Bounds)
    → meets_some (unusable settings objects attachments file ioas) span ≡ (list_any (ends_in file ioas span) objects
    || list_any (keeps_of settings objects file ioas span) attachments)
by_rows settings objects attachments file ioas span =
    list_any-append (λ (one : Bounds). meets one span) (beyond_tables objects file ioas)
    (reserved_in settings objects attachments file ioas)
    ∙ rw (tables, devices) refl
  where
    tables : meets_some (beyond_tables objects file ioas) span ≡ list_any (ends_in file ioas span) objects
    tables =
        any-flat_map (λ (one : Bounds). meets one span) (λ (object : Object). beyond_table object.kind)
        (filter (λ (object : Object). eqb object.file.0 file.0 && is_hwpt_over ioas object.kind) objects)
        ∙ any-filter (λ (object : Object). meets_some (beyond_table object.kind) span)
        (λ (object : Object). eqb object.file.0 file.0 && is_hwpt_over ioas object.kind) objects

    devices : meets_some (reserved_in settings objects attachments file ioas) span ≡ list_any
        (keeps_of settings objects file ioas span) attachments
    devices =
        any-flat_map (λ (one : Bounds). meets one span) (λ (a : Attachment). reserved_of (device_of settings a.device))
        (filter (is_attached_to objects file ioas) attachments)
        ∙ any-filter (λ (a : Attachment). meets_some (reserved_of (device_of settings a.device)) span)
        (is_attached_to objects file ioas) attachments

-- ---- tests that fail

pub each_not : {X : Type 0} (p : X → Bool) (xs : List X) (x : X) → list_any p xs ≡ false → IsIn xs x
    → p x ≡ false
each_not p xs x none within = false_else (p x) (λ passes. clash _ none (of_any p xs x within passes))

pub none_of : {X : Type 0} (p : X → Bool) (xs : List X) → ((x : X) → IsIn xs x → p x ≡ false)
    → list_any p xs ≡ false
none_of p [] each = refl
none_of p (x ∷ xs) each = both_false _ _ (each x (inl refl)) (none_of p xs (λ y later. each y (inr later)))

-- ---- rows come and go

-- what was usable stays so, where each page table and each attachment that reaches the span was there before
pub usable_still : (settings : Settings) (objects left : List Object) (attachments others : List Attachment)
    (file : FileNo) (ioas : ObjId) (span : Bounds)
    → ((object : Object) → IsIn left object → ends_in file ioas span object ≡ true → IsIn objects object)
    → ((a : Attachment) → IsIn others a → keeps_of settings left file ioas span a ≡ true
    → IsIn attachments a × (is_attached_to objects file ioas a ≡ true))
    → meets_some (unusable settings objects attachments file ioas) span ≡ false
    → meets_some (unusable settings left others file ioas) span ≡ false
usable_still settings objects left attachments others file ioas span of_object of_attachment clear =
    let before = or_false (list_any (ends_in file ioas span) objects)
    (list_any (keeps_of settings objects file ioas span) attachments)
    (sym (by_rows settings objects attachments file ioas span) ∙ clear) in
    by_rows settings left others file ioas span
    ∙ both_false _ _
    (none_of (ends_in file ioas span) left (λ object within. false_else _
    (λ ends. clash _ (each_not (ends_in file ioas span) objects object before.0
    (of_object object within ends)) ends)))
    (none_of (keeps_of settings left file ioas span) others (λ a within. false_else _ (λ keeps.
    let was = of_attachment a within keeps in
    let parts = and_true (is_attached_to left file ioas a)
    (meets_some (reserved_of (device_of settings a.device)) span) keeps in
    clash _ (each_not (keeps_of settings objects file ioas span) attachments a before.1 was.0)
    (both_true _ _ was.1 parts.1))))

-- an attachment to what is left was one before
pub attached_of : (file : FileNo) (ioas : ObjId) (a : Attachment) (o k : Option ObjectKind) → o ≡ k
    → (eqb a.file.0 file.0 && elim o [ Some kind ↦ is_hwpt_over ioas kind | None ↦ false ]) ≡ true
    → (eqb a.file.0 file.0 && elim k [ Some kind ↦ is_hwpt_over ioas kind | None ↦ false ]) ≡ true
attached_of file ioas a o k same is = rw same at is

pub attached_left : (q : Object → Bool) (objects : List Object) (file : FileNo) (ioas : ObjId) (a : Attachment)
    → have_own_ids objects ≡ true → is_attached_to (filter q objects) file ioas a ≡ true
    → is_attached_to objects file ioas a ≡ true
attached_left q objects file ioas a own is =
    let parts = and_true (eqb a.file.0 file.0) _ is in
    let (k, found, over) = some_passes (is_hwpt_over ioas) (kind_of (filter q objects) a.file a.hwpt) parts.1 in
    let (object, first, within, of_file, of_id, of_kind) = object_of_kind (filter q objects) a.file a.hwpt k found in
    let was = kind_only objects object own (in_filter q objects object within).0 in
    let here : kind_of objects a.file a.hwpt ≡ Some k = rw (of_file, of_id, of_kind) at was in
    attached_of file ioas a (kind_of (filter q objects) a.file a.hwpt) (kind_of objects a.file a.hwpt) (found
    ∙ sym here) is

-- where an access object is attached or detached
pub usable_reattached : (settings : Settings) (objects : List Object) (attachments : List Attachment) (own : FileNo)
    (id : ObjId) (attached : Option ObjId) (file : FileNo) (ioas : ObjId) (span : Bounds)
    → meets_some (unusable settings objects attachments file ioas) span ≡ false
    → meets_some (unusable settings (with_access own id attached objects) attachments file ioas) span ≡ false
usable_reattached settings objects attachments own id attached file ioas span clear =
    usable_still settings objects (with_access own id attached objects) attachments attachments file ioas span
    (λ object within ends. in_reattached own id attached objects object
    (no_access object.kind (and_true (eqb object.file.0 file.0) _ (and_true _ _ ends).0).1) within)
    (λ a within keeps. (
      within,
      sym (attached-reattached own id attached objects file ioas a)
          ∙ (and_true (is_attached_to (with_access own id attached objects) file ioas a) _ keeps).0,
    ))
    clear
  where
    no_access : (k : ObjectKind) → is_hwpt_over ioas k ≡ true → is_access k ≡ false
    no_access kind.Ioas is = refl
    no_access (kind.Hwpt over width automatic) is = refl
    no_access (kind.Device device) is = refl
    no_access (kind.Access before) is = cc

-- where objects and attachments go, and nothing comes
pub usable_left : (settings : Settings) (objects : List Object) (attachments others : List Attachment) (q : Object
    → Bool) (file : FileNo) (ioas : ObjId) (span : Bounds) → have_own_ids objects ≡ true → ((a : Attachment)
    → IsIn others a → IsIn attachments a)
    → meets_some (unusable settings objects attachments file ioas) span ≡ false
    → meets_some (unusable settings (filter q objects) others file ioas) span ≡ false
usable_left settings objects attachments others q file ioas span own fewer clear =
    usable_still settings objects (filter q objects) attachments others file ioas span
    (λ object within ends. (in_filter q objects object within).0)
    (λ a within keeps. (
      fewer a within,
      attached_left q objects file ioas a own
          (and_true (is_attached_to (filter q objects) file ioas a) _ keeps).0,
    ))
    clear
