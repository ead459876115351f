-- Every event keeps areas and allowed ranges in addresses that can be used.
use Rattle.std.proofs.Common.{◌≡◌, ℕ, Bool, true, false, cond, ◌&&◌, ◌||◌, not, eqb, Option, Some, None, List, [], ◌∷◌}
use Rattle.std.proofs.Common.{◌++◌, map, refl, ap, sym, subst, ◌∙◌, ⊎_elim, arith}
use Rattle.std.proofs.lemmas.Bool.{eqb-true}
use Rattle.std.proofs.lemmas.Bool.Decides.{nat_tests}
use Rattle.std.specs.List.{filter, list_all, list_any}
use Rattle.std.proofs.lemmas.List.Folds.{list_any-append}
use Rattle.iofd_steps.specs.After.{changed}
use Rattle.iofd_words.specs.Allowed.{allowed_of, with_allowed}
use Rattle.iofd_steps.specs.Answers.{Answers}
use Rattle.iofd_words.specs.Areas.{areas_of, is_of}
use Rattle.iofd_words.specs.Attachments.{is_attached_to, with_attachment}
use Rattle.iofd_words.specs.Bounds.{Bounds}
use Rattle.iofd_refusals.specs.Checks.{narrows_without, refusal, unusable_in}
use Rattle.iofd_words.specs.Files.{device_of}
use Rattle.iofd_words.specs.Objects.{is_hwpt_over, is_object, kind_of, with_object}
use Rattle.iofd_words.specs.Ranges.{meets_some}
use Rattle.iofd_words.specs.Settings.{DeviceSettings, Settings}
use Rattle.iofd_words.specs.Span.{meets}
use Rattle.iofd_words.specs.Tables.{with_tables}
use Rattle.iofd_words.specs.Usable.{beyond, beyond_table, reserved_by, reserved_of, unusable}
use Rattle.iofd_words.specs.View.{view}
use Rattle.iofd_words.specs.World.{World, opening}
use Rattle.iofd_words.specs.declared.event.Event.{Event}
use Rattle.iofd_words.specs.declared.numbers.FileNo.{FileNo}
use Rattle.iofd_words.specs.declared.numbers.FrameNo.{FrameNo}
use Rattle.iofd_words.specs.declared.numbers.ObjId.{ObjId}
use Rattle.iofd_words.specs.declared.reply.Reply.{Reply}
use Rattle.iofd_words.specs.declared.rows.Area.{Area}
use Rattle.iofd_words.specs.declared.rows.Attachment.{Attachment}
use Rattle.iofd_words.specs.declared.rows.Object.{Object}
use Rattle.iofd_words.specs.declared.rows.ObjectKind.{ObjectKind}
use Rattle.iofd_words.specs.declared.rows.ObjectKind.TheVariants as kind
use Rattle.iofd_words.specs.declared.width.Width.{Width}
use Rattle.iofd_rows.proofs.Allowed.{allowed_with, is_of_space, spans_clear}
use Rattle.iofd_rows.proofs.Bools.{and_rest, and_true, both_false, both_true, clash, not_false, not_true, or_false}
use Rattle.iofd_rows.proofs.Each.{IsIn, in_filter, in_with_attachment, in_with_object, of_all, of_each}
use Rattle.iofd_rows.proofs.ListTests.{any-filter}
use Rattle.iofd_rows.proofs.Moves.{KindsStay}
use Rattle.iofd_rows.proofs.Named.{kind_before}
use Rattle.iofd_rows.proofs.Owed.{EachOwed, HasTable, each_owed}
use Rattle.iofd_rows.proofs.Unusable.{attached_of, each_not, none_of, usable_left, usable_still, usable_reattached}
use Rattle.iofd_rows.specs.Reached.{ends_in, keeps_of}
use Rattle.iofd_runs.proofs.KeepsDebts.{IsSound, keeps_sound, tabled_sound}
use Rattle.iofd_runs.proofs.OwnIds.{unused}
use Rattle.iofd_runs.specs.InUsable.{AreasUsable, is_in_usable}
use Rattle.iofd_runs.proofs.Moves.{AllowedMove, Allows, AttachmentsMove, Fewer, FewerAllowed, FewerAttachments, IsWide}
use Rattle.iofd_runs.proofs.Moves.{More, Moves, ObjectsMove, OneAttachment, Same, SameAllowed, SameAttachments}
use Rattle.iofd_runs.proofs.Moves.{all_areas, changed_moves, Reattached}

-- ---- attachments whose page table stays

attached_before : (objects new : List Object) (file : FileNo) (ioas : ObjId) (a : Attachment) → KindsStay objects new
    → HasTable objects a → is_attached_to new file ioas a ≡ true → is_attached_to objects file ioas a ≡ true
attached_before objects new file ioas a stay has is =
    let now = stay a.file a.hwpt (kind.Hwpt has.ioas has.width has.automatic) has.table in
    attached_of file ioas a (kind_of new a.file a.hwpt) (kind_of objects a.file a.hwpt) (now ∙ sym has.table) is

-- ---- an object comes

-- no page table over the address space that ends in the span
usable_object : (w : World) (object : Object) (file : FileNo) (ioas : ObjId) (span : Bounds)
    → EachOwed w.objects w.attachments w.areas → list_any (is_object object.file object.id) w.objects ≡ false
    → ends_in file ioas span object ≡ false
    → meets_some (unusable w.settings w.objects w.attachments file ioas) span ≡ false
    → meets_some (unusable w.settings (with_object object w.objects) w.attachments file ioas) span ≡ false
usable_object w object file ioas span each free reaches clear =
    usable_still w.settings w.objects (with_object object w.objects) w.attachments w.attachments file ioas span
    (λ o within ends. ⊎_elim
    (λ (same : object ≡ o). absurd (clash _ reaches
    (subst (λ (x : Object). ends_in file ioas span x ≡ true) (sym same) ends)))
    (λ (before : IsIn w.objects o). before)
    (in_with_object object w.objects o within))
    (λ a within keeps. (
      within,
      attached_before w.objects (with_object object w.objects) file ioas a
          (λ f i k is. kind_before object w.objects f i k free is) (each.tables a within)
          (and_true (is_attached_to (with_object object w.objects) file ioas a) _ keeps).0,
    ))
    clear

-- ---- page tables and devices come

-- the spans of an address space that can't be used
abbrev bars : World → FileNo → ObjId → List Bounds
bars w file ioas = unusable w.settings w.objects w.attachments file ioas

flipped : (m n : ℕ) → eqb m n ≡ true → eqb n m ≡ true
flipped m n is = grind (arith, nat_tests)

here_too : (file f : FileNo) (ioas i : ObjId) → (eqb file.0 f.0 && eqb ioas.0 i.0) ≡ true
    → is_of_space file ioas f i ≡ true
here_too file f ioas i is =
    let parts = and_true (eqb file.0 f.0) (eqb ioas.0 i.0) is in
    both_true _ _ (flipped file.0 f.0 parts.0) (flipped ioas.0 i.0 parts.1)

-- a device is attached by a page table that is there
usable_attachment : (settings : Settings) (objects : List Object) (attachments : List Attachment)
    (attachment : Attachment)
    → (device : DeviceSettings) (ioas : ObjId) (width : Width) (automatic : Bool)
    → kind_of objects attachment.file attachment.hwpt ≡ Some (kind.Hwpt ioas width automatic)
    → device_of settings attachment.device ≡ Some device → (f : FileNo) (i : ObjId) (span : Bounds)
    → (is_of_space attachment.file ioas f i ≡ true → meets_some (reserved_by device) span ≡ false)
    → meets_some (unusable settings objects attachments f i) span ≡ false
    → meets_some (unusable settings objects (with_attachment attachment attachments) f i) span ≡ false
usable_attachment settings objects attachments attachment device ioas width automatic table known f i span wide clear =
    usable_still settings objects objects attachments (with_attachment attachment attachments) f i span
    (λ o within ends. within)
    (λ a within keeps. ⊎_elim
    (λ (same : attachment ≡ a). absurd (not_kept
    (subst (λ (x : Attachment). keeps_of settings objects f i span x ≡ true) (sym same) keeps)))
    (λ (before : IsIn attachments a). (before, (and_true (is_attached_to objects f i a) _ keeps).0))
    (in_with_attachment attachment attachments a within))
    clear
  where
    by_table : (o : Option ObjectKind) → o ≡ Some (kind.Hwpt ioas width automatic)
        → (eqb attachment.file.0 f.0 && elim o [ Some k ↦ is_hwpt_over i k | None ↦ false ]) ≡ true
        → (eqb attachment.file.0 f.0 && eqb ioas.0 i.0) ≡ true
    by_table o is both = rw is at both

    of_device : (o : Option DeviceSettings) → o ≡ Some device → meets_some (reserved_of o) span ≡ true
        → meets_some (reserved_by device) span ≡ true
    of_device o is met = rw is at met

    not_kept : keeps_of settings objects f i span attachment ≡ true → ⊥
    not_kept keeps =
        let parts = and_true (is_attached_to objects f i attachment)
        (meets_some (reserved_of (device_of settings attachment.device)) span) keeps in
        let here = here_too attachment.file f ioas i
        (by_table (kind_of objects attachment.file attachment.hwpt) table parts.0) in
        clash _ (wide here) (of_device (device_of settings attachment.device) known parts.1)

-- ---- the allowed ranges

-- none, or clear ones
clear_if : (b : Bool) (bars spans others : List Bounds) → (b ≡ true → list_any (meets_some bars) others ≡ false)
    → (b ≡ false → list_any (meets_some bars) spans ≡ false) → list_any (meets_some bars) (cond b others spans) ≡ false
clear_if true bars spans others here else = here refl
clear_if false bars spans others here else = else refl

-- those of this address space are new
allowed_clear : (w : World) (file : FileNo) (ioas : ObjId) (ranges : List Bounds) (f : FileNo) (i : ObjId)
    → list_any (meets_some (bars w file ioas)) ranges ≡ false
    → list_any (meets_some (bars w f i)) (allowed_of w.allowed f i) ≡ false
    → list_any (meets_some (bars w f i)) (allowed_of (with_allowed file ioas ranges w.allowed) f i) ≡ false
allowed_clear w file ioas ranges f i new old =
    ap (list_any (meets_some (bars w f i))) (allowed_with file ioas ranges w.allowed f i)
    ∙ clear_if (is_of_space file ioas f i) (bars w f i) (allowed_of w.allowed f i) ranges
    (λ here. here_clear (and_true (eqb f.0 file.0) (eqb i.0 ioas.0) here)) (λ other. old)
  where
    here_clear : (eqb f.0 file.0 ≡ true) × (eqb i.0 ioas.0 ≡ true) → list_any (meets_some (bars w f i)) ranges ≡ false
    here_clear is = ap (λ (n : ℕ). list_any (meets_some (bars w (record { 0 = n }) i)) ranges)
        (eqb-true f.0 file.0 is.0) ∙ ap (λ (n : ℕ). list_any (meets_some (bars w file (record { 0 = n }))) ranges)
        (eqb-true i.0 ioas.0 is.1) ∙ new

-- ---- what narrows an area or an allowed range is refused

wide_parts : (w : World) (file : FileNo) (ioas : ObjId) (spans : List Bounds)
    → narrows_without (view w) file ioas spans ≡ false
    → (list_any (meets_some spans) (map (λ (a : Area). a.span) (areas_of w.areas file ioas)) ≡ false)
    × (list_any (meets_some spans) (allowed_of w.allowed file ioas) ≡ false)
wide_parts w file ioas spans wide =
    let areas = map (λ (a : Area). a.span) (areas_of w.areas file ioas) in
    let ranges = allowed_of w.allowed file ioas in
    let split = sym (list_any-append (meets_some all) areas ranges) ∙ wide in
    let parts = or_false (list_any (meets_some all) areas) (list_any (meets_some all) ranges) split in
    (spans_clear all spans areas first parts.0, spans_clear all spans ranges first parts.1)
  where
    all : List Bounds
    all = spans ++ unusable_in (view w) file ioas

    first : (span : Bounds) → meets_some all span ≡ false → meets_some spans span ≡ false
    first span clear =
        let split =
        sym (list_any-append (λ (one : Bounds). meets one span) spans (unusable_in (view w) file ioas)) ∙ clear in
        (or_false (meets_some spans span) _ split).0

-- so an area of the address space is clear of these spans
wide_areas : (w : World) (file : FileNo) (ioas : ObjId) (spans : List Bounds) (area : Area) → IsIn w.areas area
    → narrows_without (view w) file ioas spans ≡ false → is_of file ioas area ≡ true
    → meets_some spans area.span ≡ false
wide_areas w file ioas spans area within wide of_space =
    let own = sym (any-spans (areas_of w.areas file ioas)) ∙ (wide_parts w file ioas spans wide).0 in
    let none = sym (any-filter (λ (a : Area). meets_some spans a.span) (is_of file ioas) w.areas) ∙ own in
    let reaches = λ (a : Area). is_of file ioas a && meets_some spans a.span in
    and_rest (is_of file ioas area) (meets_some spans area.span) of_space (each_not reaches w.areas area none within)
  where
    any-spans : (areas : List Area)
        → list_any (meets_some spans) (map (λ (a : Area). a.span) areas) ≡ list_any
        (λ (a : Area). meets_some spans a.span) areas
    any-spans [] = refl
    any-spans (a ∷ areas) = ap (λ b. meets_some spans a.span || b) (any-spans areas)

-- and so are its allowed ranges
wide_ranges : (w : World) (file : FileNo) (ioas : ObjId) (spans : List Bounds) (f : FileNo) (i : ObjId)
    → is_of_space file ioas f i ≡ true → narrows_without (view w) file ioas spans ≡ false
    → list_any (meets_some spans) (allowed_of w.allowed f i) ≡ false
wide_ranges w file ioas spans f i here wide =
    let is = and_true (eqb f.0 file.0) (eqb i.0 ioas.0) here in
    ap (λ (n : ℕ). list_any (meets_some spans) (allowed_of w.allowed (record { 0 = n }) i)) (eqb-true f.0 file.0 is.0)
    ∙ ap (λ (n : ℕ). list_any (meets_some spans) (allowed_of w.allowed file (record { 0 = n })))
    (eqb-true i.0 ioas.0 is.1)
    ∙ (wide_parts w file ioas spans wide).1

-- ---- what can be used still can

-- what is known of a span that an area or an allowed range has: it can be used, and what narrows it is refused
record StandsIn (w : World) (file : FileNo) (ioas : ObjId) (span : Bounds) : Type 0 where
  clear : meets_some (bars w file ioas) span ≡ false
  wide : (own : FileNo) (over : ObjId) (spans : List Bounds) → narrows_without (view w) own over spans ≡ false
      → is_of_space own over file ioas ≡ true → meets_some spans span ≡ false

neither : (b : Bool) → ((b && false) && false) ≡ false
neither true = refl
neither false = refl

module _ {A : Type 0} (at : ℕ) (w : World) (e : Event A) (answer : Reply) (none : refusal w e ≡ None)
    (answers : Answers w e answer) (sound : IsSound w) (u : AreasUsable w) where
  area_stands : (a : Area) → IsIn w.areas a → StandsIn w a.file a.ioas a.span
  area_stands a within = record {
    clear = not_true _ (of_each (is_in_usable w) w.areas a u.usable within);
    wide = λ own over spans wide here. wide_areas w own over spans a within wide here;
  }

  range_stands : (f : FileNo) (i : ObjId) (span : Bounds) → IsIn (allowed_of w.allowed f i) span → StandsIn w f i span
  range_stands f i span within = record {
    clear = each_not (meets_some (bars w f i)) (allowed_of w.allowed f i) span (u.ranges f i) within;
    wide = λ own over spans wide here. each_not (meets_some spans) (allowed_of w.allowed f i) span
        (wide_ranges w own over spans f i here wide) within;
  }

  module _ (f : FileNo) (i : ObjId) (span : Bounds) (stands : StandsIn w f i span) where
    -- an object that comes ends beyond it
    ends_beyond : (file : FileNo) (k : ObjectKind) → IsWide w file k
        → ((eqb file.0 f.0 && is_hwpt_over i k) && meets_some (beyond_table k) span) ≡ false
    ends_beyond file kind.Ioas wide = neither (eqb file.0 f.0)
    ends_beyond file (kind.Device device) wide = neither (eqb file.0 f.0)
    ends_beyond file (kind.Access attached) wide = neither (eqb file.0 f.0)
    ends_beyond file (kind.Hwpt ioas width automatic) (spans, wide) =
        by_space (eqb file.0 f.0 && eqb ioas.0 i.0) refl
      where
        by_space : (b : Bool) → (eqb file.0 f.0 && eqb ioas.0 i.0) ≡ b
            → (b && meets_some (beyond width ∷ []) span) ≡ false
        by_space true is = both_false _ _ (or_false (meets (beyond width) span) (meets_some spans span)
            (stands.wide file ioas (beyond width ∷ spans) wide (here_too file f ioas i is))).0 refl
        by_space false is = refl

    by_objects : (new : World) → ObjectsMove w e answer new
        → meets_some (unusable w.settings new.objects w.attachments f i) span ≡ false
    by_objects new (Same is) = rw is stands.clear
    by_objects new (Fewer stays stay bound is) =
        rw is (usable_left w.settings w.objects w.attachments w.attachments stays f i span sound.own_ids
        (λ a within. within) stands.clear)
    by_objects new (Reattached file id attached is) =
        rw is (usable_reattached w.settings w.objects w.attachments file id attached f i span stands.clear)
    by_objects new (More object fresh admitted makes is) =
        rw is (usable_object w object f i span (each_owed w sound.debts)
        (unused w.objects object.file object.id (fresh answers))
        (ends_beyond object.file object.kind (admitted none).wide) stands.clear)

    by_attachments : (new : World) → AttachmentsMove w e answer new
        → meets_some (unusable w.settings new.objects w.attachments f i) span ≡ false
        → meets_some (unusable w.settings new.objects new.attachments f i) span ≡ false
    by_attachments new (SameAttachments is) clear = rw is clear
    by_attachments new (FewerAttachments stays is) clear =
        rw is (usable_still w.settings new.objects new.objects w.attachments (filter stays w.attachments) f i span
        (λ o within ends. within)
        (λ a within keeps. (
          (in_filter stays w.attachments a within).0,
          (and_true (is_attached_to new.objects f i a) _ keeps).0,
        ))
        clear)
    by_attachments new (OneAttachment a bound binding still of_file free served is) clear =
        let s = served none answers sound.own_ids in
        rw is (usable_attachment w.settings new.objects w.attachments a s.device s.ioas s.width s.automatic s.table
        s.known f i span
        (λ here. (or_false (meets (beyond s.device.width) span) _ (stands.wide a.file s.ioas
        (beyond s.device.width ∷ reserved_by s.device) s.wide here)).1) clear)

    still_clear : (new : World) → Moves at w e answer new
        → meets_some (unusable w.settings new.objects new.attachments f i) span ≡ false
    still_clear new m = by_attachments new m.attachments (by_objects new m.objects)

  areas_still : (new : World) → Moves at w e answer new
      → list_all (λ (a : Area). not (meets_some (unusable w.settings new.objects new.attachments a.file a.ioas) a.span))
      new.areas ≡ true
  areas_still new m =
      all_areas _ (λ phase a here. here) at w e answer new m.areas
      (λ number file request iova passed lies alike under.
      let here = (lies none answers).usable in
      not_false _ (rw (alike.objects, alike.attachments) here))
      (of_all _ w.areas (λ a within. not_false _ (still_clear a.file a.ioas a.span (area_stands a within) new m)))

  old_ranges : (new : World) → Moves at w e answer new → (f : FileNo) (i : ObjId)
      → list_any (meets_some (unusable w.settings new.objects new.attachments f i)) (allowed_of w.allowed f i) ≡ false
  old_ranges new m f i =
      none_of _ (allowed_of w.allowed f i) (λ span within. still_clear f i span (range_stands f i span within) new m)

  ranges_still : (new : World) → Moves at w e answer new → AllowedMove w e new → (f : FileNo) (i : ObjId)
      → list_any (meets_some (unusable w.settings new.objects new.attachments f i)) (allowed_of new.allowed f i) ≡ false
  ranges_still new m (SameAllowed is) f i = rw is (old_ranges new m f i)
  ranges_still new m (FewerAllowed stays gone is) f i =
      rw is (ap (list_any (meets_some (unusable w.settings new.objects new.attachments f i))) (gone f i).1
      ∙ clear_if (gone f i).0 (unusable w.settings new.objects new.attachments f i) (allowed_of w.allowed f i) []
      (λ here. refl) (λ here. old_ranges new m f i))
  ranges_still new m (Allows file ioas ranges passed alike is) f i =
      rw (alike.objects, alike.attachments, is)
      (allowed_clear w file ioas ranges f i (passed none).usable (u.ranges f i))

  usable_keeps : AreasUsable (changed at w e answer)
  usable_keeps =
      let new : World = changed at w e answer in
      let m = changed_moves at w e answer in
      record {
        usable = rw m.settings (areas_still new m);
        ranges = λ f i. rw m.settings (ranges_still new m m.allowed f i);
      }

-- with ids and debts
pub record UsableSound (w : World) : Type 0 where
  pub sound : IsSound w
  pub areas : AreasUsable w

pub keeps_usable : {A : Type 0} → (at : ℕ) (w : World) (e : Event A) (answer : Reply) → refusal w e ≡ None
    → Answers w e answer → UsableSound w → UsableSound (changed at w e answer)
keeps_usable at w e answer none answers u = record {
  sound = keeps_sound at w e answer none answers u.sound;
  areas = usable_keeps at w e answer none answers u.sound u.areas;
}

pub tabled_usable : (w : World) (taken given : List FrameNo) → UsableSound w → UsableSound (with_tables taken given w)
unfolding with_tables
tabled_usable w taken given u = record {
  sound = tabled_sound w taken given u.sound;
  areas = record { usable = u.areas.usable; ranges = u.areas.ranges };
}

pub opening_usable : (settings : Settings) → UsableSound (opening settings)
opening_usable settings = record {
  sound = record {
    own_ids = refl;
    debts = record {
      once = refl;
      debtors = refl;
      tables = refl;
      spaces = refl;
      areas = refl;
    };
  };
  areas = record { usable = refl; ranges = λ file ioas. refl };
}
