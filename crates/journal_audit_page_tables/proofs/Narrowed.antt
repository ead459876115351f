-- What an address space can't use, by the widths of its page tables and by devices.
use Rattle.std.proofs.Common.{◌≡◌, Bool, true, false, ◌&&◌, ◌||◌, eqb, Option, Some, List, [], ◌∷◌, ◌++◌, map}
use Rattle.std.proofs.Common.{refl, sym, ap, ◌∙◌}
use Rattle.std.specs.List.{filter, list_any}
use Rattle.std.proofs.lemmas.List.Folds.{list_any-append}
use Rattle.iofd_rows.proofs.Bools.{or_none}
use Rattle.iofd_rows.proofs.ListTests.{any-filter}
use Rattle.iofd_rows.proofs.Unusable.{by_rows}
use Rattle.iofd_rows.specs.Reached.{ends_in, keeps_of}
use Rattle.iofd_words.specs.Allowed.{allowed_of}
use Rattle.iofd_words.specs.Areas.{areas_of}
use Rattle.iofd_words.specs.Attachments.{is_attached_to}
use Rattle.iofd_words.specs.Bounds.{Bounds}
use Rattle.iofd_refusals.specs.Checks.{narrows, narrows_by_width}
use Rattle.iofd_words.specs.Files.{device_of}
use Rattle.iofd_words.specs.Objects.{is_hwpt_over, settings_under}
use Rattle.iofd_words.specs.Ranges.{meets_some}
use Rattle.iofd_words.specs.Settings.{DeviceSettings, Settings}
use Rattle.iofd_words.specs.Span.{meets}
use Rattle.iofd_words.specs.Usable.{beyond, beyond_table, reserved_by, reserved_of, unusable}
use Rattle.iofd_words.specs.View.{view}
use Rattle.iofd_words.specs.World.{World}
use Rattle.iofd_words.specs.declared.numbers.DeviceNo.{DeviceNo}
use Rattle.iofd_words.specs.declared.numbers.FileNo.{FileNo}
use Rattle.iofd_words.specs.declared.numbers.ObjId.{ObjId}
use Rattle.iofd_words.specs.declared.rows.Area.{Area}
use Rattle.iofd_words.specs.declared.rows.Attachment.{Attachment}
use Rattle.iofd_words.specs.declared.rows.Object.{Object}
use Rattle.iofd_words.specs.declared.rows.ObjectKind.{ObjectKind}
use Rattle.iofd_words.specs.declared.rows.ObjectKind.TheVariants as kind
use Rattle.iofd_words.specs.declared.width.Width.{Width}
use Rattle.iofd_words.specs.declared.width.Width.TheVariants.{Bits39, Bits48, Bits57}
use Rattle.journal_audit_page_tables.specs.Unusable.{Unusable, is_of_width, is_table, meets_unusable}
use Rattle.journal_audit_page_tables.specs.Unusable.{with_attached, with_width}
use Rattle.journal_audit_page_tables.specs.Widths.{width_set}
use Rattle.journal_audit_page_tables.proofs.SetWidths.{set_for}
use Rattle.journal_audit_world.proofs.Swapped.{any_alike, any_or}

-- ---- tests of lists

any-map : {X Y : Type 0} (p : Y → Bool) (f : X → Y) (xs : List X) → list_any p (map f xs) ≡ list_any (λ x. p (f x)) xs
any-map p f [] = refl
any-map p f (x ∷ xs) = ap (λ b. p (f x) || b) (any-map p f xs)

any_both : {X : Type 0} (t : X → Bool) (m : Bool) (xs : List X) → list_any (λ x. t x && m) xs ≡ (list_any t xs && m)
any_both t m [] = refl
any_both t m (x ∷ xs) = ap (λ b. (t x && m) || b) (any_both t m xs) ∙ apart (t x) m (list_any t xs)
  where
    apart : (a m b : Bool) → ((a && m) || (b && m)) ≡ ((a || b) && m)
    apart true true b = refl
    apart true false true = refl
    apart true false false = refl
    apart false m b = refl

-- ---- by the rows of the world

module _ (settings : Settings) (objects : List Object) (attachments : List Attachment) (file : FileNo) (ioas : ObjId)
    (range : Bounds) where
  ends_by_width : (k : ObjectKind) (named : Bool)
      → ((named && is_hwpt_over ioas k) && meets_some (beyond_table k) range)
      ≡ ((((named && is_hwpt_over ioas k) && is_of_width Bits39 k) && meets (beyond Bits39) range)
      || ((((named && is_hwpt_over ioas k) && is_of_width Bits48 k) && meets (beyond Bits48) range)
      || (((named && is_hwpt_over ioas k) && is_of_width Bits57 k) && meets (beyond Bits57) range)))
  ends_by_width kind.Ioas true = refl
  ends_by_width kind.Ioas false = refl
  ends_by_width (kind.Hwpt over Bits39 automatic) named =
      narrow (named && eqb over.0 ioas.0) (meets (beyond Bits39) range) (meets (beyond Bits48) range)
      (meets (beyond Bits57) range)
    where
      narrow : (a l m n : Bool) → (a && (l || false)) ≡ (((a && true) && l) || (((a && false) && m) || ((a && false) && n)))
      narrow true l m n = refl
      narrow false l m n = refl
  ends_by_width (kind.Hwpt over Bits48 automatic) named =
      wide (named && eqb over.0 ioas.0) (meets (beyond Bits39) range) (meets (beyond Bits48) range)
      (meets (beyond Bits57) range)
    where
      wide : (a l m n : Bool) → (a && (m || false)) ≡ (((a && false) && l) || (((a && true) && m) || ((a && false) && n)))
      wide true l m n = refl
      wide false l m n = refl
  ends_by_width (kind.Hwpt over Bits57 automatic) named =
      widest (named && eqb over.0 ioas.0) (meets (beyond Bits39) range) (meets (beyond Bits48) range)
      (meets (beyond Bits57) range)
    where
      widest : (a l m n : Bool) → (a && (n || false)) ≡ (((a && false) && l) || (((a && false) && m) || ((a && true) && n)))
      widest true l m n = or_none n
      widest false l m n = refl
  ends_by_width (kind.Device device) true = refl
  ends_by_width (kind.Device device) false = refl
  ends_by_width (kind.Access attached) true = refl
  ends_by_width (kind.Access attached) false = refl

  -- some object is a page table of this width over the address space, and the range is beyond what it translates
  abbrev ends_at : Width → Object → Bool
  ends_at width o = is_table file ioas width o && meets (beyond width) range

  abbrev one_ends : Width → Bool
  one_ends width = list_any (is_table file ioas width) objects && meets (beyond width) range

  tables_end : list_any (ends_in file ioas range) objects ≡ (one_ends Bits39 || (one_ends Bits48 || one_ends Bits57))
  tables_end =
      any_alike (ends_in file ioas range) (λ (o : Object). ends_at Bits39 o || (ends_at Bits48 o || ends_at Bits57 o))
      objects (λ o. ends_by_width o.kind (eqb o.file.0 file.0))
      ∙ any_or (ends_at Bits39) (λ (o : Object). ends_at Bits48 o || ends_at Bits57 o) objects
      ∙ ap (λ b. list_any (ends_at Bits39) objects || b) (any_or (ends_at Bits48) (ends_at Bits57) objects)
      ∙ ap (λ b. b || (list_any (ends_at Bits48) objects || list_any (ends_at Bits57) objects))
      (any_both (is_table file ioas Bits39) (meets (beyond Bits39) range) objects)
      ∙ ap (λ b. one_ends Bits39 || (b || list_any (ends_at Bits57) objects))
      (any_both (is_table file ioas Bits48) (meets (beyond Bits48) range) objects)
      ∙ ap (λ b. one_ends Bits39 || (one_ends Bits48 || b))
      (any_both (is_table file ioas Bits57) (meets (beyond Bits57) range) objects)

  devices_keep : list_any (keeps_of settings objects file ioas range) attachments
      ≡ list_any (λ (d : DeviceNo). meets_some (reserved_of (device_of settings d)) range)
      (map (λ (a : Attachment). a.device) (filter (is_attached_to objects file ioas) attachments))
  devices_keep =
      sym (any-map (λ (d : DeviceNo). meets_some (reserved_of (device_of settings d)) range)
      (λ (a : Attachment). a.device) (filter (is_attached_to objects file ioas) attachments)
      ∙ any-filter (λ (a : Attachment). meets_some (reserved_of (device_of settings a.device)) range)
      (is_attached_to objects file ioas) attachments)

  pub unusable_is : (narrow wide widest : Bool) (devices : List DeviceNo)
      → narrow ≡ list_any (is_table file ioas Bits39) objects
      → wide ≡ list_any (is_table file ioas Bits48) objects
      → widest ≡ list_any (is_table file ioas Bits57) objects
      → devices ≡ map (λ (a : Attachment). a.device) (filter (is_attached_to objects file ioas) attachments)
      → meets_unusable settings (record { narrow = narrow; wide = wide; widest = widest; devices = devices }) range
      ≡ meets_some (unusable settings objects attachments file ioas) range
  unusable_is narrow wide widest devices n w x d =
      rw (n, w, x, d) (apart (one_ends Bits39) (one_ends Bits48) (one_ends Bits57)
      (list_any (λ (d : DeviceNo). meets_some (reserved_of (device_of settings d)) range)
      (map (λ (a : Attachment). a.device) (filter (is_attached_to objects file ioas) attachments)))
      ∙ ap (λ b. b || list_any (λ (d : DeviceNo). meets_some (reserved_of (device_of settings d)) range)
      (map (λ (a : Attachment). a.device) (filter (is_attached_to objects file ioas) attachments))) (sym tables_end)
      ∙ ap (λ b. list_any (ends_in file ioas range) objects || b) (sym devices_keep)
      ∙ sym (by_rows settings objects attachments file ioas range))
    where
      apart : (a b c d : Bool) → (a || (b || (c || d))) ≡ ((a || (b || c)) || d)
      apart true b c d = refl
      apart false true c d = refl
      apart false false c d = refl

-- ---- with a page table, and a device, more

module _ (settings : Settings) (told : Unusable) (range : Bounds) where
  meets_by_width : (width : Width) → meets_unusable settings (with_width width told) range
      ≡ (meets (beyond width) range || meets_unusable settings told range)
  meets_by_width Bits39 = table told.narrow (meets (beyond Bits39) range) _
    where
      table : (n m c : Bool) → ((true && m) || c) ≡ (m || ((n && m) || c))
      table n true c = refl
      table true false c = refl
      table false false c = refl
  meets_by_width Bits48 = table told.wide (meets (beyond Bits48) range) (told.narrow && meets (beyond Bits39) range) _
    where
      table : (w m a c : Bool) → (a || ((true && m) || c)) ≡ (m || (a || ((w && m) || c)))
      table w true true c = refl
      table w true false c = refl
      table true false a c = refl
      table false false a c = refl
  meets_by_width Bits57 =
      table told.widest (meets (beyond Bits57) range) (told.narrow && meets (beyond Bits39) range)
      (told.wide && meets (beyond Bits48) range) _
    where
      table : (w m a b c : Bool) → (a || (b || ((true && m) || c))) ≡ (m || (a || (b || ((w && m) || c))))
      table w true true b c = refl
      table w false true b c = refl
      table w true false true c = refl
      table w false false true c = refl
      table w true false false c = refl
      table true false false false c = refl
      table false false false false c = refl

  meets_by_device : (device : DeviceNo) → meets_unusable settings (with_attached device told) range
      ≡ (meets_some (reserved_of (device_of settings device)) range || meets_unusable settings told range)
  meets_by_device device =
      ap (λ b. (told.narrow && meets (beyond Bits39) range)
      || ((told.wide && meets (beyond Bits48) range) || ((told.widest && meets (beyond Bits57) range) || b)))
      (list_any-append (λ (d : DeviceNo). meets_some (reserved_of (device_of settings d)) range) told.devices
      (device ∷ []))
      ∙ table (told.narrow && meets (beyond Bits39) range) (told.wide && meets (beyond Bits48) range)
      (told.widest && meets (beyond Bits57) range)
      (list_any (λ (d : DeviceNo). meets_some (reserved_of (device_of settings d)) range) told.devices)
      (meets_some (reserved_of (device_of settings device)) range)
    where
      table : (a b c d k : Bool) → (a || (b || (c || (d || (k || false))))) ≡ (k || (a || (b || (c || d))))
      table true b c d true = refl
      table true b c d false = refl
      table false true c d true = refl
      table false true c d false = refl
      table false false true d true = refl
      table false false true d false = refl
      table false false false true true = refl
      table false false false true false = refl
      table false false false false true = refl
      table false false false false false = refl

-- ---- all areas and allowed ranges

module _ (settings : Settings) (others : List Bounds) (old new : Unusable) (width : Width) (ranges : List Bounds)
    (is : (range : Bounds) → meets_unusable settings old range ≡ meets_some others range) where
  outside_with_width : new ≡ with_width width old
      → list_any (meets_unusable settings new) ranges ≡ list_any (meets_some ((beyond width ∷ []) ++ others)) ranges
  outside_with_width new_is =
      any_alike (meets_unusable settings new) (meets_some ((beyond width ∷ []) ++ others)) ranges
      (λ range. ap (λ (told : Unusable). meets_unusable settings told range) new_is
      ∙ meets_by_width settings old range width
      ∙ ap (λ b. meets (beyond width) range || b) (is range))

  outside_with_device : (mid : Unusable) (device : DeviceNo) (d : DeviceSettings) → mid ≡ with_width width old
      → new ≡ with_attached device mid → device_of settings device ≡ Some d
      → list_any (meets_unusable settings new) ranges
      ≡ list_any (meets_some ((beyond width ∷ reserved_by d) ++ others)) ranges
  outside_with_device mid device d mid_is new_is found =
      any_alike (meets_unusable settings new) (meets_some ((beyond width ∷ reserved_by d) ++ others)) ranges
      (λ range. ap (λ (told : Unusable). meets_unusable settings told range) new_is
      ∙ meets_by_device settings mid range device
      ∙ ap (λ (o : Option DeviceSettings). meets_some (reserved_of o) range || meets_unusable settings mid range) found
      ∙ ap (λ b. meets_some (reserved_by d) range || b)
      (ap (λ (told : Unusable). meets_unusable settings told range) mid_is
      ∙ meets_by_width settings old range width ∙ ap (λ b. meets (beyond width) range || b) (is range))
      ∙ swapped (meets_some (reserved_by d) range) (meets (beyond width) range) (meets_some others range)
      ∙ ap (λ b. meets (beyond width) range || b)
      (sym (list_any-append (λ (one : Bounds). meets one range) (reserved_by d) others)))
    where
      swapped : (a b c : Bool) → (a || (b || c)) ≡ (b || (a || c))
      swapped true true c = refl
      swapped true false c = refl
      swapped false b c = refl

pub both_outside : (settings : Settings) (told : Unusable) (areas : List Area) (allowed : List Bounds) (a b : Bool)
    → a ≡ list_any (λ (area : Area). meets_unusable settings told area.span) areas
    → b ≡ list_any (meets_unusable settings told) allowed
    → (a || b) ≡ list_any (meets_unusable settings told) (map (λ (area : Area). area.span) areas ++ allowed)
both_outside settings told areas allowed a b first second =
    ap (λ t. t || b) (first ∙ sym (any-map (meets_unusable settings told) (λ (area : Area). area.span) areas))
    ∙ ap (λ t. list_any (meets_unusable settings told) (map (λ (area : Area). area.span) areas) || t) second
    ∙ sym (list_any-append (meets_unusable settings told) (map (λ (area : Area). area.span) areas) allowed)

-- ---- what the table asks

module _ (w : World) (file : FileNo) (ioas : ObjId) (old : Unusable) (width : Width) (b : Bool)
    (is : (range : Bounds) → meets_unusable w.settings old range
    ≡ meets_some (unusable w.settings w.objects w.attachments file ioas) range) where
  abbrev others : List Bounds
  others = unusable w.settings w.objects w.attachments file ioas

  abbrev ranges : List Bounds
  ranges = map (λ (area : Area). area.span) (areas_of w.areas file ioas) ++ allowed_of w.allowed file ioas

  pub narrowed_by_width : (new : Unusable) (id : ObjId)
      → width_set (settings_under w.settings w.objects file id) ≡ Some width → new ≡ with_width width old
      → b ≡ list_any (meets_unusable w.settings new) ranges
      → b ≡ narrows_by_width (view w) file ioas (settings_under w.settings w.objects file id)
  narrowed_by_width new id wide new_is told =
      let (d, found, same) = set_for (settings_under w.settings w.objects file id) width wide in
      told ∙ outside_with_width w.settings others old new width ranges is new_is
      ∙ ap (λ (x : Width). list_any (meets_some ((beyond x ∷ []) ++ others)) ranges) (sym same)
      ∙ ap (λ (o : Option DeviceSettings). narrows_by_width (view w) file ioas o) (sym found)

  pub narrowed : (mid new : Unusable) (device : DeviceNo)
      → width_set (device_of w.settings device) ≡ Some width → mid ≡ with_width width old
      → new ≡ with_attached device mid → b ≡ list_any (meets_unusable w.settings new) ranges
      → b ≡ narrows (view w) file ioas (device_of w.settings device)
  narrowed mid new device wide mid_is new_is told =
      let (d, found, same) = set_for (device_of w.settings device) width wide in
      told ∙ outside_with_device w.settings others old new width ranges is mid device d mid_is new_is found
      ∙ ap (λ (x : Width). list_any (meets_some ((beyond x ∷ reserved_by d) ++ others)) ranges) (sym same)
      ∙ ap (λ (o : Option DeviceSettings). narrows (view w) file ioas o) (sym found)
