-- The tables that are missing after an event: those that are needed for what came with it.
use Rattle.std.proofs.Common.{◌≡◌, ℕ, ◌+◌, ◌-◌, ◌/◌, zero, suc, Bool, true, false, cond, ◌&&◌, eqb, Option, Some}
use Rattle.std.proofs.Common.{None, List, [], ◌∷◌, is_none, is_some, map, refl, sym, ap, subst, ◌∙◌, arith}
use Rattle.std.specs.List.{list_all, range_with_len}
use Rattle.std.proofs.lemmas.Bool.Decides.{nat_tests}
use Rattle.iofd_rows.proofs.Bools.{and_true, both_true}
use Rattle.iofd_rows.proofs.Named.{file_is}
use Rattle.iofd_runs.proofs.Branches.{by_found, by_target}
use Rattle.iofd_runs.proofs.MissingTables.{all_needed, has_needed, needed_places, none_lacking}
use Rattle.iofd_runs.proofs.NotRefused.{copy_passed, map_passed, passes}
use Rattle.iofd_runs.proofs.StillTabled.{hwpts_same, live_paid, none_after, still_none_missing}
use Rattle.iofd_runs.proofs.TableCounts.{lacking_mapped, missing_with_object, pages_stay}
use Rattle.iofd_steps.specs.After.{attached, changed, joined, made_hwpt, map_changes, copy_changes, hwpt_changes}
use Rattle.iofd_steps.specs.After.{mapped_area, settle, with_hwpt}
use Rattle.iofd_steps.specs.Answers.{Answers}
use Rattle.iofd_words.specs.Areas.{all_paid, areas_of, is_of, with_area}
use Rattle.iofd_refusals.specs.Checks.{refusal}
use Rattle.iofd_words.specs.Copies.{placed_as, source_in}
use Rattle.iofd_words.specs.Files.{device_of, user_of}
use Rattle.iofd_words.specs.Objects.{automatic_hwpt, binding_of, has_ioas, is_ioas, kind_of, settings_under}
use Rattle.iofd_words.specs.Settings.{DeviceSettings}
use Rattle.iofd_words.specs.Span.{span_from}
use Rattle.iofd_words.specs.Pages.{page_of}
use Rattle.iofd_words.specs.TablePlaces.{has_table, is_live, lacking, live_pages, pages_in, places_of}
use Rattle.iofd_words.specs.Tables.{missing_of, missing_tables}
use Rattle.iofd_words.specs.View.{view}
use Rattle.iofd_words.specs.World.{World}
use Rattle.iofd_words.specs.declared.event.Event.{Event}
use Rattle.iofd_words.specs.declared.event.Event.TheVariants as event
use Rattle.iofd_words.specs.declared.numbers.DeviceNo.{DeviceNo}
use Rattle.iofd_words.specs.declared.numbers.FileNo.{FileNo}
use Rattle.iofd_words.specs.declared.numbers.Iova.{Iova}
use Rattle.iofd_words.specs.declared.numbers.ObjId.{ObjId}
use Rattle.iofd_words.specs.declared.numbers.UserNo.{UserNo}
use Rattle.iofd_words.specs.declared.reply.Reply.{Reply}
use Rattle.iofd_words.specs.declared.reply.Reply.TheVariants as reply
use Rattle.iofd_words.specs.declared.rows.Area.{Area}
use Rattle.iofd_words.specs.declared.rows.Object.{Object}
use Rattle.iofd_words.specs.declared.rows.ObjectKind.{ObjectKind}
use Rattle.iofd_words.specs.declared.rows.ObjectKind.TheVariants as kind
use Rattle.iofd_words.specs.declared.rows.TableFrame.{TableFrame}
use Rattle.iofd_words.specs.declared.width.Width.{Width}
use Rattle.journal_audit_tables.specs.Coming.{attached_as, attached_to, coming_with, made_for, missing_with}
use Rattle.journal_audit_tables.specs.Missing.{missing_at, missing_by, missing_of_object, missing_over}
use Rattle.journal_audit_tables.specs.declared.coming.Coming.{Coming}
use Rattle.journal_audit_tables.specs.declared.coming.Coming.TheVariants as coming
use Rattle.journal_audit_world.specs.Kept.{IsKept}

-- ---- an area that comes

module _ (areas : List Area) (tables : List TableFrame) (area : Area) (live : is_live area.phase ≡ true) where
  -- of one object
  of_object : (o : Object) → has_needed areas tables o ≡ true
      → missing_of (with_area area areas) tables o
      ≡ missing_of_object tables area.file area.ioas (pages_in area.span) o
  of_object o has = by_kind o.kind refl has
    where
      flip : (m n : ℕ) → eqb m n ≡ eqb n m
      flip m n = grind (arith, nat_tests)

      by_space : (ioas : ObjId) (width : Width) (a b : Bool) → eqb o.file.0 area.file.0 ≡ a → eqb ioas.0 area.ioas.0 ≡ b
          → list_all (has_table tables o.file o.id) (places_of width (live_pages (areas_of areas o.file ioas))) ≡ true
          → map (missing_at o.file o.id) (lacking (has_table tables o.file o.id)
          (places_of width (live_pages (areas_of (with_area area areas) o.file ioas))))
          ≡ missing_by tables area.file o.id (pages_in area.span) (cond a (cond b (Some width) None) None)
      by_space ioas width true true of over all =
          ap (map (missing_at o.file o.id)) (lacking_mapped o.file ioas (has_table tables o.file o.id) width area areas
          (both_true _ _ (sym (flip o.file.0 area.file.0) ∙ of) (sym (flip ioas.0 area.ioas.0) ∙ over)) live all)
          ∙ ap (λ (f : FileNo). map (missing_at f o.id) (lacking (has_table tables f o.id)
          (places_of width (pages_in area.span)))) (file_is o.file area.file of)
      by_space ioas width true false of over all =
          other ioas width (rw (← flip o.file.0 area.file.0, of, ← flip ioas.0 area.ioas.0, over) refl) all
        where
          other : (ioas : ObjId) (width : Width) → is_of o.file ioas area ≡ false
              → list_all (has_table tables o.file o.id) (places_of width (live_pages (areas_of areas o.file ioas)))
              ≡ true
              → map (missing_at o.file o.id) (lacking (has_table tables o.file o.id)
              (places_of width (live_pages (areas_of (with_area area areas) o.file ioas)))) ≡ []
          other ioas width of all =
              ap (λ ps. map (missing_at o.file o.id) (lacking (has_table tables o.file o.id) (places_of width ps)))
              (pages_stay o.file ioas area areas of)
              ∙ ap (map (missing_at o.file o.id)) (none_lacking (has_table tables o.file o.id)
              (places_of width (live_pages (areas_of areas o.file ioas))) all)
      by_space ioas width false b of over all =
          other ioas width (rw (← flip o.file.0 area.file.0, of) refl) all
        where
          other : (ioas : ObjId) (width : Width) → is_of o.file ioas area ≡ false
              → list_all (has_table tables o.file o.id) (places_of width (live_pages (areas_of areas o.file ioas)))
              ≡ true
              → map (missing_at o.file o.id) (lacking (has_table tables o.file o.id)
              (places_of width (live_pages (areas_of (with_area area areas) o.file ioas)))) ≡ []
          other ioas width of all =
              ap (λ ps. map (missing_at o.file o.id) (lacking (has_table tables o.file o.id) (places_of width ps)))
              (pages_stay o.file ioas area areas of)
              ∙ ap (map (missing_at o.file o.id)) (none_lacking (has_table tables o.file o.id)
              (places_of width (live_pages (areas_of areas o.file ioas))) all)

      no_width : (a : Bool) → cond a (let none : Option Width = None in none) None ≡ None
      no_width true = refl
      no_width false = refl

      by_kind : (k : ObjectKind) → o.kind ≡ k
          → list_all (has_table tables o.file o.id) (needed_places areas o.file o.kind) ≡ true
          → missing_of (with_area area areas) tables o
          ≡ missing_of_object tables area.file area.ioas (pages_in area.span) o
      by_kind kind.Ioas is all =
          rw is (ap (missing_by tables area.file o.id (pages_in area.span)) (sym (no_width (eqb o.file.0 area.file.0))))
      by_kind (kind.Device device) is all =
          rw is (ap (missing_by tables area.file o.id (pages_in area.span)) (sym (no_width (eqb o.file.0 area.file.0))))
      by_kind (kind.Access attached) is all =
          rw is (ap (missing_by tables area.file o.id (pages_in area.span)) (sym (no_width (eqb o.file.0 area.file.0))))
      by_kind (kind.Hwpt ioas width automatic) is all =
          rw is (by_space ioas width (eqb o.file.0 area.file.0) (eqb ioas.0 area.ioas.0) refl refl (rw is at all))

  pub missing_mapped : (objects : List Object) → list_all (has_needed areas tables) objects ≡ true
      → missing_tables objects (with_area area areas) tables
      ≡ missing_over tables area.file area.ioas (pages_in area.span) objects
  missing_mapped [] all = refl
  missing_mapped (o ∷ objects) all =
      let parts = and_true (has_needed areas tables o) (list_all (has_needed areas tables) objects) all in
      rw (of_object o parts.0, missing_mapped objects parts.1) refl

-- the pages of a span from an address on
pages_from : (first length : ℕ)
    → pages_in (span_from first length) ≡ range_with_len (page_of first) (length / 4096)
pages_from first zero = ap (range_with_len (page_of first)) (none first)
  where
    none : (n : ℕ) → ((n + 0 - 1) + 1 - n) / 4096 ≡ 0 / 4096
    none zero = refl
    none (suc n) = let same : (suc n + 0 - 1) + 1 - suc n ≡ 0 = omega arith in ap (λ m. m / 4096) same
pages_from first (suc length) =
    let same : (first + suc length - 1) + 1 - first ≡ suc length = omega arith in
    ap (λ n. range_with_len (page_of first) (n / 4096)) same

-- ---- what an attachment makes

-- nothing but in an address space
comes_none : (objects : List Object) (file : FileNo) (pt_id id : ObjId) (width : Width)
    → has_ioas objects file pt_id ≡ false → attached_to objects file pt_id id width ≡ coming.Nothing
comes_none objects file pt_id id width none =
    ap (λ (b : Bool). cond (b && is_none (automatic_hwpt objects file pt_id width))
    (coming.PageTable file id pt_id width) coming.Nothing) none

-- and there a page table, if there is no automatic one of the width
comes_so : (objects : List Object) (file : FileNo) (pt_id id : ObjId) (width : Width) (o : Option Object)
    → kind_of objects file pt_id ≡ Some kind.Ioas → automatic_hwpt objects file pt_id width ≡ o
    → attached_to objects file pt_id id width ≡ cond (is_none o) (coming.PageTable file id pt_id width) coming.Nothing
comes_so objects file pt_id id width o named is =
    let space : has_ioas objects file pt_id ≡ true =
    ap (λ (o : Option ObjectKind). elim o [ Some kind ↦ is_ioas kind | None ↦ false ]) named in
    ap (λ (b : Bool). cond (b && is_none (automatic_hwpt objects file pt_id width))
    (coming.PageTable file id pt_id width) coming.Nothing) space
    ∙ ap (λ (o : Option Object). cond (is_none o) (coming.PageTable file id pt_id width) coming.Nothing) is

-- ---- after an event

module _ (at : ℕ) (w : World) (kept : IsKept at w) where
  needed : missing_tables w.objects w.areas w.table_frames ≡ []
  needed = kept.tabled.needed

  area_missing : (number : ℕ) (file : FileNo) (ioas : ObjId) (iova : Iova) (length : ℕ) (area : Area)
      → area.file ≡ file → area.ioas ≡ ioas → area.span ≡ span_from iova.0 length → is_live area.phase ≡ true
      → missing_tables w.objects (with_area area w.areas) w.table_frames
      ≡ missing_over w.table_frames file ioas (range_with_len (page_of iova.0) (length / 4096)) w.objects
  area_missing number file ioas iova length area of_file of_ioas of_span live =
      missing_mapped w.areas w.table_frames area live w.objects (all_needed w.objects w.areas w.table_frames needed)
      ∙ rw (of_file, of_ioas, of_span, pages_from iova.0 length) refl

  -- flushes change nothing
  paid_needed : (device : DeviceNo) → missing_tables w.objects (all_paid device w.areas) w.table_frames ≡ []
  paid_needed device =
      still_none_missing w.objects w.objects w.areas (all_paid device w.areas) w.table_frames (hwpts_same w.objects)
      (live_paid device w.areas) needed

  pub missing_left : {A : Type 0} (e : Event A) (answer : Reply) → refusal w e ≡ None → Answers w e answer
      → missing_tables (changed at w e answer).objects (changed at w e answer).areas w.table_frames
      ≡ missing_with (coming_with w e answer) (changed at w e answer).objects (changed at w e answer).areas
      w.table_frames
  unfolding changed settle attached joined Answers
  missing_left {A = A} (event.Map file request) (reply.Iova iova) none answers =
      by_user (user_of w.settings file)
      (and_true (is_some (user_of w.settings file)) _
      (map_passed (view w) file request (passes {A = A} w (event.Map file request) none)).opened).0
    where
      by_user : (o : Option UserNo) → is_some o ≡ true
          → missing_tables (map_changes at w file request iova o).objects (map_changes at w file request iova o).areas
          w.table_frames
          ≡ missing_over w.table_frames file request.ioas
          (range_with_len (page_of iova.0) (request.length / 4096)) (map_changes at w file request iova o).objects
      by_user None is = cc
      by_user (Some user) is =
          area_missing at file request.ioas iova request.length (mapped_area at file request iova) refl refl refl refl
  missing_left (event.Map file request) answer none answers = absurd answers
  missing_left {A = A} (event.Copy file request) (reply.Iova iova) none answers =
      by_source (source_in (areas_of w.areas file request.src_ioas) request)
      (copy_passed (view w) file request (passes {A = A} w (event.Copy file request) none)).found
    where
      by_source : (o : Option Area) → is_none o ≡ false
          → missing_tables (copy_changes w file request iova o).objects (copy_changes w file request iova o).areas
          w.table_frames
          ≡ missing_over w.table_frames file request.dst_ioas
          (range_with_len (page_of iova.0) (request.length / 4096)) (copy_changes w file request iova o).objects
      by_source None is = cc
      by_source (Some source) is =
          area_missing source.memory file request.dst_ioas iova request.length
          (mapped_area source.memory file (placed_as request) iova) refl refl refl refl
  missing_left (event.Copy file request) answer none answers = absurd answers
  missing_left (event.HwptAlloc file request) (reply.Id id) none answers =
      by_found (λ o. missing_tables (hwpt_changes w file request.ioas id o).objects
      (hwpt_changes w file request.ioas id o).areas w.table_frames
      ≡ missing_with (made_for file id request.ioas o) (hwpt_changes w file request.ioas id o).objects
      (hwpt_changes w file request.ioas id o).areas w.table_frames)
      (settings_under w.settings w.objects file request.device) needed
      (λ settings is. missing_with_object (made_hwpt file request.ioas id settings) w.objects w.areas w.table_frames
      needed)
  missing_left (event.HwptAlloc file request) answer none answers = absurd answers
  missing_left (event.Attach device pt_id) (reply.Id id) none answers =
      by_target w device pt_id id (λ new. missing_tables new.objects new.areas w.table_frames
      ≡ missing_with (attached_as w.objects pt_id id (binding_of w.objects device) (device_of w.settings device))
      new.objects new.areas w.table_frames)
      (λ never. absurd (never answers))
      (λ bound settings of known named here. rw (of, known) (to_space bound settings named
      (automatic_hwpt w.objects bound.file pt_id settings.width) refl))
      (λ bound settings ioas width automatic of known named here. rw (of, known)
      (subst (λ (c : Coming). missing_tables w.objects (all_paid device w.areas) w.table_frames
      ≡ missing_with c w.objects (all_paid device w.areas) w.table_frames)
      (sym (comes_none w.objects bound.file pt_id id settings.width
      (ap (λ (o : Option ObjectKind). elim o [ Some kind ↦ is_ioas kind | None ↦ false ]) named)))
      (paid_needed device)))
    where
      to_space : (bound : Object) (settings : DeviceSettings)
          → kind_of w.objects bound.file pt_id ≡ Some kind.Ioas
          → (o : Option Object) → automatic_hwpt w.objects bound.file pt_id settings.width ≡ o
          → missing_tables
          (with_hwpt bound.file pt_id id settings.width
          (automatic_hwpt w.objects bound.file pt_id settings.width) w.objects) (all_paid device w.areas) w.table_frames
          ≡ missing_with (attached_to w.objects bound.file pt_id id settings.width)
          (with_hwpt bound.file pt_id id settings.width
          (automatic_hwpt w.objects bound.file pt_id settings.width) w.objects) (all_paid device w.areas) w.table_frames
      to_space bound settings named (Some automatic) is =
          subst (λ (c : Coming). missing_tables
          (with_hwpt bound.file pt_id id settings.width
          (automatic_hwpt w.objects bound.file pt_id settings.width) w.objects) (all_paid device w.areas) w.table_frames
          ≡ missing_with c
          (with_hwpt bound.file pt_id id settings.width
          (automatic_hwpt w.objects bound.file pt_id settings.width) w.objects)
          (all_paid device w.areas) w.table_frames)
          (sym (comes_so w.objects bound.file pt_id id settings.width (Some automatic) named is))
          (rw is (paid_needed device))
      to_space bound settings named None is =
          subst (λ (c : Coming). missing_tables
          (with_hwpt bound.file pt_id id settings.width
          (automatic_hwpt w.objects bound.file pt_id settings.width) w.objects) (all_paid device w.areas) w.table_frames
          ≡ missing_with c
          (with_hwpt bound.file pt_id id settings.width
          (automatic_hwpt w.objects bound.file pt_id settings.width) w.objects)
          (all_paid device w.areas) w.table_frames)
          (sym (comes_so w.objects bound.file pt_id id settings.width None named is))
          (rw is (missing_with_object
          (record { file = bound.file; id = id; kind = kind.Hwpt pt_id settings.width true }) w.objects
          (all_paid device w.areas) w.table_frames (paid_needed device)))
  missing_left (event.Attach device pt_id) answer none answers = absurd answers
  missing_left e answer none answers = none_after at w e answer tt needed
