-- Every event that nothing refuses has a lawful record: free frames suffice for the tables that it needs, the least
-- free ones among them, and the frames of the tables of page tables that go are given back by rising number.
use Rattle.std.proofs.Common.{◌≡◌, ℕ, ◌+◌, ◌<◌, ◌≤◌, Bool, true, false, ◌&&◌, ◌||◌, not, eqb, ltb, is_none, is_some}
use Rattle.std.proofs.Common.{Option, Some, None, List, [], length, refl, ap, sym, ◌∙◌, subst, arith}
use Rattle.std.specs.List.{list_all, list_any}
use Rattle.std.proofs.lemmas.Bool.Decides.{nat_tests}
use Rattle.iofd_steps.specs.After.{attached, changed, copy_changes, hwpt_changes, made_hwpt}
use Rattle.iofd_steps.specs.After.{map_changes, mapped_area, settle, with_hwpt}
use Rattle.iofd_steps.specs.Answers.{Answers, IsHwptFor}
use Rattle.iofd_words.specs.Areas.{all_paid, areas_of, with_area}
use Rattle.iofd_refusals.specs.Checks.{lacks_attached_frames, lacks_mapped_frames, lacks_new_tables, mapped_start}
use Rattle.iofd_refusals.specs.Checks.{refusal}
use Rattle.iofd_refusals.specs.Checks.{tables_to_map}
use Rattle.iofd_words.specs.Copies.{placed_as}
use Rattle.iofd_words.specs.Files.{device_of, user_of}
use Rattle.iofd_words.specs.Frames.{free_count, is_free}
use Rattle.iofd_words.specs.Objects.{automatic_hwpt, binding_of, is_fresh, kind_of, settings_under}
use Rattle.iofd_words.specs.Objects.{with_object}
use Rattle.iofd_steps.specs.Run.{IsAnswer, Lawful, MovesFrames}
use Rattle.iofd_words.specs.Record.{Record}
use Rattle.iofd_words.specs.Settings.{DeviceSettings}
use Rattle.iofd_words.specs.Span.{span_from}
use Rattle.iofd_words.specs.TablePlaces.{lacking, live_pages, places_of}
use Rattle.iofd_words.specs.Tables.{MovesTables, is_among, is_orphan, may_go, missing_tables}
use Rattle.iofd_words.specs.View.{view}
use Rattle.iofd_words.specs.World.{World}
use Rattle.iofd_words.specs.declared.event.CopyRequest.{CopyRequest}
use Rattle.iofd_words.specs.declared.event.Event.{Event}
use Rattle.iofd_words.specs.declared.event.Event.TheVariants as event
use Rattle.iofd_words.specs.declared.event.HwptRequest.{HwptRequest}
use Rattle.iofd_words.specs.declared.event.MapRequest.{MapRequest}
use Rattle.iofd_words.specs.declared.numbers.DeviceNo.{DeviceNo}
use Rattle.iofd_words.specs.declared.numbers.FileNo.{FileNo}
use Rattle.iofd_words.specs.declared.numbers.FrameNo.{FrameNo}
use Rattle.iofd_words.specs.declared.numbers.Iova.{Iova}
use Rattle.iofd_words.specs.declared.numbers.ObjId.{ObjId}
use Rattle.iofd_words.specs.declared.numbers.UserNo.{UserNo}
use Rattle.iofd_words.specs.declared.reply.Reply.{Reply}
use Rattle.iofd_words.specs.declared.reply.Reply.TheVariants as reply
use Rattle.iofd_words.specs.declared.rows.Area.{Area}
use Rattle.iofd_words.specs.declared.rows.Object.{Object}
use Rattle.iofd_words.specs.declared.rows.ObjectKind.TheVariants as kind
use Rattle.iofd_words.specs.declared.rows.TableFrame.{TableFrame}
use Rattle.iofd_rows.specs.Ids.{have_own_ids}
use Rattle.iofd_rows.specs.Pinned.{ArePinned}
use Rattle.iofd_rows.proofs.Bools.{and_rest, and_true, both_true, clash, not_false}
use Rattle.iofd_rows.proofs.Each.{IsIn, of_all, of_any, of_each}
use Rattle.iofd_rows.proofs.Found.{all_weaker}
use Rattle.iofd_rows.proofs.ListTests.{any_weaker, false_else, or_left}
use Rattle.iofd_runs.specs.Fits.{RowsFit}
use Rattle.iofd_runs.proofs.CopySource.{source_area}
use Rattle.iofd_runs.proofs.KeepsTabled.{HasTables}
use Rattle.iofd_runs.proofs.MissingTables.{all_needed, is_owned}
use Rattle.iofd_runs.proofs.NotRefused.{attach_passed, copy_passed, hwpt_passed, map_passed}
use Rattle.iofd_runs.proofs.OwnIds.{keeps_own_ids, unused}
use Rattle.iofd_runs.proofs.SameTables.{same_tables}
use Rattle.iofd_runs.proofs.StillTabled.{hwpts_same, live_paid, moves_given, none_after, none_given, still_none_missing}
use Rattle.iofd_runs.proofs.StillTabled.{still_owned}
use Rattle.iofd_runs.proofs.TableEvents.{MakesNone, finds_table, stay_with}
use Rattle.iofd_runs.proofs.TableCounts.{count_mapped, count_new, no_kind, pages_paid}
use Rattle.iofd_laws.proofs.FreeFrames.{frames_that, pick, same_row, some_in, that_has, that_pass, that_rise}
use Rattle.iofd_laws.proofs.SomeAnswer.{map_answer, some_answer}
use Rattle.iofd_laws.specs.Laws.{HasRecord, TablesAlone}
use Rattle.iofd_runs.proofs.Branches.{by_target}

-- frames move as they may, from a world to the one that an event has left
abbrev Moved : {A : Type 0} → World → World → Event A → Reply → Type 0
Moved w left e answer = (taken : List FrameNo) × (given : List FrameNo) × MovesTables w left e answer taken given

no_less : (a b : ℕ) → ltb a b ≡ false → b ≤ a
no_less a b is = search (is, arith, nat_tests)

-- where no page table goes, the least free frames are taken
takes : {A : Type 0} (w left : World) (e : Event A) (answer : Reply) → left.table_frames ≡ w.table_frames
    → list_all (is_owned left.objects) w.table_frames ≡ true
    → length (missing_tables left.objects left.areas w.table_frames) ≤ free_count w.settings.pool w.user_pages w.pins
    w.table_frames → Moved w left e answer
takes w left e answer same owned enough =
    let (frames, picked) = pick (is_free w.settings.pool w.user_pages w.pins w.table_frames) 0 w.settings.pool
    (length (missing_tables left.objects left.areas w.table_frames)) enough in (
      frames,
      [],
      record {
        enough = picked.count ∙ sym (ap length (ap (missing_tables left.objects left.areas)
            (none_given left.table_frames ∙ same)));
        free = picked.pass;
        different = picked.differ;
        gone = all_weaker (is_owned left.objects) (λ table. is_owned left.objects table || is_among [] table.frame)
            w.table_frames (λ table own. or_left (is_owned left.objects table) (is_among [] table.frame) own) owned;
        may = refl;
        rising = refl;
      },
    )

-- where no table is missing, those of page tables that are gone are given back
gives : {A : Type 0} (w left : World) (e : Event A) (answer : Reply) → TablesAlone w → have_own_ids left.objects ≡ true
    → left.table_frames ≡ w.table_frames → missing_tables left.objects left.areas w.table_frames ≡ []
    → Moved w left e answer
gives w left e answer alone own same none = (
  [],
  given,
  moves_given w left e answer given own (ap (missing_tables left.objects left.areas) same ∙ none) same
      (of_all _ w.table_frames gone) (of_all _ w.table_frames only) may (that_rise goes 0 w.settings.pool),
)
  where
    goes : ℕ → Bool
    goes n = list_any (λ (table : TableFrame). eqb table.frame.0 n && is_orphan left.objects table) w.table_frames

    given : List FrameNo
    given = frames_that goes 0 w.settings.pool

    itself : (n : ℕ) → eqb n n ≡ true
    itself n = search (arith, nat_tests)

    gone : (table : TableFrame) → IsIn w.table_frames table
        → (is_owned left.objects table || is_among given table.frame) ≡ true
    gone table within = by_orphan (is_orphan left.objects table) refl
      where
        below : ltb table.frame.0 w.settings.pool ≡ true → table.frame.0 < 0 + w.settings.pool
        below is = search (is, arith, nat_tests)

        by_orphan : (b : Bool) → is_orphan left.objects table ≡ b → (not b || is_among given table.frame) ≡ true
        by_orphan false is = refl
        by_orphan true is =
            that_has goes 0 w.settings.pool table.frame (omega arith)
            (below (of_each (λ (t : TableFrame). ltb t.frame.0 w.settings.pool) w.table_frames
            table alone.pool within))
            (of_any (λ (t : TableFrame). eqb t.frame.0 table.frame.0 && is_orphan left.objects t) w.table_frames table
            within (both_true _ _ (itself table.frame.0) is))

    only : (table : TableFrame) → IsIn w.table_frames table
        → (is_orphan left.objects table || not (is_among given table.frame)) ≡ true
    only table within = by_orphan (is_orphan left.objects table) refl
      where
        never : is_orphan left.objects table ≡ false → is_among given table.frame ≡ true → ⊥
        never stays among =
            let (frame, held, is) = some_in (λ (f : FrameNo). eqb f.0 table.frame.0) given among in
            let (other, other_within, passes) = some_in (λ (t : TableFrame). eqb t.frame.0 frame.0
            && is_orphan left.objects t) w.table_frames (of_each (λ (f : FrameNo). goes f.0) given frame
            (that_pass goes 0 w.settings.pool) held) in
            let parts = and_true (eqb other.frame.0 frame.0) (is_orphan left.objects other) passes in
            let same_frame : eqb other.frame.0 table.frame.0 ≡ true = search (parts.0, is, arith, nat_tests) in
            let one = same_row w.table_frames other table alone.differ other_within within same_frame in
            clash _ stays (ap (is_orphan left.objects) (sym one) ∙ parts.1)

        by_orphan : (b : Bool) → is_orphan left.objects table ≡ b → (b || not (is_among given table.frame)) ≡ true
        by_orphan true is = refl
        by_orphan false is = not_false _ (false_else (is_among given table.frame) (never is))

    may : list_all (λ (frame : FrameNo). list_any (λ (table : TableFrame). eqb table.frame.0 frame.0
        && (is_orphan left.objects table || may_go left e answer table)) w.table_frames) given ≡ true
    may =
        all_weaker (λ (f : FrameNo). goes f.0) _ given
        (λ f is. any_weaker (λ (t : TableFrame). eqb t.frame.0 f.0 && is_orphan left.objects t)
        (λ (t : TableFrame). eqb t.frame.0 f.0 && (is_orphan left.objects t || may_go left e answer t))
        w.table_frames
        (λ t passes. let parts = and_true (eqb t.frame.0 f.0) (is_orphan left.objects t) passes in both_true _ _ parts.0
        (or_left (is_orphan left.objects t) (may_go left e answer t) parts.1)) is)
        (that_pass goes 0 w.settings.pool)

-- ---- what is missing, and owned, where a page table or an area has come

module _ (w : World) (has : HasTables w) where
  pub mapped_tables : (at : ℕ) (file : FileNo) (request : MapRequest) (iova : Iova)
      → length (missing_tables w.objects (with_area (mapped_area at file request iova) w.areas) w.table_frames)
      ≡ tables_to_map (view w) file request.ioas (span_from iova.0 request.length)
  mapped_tables at file request iova = count_mapped (view w) w.areas w.table_frames (mapped_area at file request iova)
      refl (λ f i p. refl) w.objects (all_needed w.objects w.areas w.table_frames has.tables.needed)

  pub made_owned : (file : FileNo) (ioas id : ObjId) (d : DeviceSettings) → is_fresh w.objects file id ≡ true
      → list_all (is_owned (with_object (made_hwpt file ioas id d) w.objects)) w.table_frames ≡ true
  made_owned file ioas id d fresh = still_owned w.objects (with_object (made_hwpt file ioas id d) w.objects)
      w.table_frames (stay_with (made_hwpt file ioas id d) w.objects (unused w.objects file id fresh)) has.tables.owned

  pub made_tables : (file : FileNo) (ioas id : ObjId) (d : DeviceSettings) → is_fresh w.objects file id ≡ true
      → length (missing_tables (with_object (made_hwpt file ioas id d) w.objects) w.areas w.table_frames) ≡ length
      (lacking (λ place. false) (places_of d.width (live_pages (areas_of w.areas file ioas))))
  made_tables file ioas id d fresh = count_new w.objects w.areas w.table_frames file id ioas d.width false
      has.tables.owned (no_kind w.objects file id fresh) has.tables.needed

  module _ (device : DeviceNo) (pt_id id : ObjId) (bound : Object) (d : DeviceSettings)
      (lacks : automatic_hwpt w.objects bound.file pt_id d.width ≡ None)
      (fresh : is_fresh w.objects bound.file id ≡ true) where
    abbrev object : Object
    object = record { file = bound.file; id = id; kind = kind.Hwpt pt_id d.width true }

    objects : with_hwpt bound.file pt_id id d.width (automatic_hwpt w.objects bound.file pt_id d.width)
        w.objects ≡ with_object object w.objects
    objects = ap (λ o. with_hwpt bound.file pt_id id d.width o w.objects) lacks

    pub attached_owned : list_all (is_owned (settle w (attached w device pt_id id bound d)).objects)
        w.table_frames ≡ true
    unfolding settle attached
    attached_owned =
        subst (λ list. list_all (is_owned list) w.table_frames ≡ true) (sym objects)
        (still_owned w.objects (with_object object w.objects) w.table_frames
        (stay_with object w.objects (unused w.objects bound.file id fresh)) has.tables.owned)

    pub attached_tables : length (missing_tables (settle w (attached w device pt_id id bound d)).objects
        (settle w (attached w device pt_id id bound d)).areas w.table_frames)
        ≡ length (lacking (λ place. false) (places_of d.width (live_pages (areas_of w.areas bound.file pt_id))))
    unfolding settle attached
    attached_tables =
        let still = still_none_missing w.objects w.objects w.areas (all_paid device w.areas) w.table_frames
        (hwpts_same w.objects) (live_paid device w.areas) has.tables.needed in
        ap (λ list. length (missing_tables list (all_paid device w.areas) w.table_frames)) objects
        ∙ count_new w.objects (all_paid device w.areas) w.table_frames bound.file id pt_id d.width true has.tables.owned
        (no_kind w.objects bound.file id fresh) still
        ∙ ap (λ pages. length (lacking (λ place. false) (places_of d.width pages)))
        (pages_paid device w.areas bound.file pt_id)

-- ---- the frames of each event

module _ (at : ℕ) (w : World) (has : HasTables w) (alone : TablesAlone w) where
  -- the world stays
  stays : {A : Type 0} (e : Event A) (answer : Reply) → Moved w w e answer
  stays e answer = gives w w e answer alone has.own_ids refl has.tables.needed

  -- an event that makes no page table and no live area
  rest : {A : Type 0} (e : Event A) (answer : Reply) → refusal w e ≡ None → Answers w e answer → MakesNone w e
      → Moved w (changed at w e answer) e answer
  rest e answer none answers makes =
      gives w (changed at w e answer) e answer alone (keeps_own_ids at w e answer none answers has.own_ids)
      (same_tables at w e answer) (none_after at w e answer makes has.tables.needed)

  -- free frames suffice for the tables of one more area, at the fixed address or at the least that may be chosen
  area_frames : (number : ℕ) (file : FileNo) (request : MapRequest) (iova : Iova)
      → lacks_mapped_frames (view w) file request ≡ false → mapped_start (view w) file request ≡ Some iova.0
      → length (missing_tables w.objects (with_area (mapped_area number file request iova) w.areas) w.table_frames)
      ≤ free_count w.settings.pool w.user_pages w.pins w.table_frames
  area_frames number file request iova frames start =
      let lacks : ltb (free_count w.settings.pool w.user_pages w.pins w.table_frames)
      (tables_to_map (view w) file request.ioas (span_from iova.0 request.length)) ≡ false =
      sym (ap (λ (o : Option ℕ). elim o [
        | Some at ↦ ltb (free_count w.settings.pool w.user_pages w.pins w.table_frames)
            (tables_to_map (view w) file request.ioas (span_from at request.length))
        | None ↦ false
      ]) start)
      ∙ frames in
      subst (λ n. n ≤ free_count w.settings.pool w.user_pages w.pins w.table_frames)
      (sym (mapped_tables w has number file request iova)) (no_less _ _ lacks)

  map_moves : {A : Type 0} (file : FileNo) (request : MapRequest) (iova : Iova)
      → refusal {A = A} w (event.Map file request) ≡ None → mapped_start (view w) file request ≡ Some iova.0
      → Moved {A = A} w (changed {A = A} at w (event.Map file request) (reply.Iova iova))
      (event.Map file request) (reply.Iova iova)
  unfolding changed settle
  map_moves {A = A} file request iova none start = by_user (user_of w.settings file)
    where
      by_user : (user : Option UserNo) → Moved {A = A} w (map_changes at w file request iova user)
          (event.Map file request) (reply.Iova iova)
      by_user None = stays {A = A} (event.Map file request) (reply.Iova iova)
      by_user (Some user) =
          takes {A = A} w (map_changes at w file request iova (Some user)) (event.Map file request)
          (reply.Iova iova) refl has.tables.owned
          (area_frames at file request iova (map_passed (view w) file request none).frames start)

  copy_moves : {A : Type 0} (file : FileNo) (request : CopyRequest) (iova : Iova)
      → refusal {A = A} w (event.Copy file request) ≡ None
      → mapped_start (view w) file (placed_as request) ≡ Some iova.0
      → Moved {A = A} w (changed {A = A} at w (event.Copy file request) (reply.Iova iova))
      (event.Copy file request) (reply.Iova iova)
  unfolding changed settle
  copy_moves {A = A} file request iova none start = by_source (source_area w file request)
    where
      by_source : (source : Option Area) → Moved {A = A} w (copy_changes w file request iova source)
          (event.Copy file request) (reply.Iova iova)
      by_source None = stays {A = A} (event.Copy file request) (reply.Iova iova)
      by_source (Some source) =
          takes {A = A} w (copy_changes w file request iova (Some source)) (event.Copy file request)
          (reply.Iova iova) refl has.tables.owned
          (area_frames source.memory file (placed_as request) iova
          (copy_passed (view w) file request none).frames start)

  -- a page table that a HWPT_ALLOC makes
  hwpt_moves : {A : Type 0} (file : FileNo) (request : HwptRequest) (id : ObjId)
      → refusal {A = A} w (event.HwptAlloc file request) ≡ None
      → Answers {A = A} w (event.HwptAlloc file request) (reply.Id id)
      → Moved {A = A} w (changed {A = A} at w (event.HwptAlloc file request) (reply.Id id))
      (event.HwptAlloc file request) (reply.Id id)
  unfolding changed settle Answers
  hwpt_moves {A = A} file request id none answers =
      by_device (settings_under w.settings w.objects file request.device)
      (hwpt_passed (view w) file request none).frames
    where
      by_device : (d : Option DeviceSettings) → lacks_new_tables (view w) file request.ioas d ≡ false
          → Moved {A = A} w (hwpt_changes w file request.ioas id d) (event.HwptAlloc file request) (reply.Id id)
      by_device None frames = stays {A = A} (event.HwptAlloc file request) (reply.Id id)
      by_device (Some d) frames =
          takes {A = A} w (hwpt_changes w file request.ioas id (Some d)) (event.HwptAlloc file request) (reply.Id id)
          refl (made_owned w has file request.ioas id d answers)
          (subst (λ n. n ≤ free_count w.settings.pool w.user_pages w.pins w.table_frames)
          (sym (made_tables w has file request.ioas id d answers)) (no_less _ _ frames))

  -- an attachment, to a page table that is there or to a new one
  attach_moves : {A : Type 0} (device : DeviceNo) (pt_id id : ObjId)
      → refusal {A = A} w (event.Attach device pt_id) ≡ None
      → Answers {A = A} w (event.Attach device pt_id) (reply.Id id)
      → Moved {A = A} w (changed {A = A} at w (event.Attach device pt_id) (reply.Id id))
      (event.Attach device pt_id) (reply.Id id)
  unfolding changed settle attached Answers
  attach_moves {A = A} device pt_id id none answers =
      by_finds (finds_table w.objects pt_id (binding_of w.objects device) (device_of w.settings device)) refl
    where
      new : (bound : Object) (d : DeviceSettings) → binding_of w.objects device ≡ Some bound
          → device_of w.settings device ≡ Some d → kind_of w.objects bound.file pt_id ≡ Some kind.Ioas
          → automatic_hwpt w.objects bound.file pt_id d.width ≡ None → IsHwptFor w bound.file id None
          → Moved {A = A} w (settle w (attached w device pt_id id bound d))
          (event.Attach device pt_id) (reply.Id id)
      new bound d is known space lacks fresh =
          let passed : lacks_attached_frames (view w) bound.file pt_id (Some d) ≡ false =
          subst (λ o. lacks_attached_frames (view w) bound.file pt_id o ≡ false) known
          (attach_passed (view w) device pt_id bound is space none).frames in
          let frames = and_rest (is_none (automatic_hwpt w.objects bound.file pt_id d.width))
          (lacks_new_tables (view w) bound.file pt_id (Some d)) (ap is_none lacks) passed in
          takes {A = A} w (settle w (attached w device pt_id id bound d)) (event.Attach device pt_id) (reply.Id id) refl
          (attached_owned w has device pt_id id bound d lacks fresh)
          (subst (λ n. n ≤ free_count w.settings.pool w.user_pages w.pins w.table_frames)
          (sym (attached_tables w has device pt_id id bound d lacks fresh)) (no_less _ _ frames))

      by_table : (bound : Object) (d : DeviceSettings) → binding_of w.objects device ≡ Some bound
          → device_of w.settings device ≡ Some d → kind_of w.objects bound.file pt_id ≡ Some kind.Ioas
          → (o : Option Object) → automatic_hwpt w.objects bound.file pt_id d.width ≡ o → IsHwptFor w bound.file id o
          → is_some o ≡ false → Moved {A = A} w (settle w (attached w device pt_id id bound d))
          (event.Attach device pt_id) (reply.Id id)
      by_table bound d is known space (Some automatic) lacks made some = cc
      by_table bound d is known space None lacks made some = new bound d is known space lacks made

      by_finds : (b : Bool) → finds_table w.objects pt_id (binding_of w.objects device) (device_of w.settings device)
          ≡ b → Moved {A = A} w (changed {A = A} at w (event.Attach device pt_id) (reply.Id id))
          (event.Attach device pt_id) (reply.Id id)
      by_finds true finds = rest {A = A} (event.Attach device pt_id) (reply.Id id) none answers finds
      by_finds false finds =
          by_target w device pt_id id (λ left. Moved {A = A} w left (event.Attach device pt_id) (reply.Id id))
          (λ nowhere. absurd (nowhere answers))
          (λ bound d is known space made. by_table bound d is known space
          (automatic_hwpt w.objects bound.file pt_id d.width) refl (made answers) (rw (is, known, space) at finds))
          (λ bound d ioas width automatic is known table same.
          let other : true ≡ false = rw (is, known, table) at finds in absurd (cc))

  -- each other event than a MAP and a COPY, with any answer
  abbrev PlacesNoArea : {A : Type 0} → Event A → Type 0
  PlacesNoArea (event.Map file request) = ⊥
  PlacesNoArea (event.Copy file request) = ⊥
  PlacesNoArea e = Unit {0}

  moves : {A : Type 0} (e : Event A) (answer : Reply) → PlacesNoArea e → refusal w e ≡ None → Answers w e answer
      → Moved w (changed at w e answer) e answer
  unfolding Answers
  moves (event.Map file request) answer never none answers = absurd never
  moves (event.Copy file request) answer never none answers = absurd never
  moves (event.HwptAlloc file request) (reply.Id id) other none answers = hwpt_moves file request id none answers
  moves (event.HwptAlloc file request) answer other none never = absurd never
  moves (event.Attach device pt_id) (reply.Id id) other none answers = attach_moves device pt_id id none answers
  moves (event.Attach device pt_id) answer other none never = absurd never
  moves e answer other none answers = rest e answer none answers tt

-- ---- records

module _ (at : ℕ) (w : World) (pins : ArePinned at w) (fits : RowsFit w) (has : HasTables w) (alone : TablesAlone w)
  where
    with_frames : {A : Type 0} (e : Event A) (answer : Reply) → refusal w e ≡ None → Answers w e answer
        → Moved w (changed at w e answer) e answer → HasRecord at w e
    unfolding Lawful
    with_frames {A = A} e answer none answers (taken, given, moved) =
        let r : Record A =
        record { pass = record { 0 = 0 }; event = e; reply = answer; taken = taken; given = given } in
        (r, refl, answers, subst (λ o. IsAnswer w r o × MovesFrames at w r o) (sym none) (answers, moved))

    of_other : {A : Type 0} (e : Event A) → PlacesNoArea at w has alone e → refusal w e ≡ None → HasRecord at w e
    of_other e other none =
        let (answer, answers) = some_answer at w pins fits e none in
        with_frames e answer none answers (moves at w has alone e answer other none answers)

    pub some_record : {A : Type 0} (e : Event A) → refusal w e ≡ None → HasRecord at w e
    unfolding Answers
    some_record (event.Map file request) none =
        let (iova, mapped, start) =
        map_answer at w pins fits file request (map_passed (view w) file request none).chosen in
        with_frames (event.Map file request) (reply.Iova iova) none mapped
        (map_moves at w has alone file request iova none start)
    some_record (event.Copy file request) none =
        let (iova, mapped, start) =
        map_answer at w pins fits file (placed_as request) (copy_passed (view w) file request none).chosen in
        with_frames (event.Copy file request) (reply.Iova iova) none mapped
        (copy_moves at w has alone file request iova none start)
    some_record e none = of_other e tt none
