-- Where an event is refused for want of frames, there are too few for what it needs.
use Rattle.std.proofs.Common.{◌≡◌, ℕ, zero, suc, ◌+◌, ◌<◌, ◌≤◌, Bool, true, false, cond, ◌&&◌, not, eqb, ltb}
use Rattle.std.proofs.Common.{is_none, is_some, Option, Some, None, List, [], ◌∷◌, length, refl, ap, sym, ◌∙◌, subst}
use Rattle.std.proofs.Common.{arith, inl}
use Rattle.std.specs.List.{count_by, filter, list_all, list_any, range_with_len}
use Rattle.std.proofs.lemmas.Bool.Decides.{nat_tests}
use Rattle.iofd_steps.specs.After.{attached, changed, copy_changes, hwpt_changes, map_changes, settle}
use Rattle.iofd_steps.specs.Answers.{Answers, IsHwptFor, IsMappedAt}
use Rattle.iofd_refusals.specs.Checks.{allow_iovas_checks, attach_checks, bind_checks, bound_attach_checks, checks}
use Rattle.iofd_refusals.specs.Checks.{close_checks, copy_checks, destroy_checks, detach_checks, device_write_checks}
use Rattle.iofd_refusals.specs.Checks.{flush_checks, hwpt_alloc_checks, ioas_alloc_checks, lacks_attached_frames}
use Rattle.iofd_refusals.specs.Checks.{lacks_mapped_frames, lacks_new_tables, map_checks, mapped_start, refusal}
use Rattle.iofd_refusals.specs.Checks.{tables_to_map, unbind_checks, unmap_checks, user_map_checks}
use Rattle.iofd_refusals.specs.Checks.{user_unmap_checks, user_write_checks}
use Rattle.iofd_refusals.specs.Checks.{access_create_checks, access_attach_checks, access_detach_checks}
use Rattle.iofd_refusals.specs.Checks.{access_pin_checks, access_unpin_checks, access_write_checks, pin_checks_in}
use Rattle.iofd_refusals.specs.Checks.{dirty_checks, dirty_enable_checks}
use Rattle.iofd_words.specs.Objects.{access_ioas_of}
use Rattle.iofd_words.specs.Copies.{placed_as}
use Rattle.iofd_words.specs.Files.{device_of, is_open, user_of}
use Rattle.iofd_words.specs.FirstTrue.{first_true}
use Rattle.iofd_words.specs.Frames.{free_count, is_free}
use Rattle.iofd_words.specs.Objects.{automatic_hwpt, settings_under}
use Rattle.iofd_words.specs.Rights.{is_fixed}
use Rattle.iofd_words.specs.Settings.{DeviceSettings}
use Rattle.iofd_words.specs.Span.{span_from}
use Rattle.iofd_words.specs.Tables.{MovesTables, are_different, is_among, kept_tables, may_go, missing_tables}
use Rattle.iofd_words.specs.View.{view}
use Rattle.iofd_words.specs.World.{World}
use Rattle.iofd_words.specs.declared.event.CopyRequest.{CopyRequest}
use Rattle.iofd_words.specs.declared.event.Event.{Event}
use Rattle.iofd_words.specs.declared.event.Event.TheVariants as event
use Rattle.iofd_words.specs.declared.event.HwptRequest.{HwptRequest}
use Rattle.iofd_words.specs.declared.event.MapRequest.{MapRequest}
use Rattle.iofd_words.specs.declared.numbers.DeviceNo.{DeviceNo}
use Rattle.iofd_words.specs.declared.numbers.FileNo.{FileNo}
use Rattle.iofd_words.specs.declared.numbers.FrameNo.{FrameNo}
use Rattle.iofd_words.specs.declared.numbers.Iova.{Iova}
use Rattle.iofd_words.specs.declared.numbers.ObjId.{ObjId}
use Rattle.iofd_words.specs.declared.numbers.UserNo.{UserNo}
use Rattle.iofd_words.specs.declared.refusal.Cause.{Cause}
use Rattle.iofd_words.specs.declared.refusal.Cause.TheVariants as cause
use Rattle.iofd_words.specs.declared.reply.Reply.{Reply}
use Rattle.iofd_words.specs.declared.reply.Reply.TheVariants as reply
use Rattle.iofd_words.specs.declared.rows.Area.{Area}
use Rattle.iofd_words.specs.declared.rows.Object.{Object}
use Rattle.iofd_words.specs.declared.rows.TableFrame.{TableFrame}
use Rattle.iofd_rows.proofs.Bools.{and_true, both_true, clash, or_none}
use Rattle.iofd_rows.proofs.Each.{IsIn, in_filter, of_all, of_each}
use Rattle.iofd_rows.proofs.Found.{all_filter}
use Rattle.iofd_rows.proofs.ListTests.{filter_all}
use Rattle.iofd_rows.proofs.PageCounts.{count-cons}
use Rattle.iofd_runs.proofs.CopySource.{source_area}
use Rattle.iofd_runs.proofs.KeepsTabled.{HasTables}
use Rattle.iofd_runs.proofs.MissingTables.{is_owned}
use Rattle.iofd_runs.proofs.StillTabled.{none_given}
use Rattle.iofd_laws.proofs.OwnTables.{all_none, none_all, none_goes}
use Rattle.iofd_laws.proofs.RefusingRow.{row_passed, some_row}
use Rattle.iofd_laws.proofs.SomeRecord.{attached_owned, attached_tables, made_owned, made_tables, mapped_tables}
use Rattle.iofd_laws.specs.Laws.{chooses_address}
use Rattle.iofd_runs.proofs.Branches.{by_target}

never : false ≡ true → ⊥
never is = cc

-- ---- which row refused

abbrev is_frames : Cause → Bool
is_frames cause.Frames = true
is_frames c = false

frames_row : (rows : List (Cause × Bool)) → first_true rows ≡ Some cause.Frames
    → list_any (λ row. is_frames row.0 && row.1) rows ≡ true
frames_row rows is = some_row cause.Frames is_frames refl rows is

-- ---- no more frames than there are

again : (p : ℕ → Bool) (n : ℕ) (frames : List FrameNo) → are_different frames ≡ true
    → length frames ≤ suc (length (filter (λ (f : FrameNo). not (eqb f.0 n)) frames))
again p n [] differ = omega arith
again p n (f ∷ frames) differ =
    let parts = and_true (not (is_among frames f)) (are_different frames) differ in
    by_test (eqb f.0 n) refl (none_all (λ (other : FrameNo). eqb other.0 f.0) frames parts.0) (again p n frames parts.1)
  where
    moved : (m : ℕ) → eqb f.0 n ≡ true → not (eqb m f.0) ≡ true → not (eqb m n) ≡ true
    moved m is other = search (is, other, arith, nat_tests)

    by_test : (b : Bool) → eqb f.0 n ≡ b → list_all (λ (other : FrameNo). not (eqb other.0 f.0)) frames ≡ true
        → length frames ≤ suc (length (filter (λ (g : FrameNo). not (eqb g.0 n)) frames))
        → suc (length frames) ≤ suc (length (cond (not b) (f ∷ filter (λ (g : FrameNo). not (eqb g.0 n)) frames)
        (filter (λ (g : FrameNo). not (eqb g.0 n)) frames)))
    by_test true is others rest =
        let same = filter_all (λ (g : FrameNo). not (eqb g.0 n)) frames
        (of_all (λ (g : FrameNo). not (eqb g.0 n)) frames
        (λ g within. moved g.0 is (of_each (λ (other : FrameNo). not (eqb other.0 f.0))
        frames g others within))) in
        rw same (omega arith)
    by_test false is others rest = omega (arith, rest)

differ_filter : (keeps : FrameNo → Bool) (frames : List FrameNo) → are_different frames ≡ true
    → are_different (filter keeps frames) ≡ true
differ_filter keeps [] differ = refl
differ_filter keeps (f ∷ frames) differ =
    let parts = and_true (not (is_among frames f)) (are_different frames) differ in
    let others = all_filter (λ (other : FrameNo). not (eqb other.0 f.0)) keeps frames
    (none_all (λ (other : FrameNo). eqb other.0 f.0) frames parts.0) in
    by_test (keeps f) (all_none (λ (other : FrameNo). eqb other.0 f.0) (filter keeps frames) others)
    (differ_filter keeps frames parts.1)
  where
    by_test : (b : Bool) → not (is_among (filter keeps frames) f) ≡ true → are_different (filter keeps frames) ≡ true
        → are_different (cond b (f ∷ filter keeps frames) (filter keeps frames)) ≡ true
    by_test true first rest = both_true _ _ first rest
    by_test false first rest = rest

-- frames of a range that pass, each once, are no more than so many of it
no_more : (p : ℕ → Bool) (start len : ℕ) (frames : List FrameNo) → are_different frames ≡ true
    → ((f : FrameNo) → IsIn frames f → (p f.0 ≡ true) × (start ≤ f.0) × (f.0 < start + len))
    → length frames ≤ count_by p (range_with_len start len)
no_more p start zero [] differ each = omega arith
no_more p start zero (f ∷ frames) differ each =
    let (passes, low, high) = each f (inl refl) in absurd (omega (arith, low, high))
no_more p start (suc len) frames differ each =
    let others = filter (λ (f : FrameNo). not (eqb f.0 start)) frames in
    let rest =
    no_more p (start + 1) len others (differ_filter (λ (f : FrameNo). not (eqb f.0 start)) frames differ) later in
    subst (λ c. length frames ≤ c) (sym (count-cons p start (range_with_len (start + 1) len)))
    (by_test (p start) refl rest (again p start frames differ))
  where
    past : (n : ℕ) → start ≤ n → not (eqb n start) ≡ true → start + 1 ≤ n
    past n low other = search (low, other, arith, nat_tests)

    later : (f : FrameNo) → IsIn (filter (λ (f : FrameNo). not (eqb f.0 start)) frames) f
        → (p f.0 ≡ true) × (start + 1 ≤ f.0) × (f.0 < start + 1 + len)
    later f within =
        let (held, other) = in_filter (λ (f : FrameNo). not (eqb f.0 start)) frames f within in
        let (passes, low, high) = each f held in
        (passes, past f.0 low other, omega (arith, high))

    unequal : p start ≡ false → (f : FrameNo) → IsIn frames f → not (eqb f.0 start) ≡ true
    unequal fails f within = by_same (eqb f.0 start) refl
      where
        by_same : (b : Bool) → eqb f.0 start ≡ b → not b ≡ true
        by_same true is = let same : f.0 ≡ start =
            search (is, arith, nat_tests) in absurd (clash (p start) fails (ap p (sym same) ∙ (each f within).0))
        by_same false is = refl

    by_test : (b : Bool) → p start ≡ b → length (filter (λ (f : FrameNo). not (eqb f.0 start)) frames) ≤ count_by p
        (range_with_len (start + 1) len) → length frames ≤ suc
        (length (filter (λ (f : FrameNo). not (eqb f.0 start)) frames))
        → length frames ≤ cond b 1 0 + count_by p (range_with_len (start + 1) len)
    by_test true is rest one = omega (arith, rest, one)
    by_test false is rest one =
        let same = filter_all (λ (f : FrameNo). not (eqb f.0 start)) frames
        (of_all (λ (f : FrameNo). not (eqb f.0 start)) frames (unequal is)) in
        omega (arith, subst (λ list. length list ≤ count_by p (range_with_len (start + 1) len)) same rest)

-- ---- an event that needs more tables than frames are free

module _ (w : World) where
  abbrev free : ℕ → Bool
  free = is_free w.settings.pool w.user_pages w.pins w.table_frames

  abbrev count : ℕ
  count = free_count w.settings.pool w.user_pages w.pins w.table_frames

  in_pool : (n : ℕ) → free n ≡ true → n < 0 + w.settings.pool
  in_pool n is = let below = (and_true (ltb n w.settings.pool) _ is).0 in search (below, arith, nat_tests)

  within_free : (frames : List FrameNo) → are_different frames ≡ true
      → list_all (λ (f : FrameNo). free f.0) frames ≡ true → length frames ≤ count
  within_free frames differ all = no_more free 0 w.settings.pool frames differ
      (λ f within. let passes = of_each (λ (f : FrameNo). free f.0) frames f all within in (
        passes,
        omega arith,
        in_pool f.0 passes,
      ))

  overdrawn : {A : Type 0} (left : World) (e : Event A) (answer : Reply) (taken given : List FrameNo)
      → MovesTables w left e answer taken given → left.table_frames ≡ w.table_frames
      → list_all (is_owned left.objects) w.table_frames ≡ true
      → ((table : TableFrame) → may_go left e answer table ≡ false)
      → count < length (missing_tables left.objects left.areas w.table_frames) → ⊥
  overdrawn left e answer taken given moves same owned stay more =
      let none = none_goes w left e answer taken given moves owned stay in
      let kept : kept_tables given left.table_frames ≡ w.table_frames =
      ap (λ g. kept_tables g left.table_frames) none ∙ none_given left.table_frames ∙ same in
      let lengths = moves.enough ∙ ap length (ap (missing_tables left.objects left.areas) kept) in
      let most = within_free taken moves.different moves.free in
      omega (arith, lengths, most, more)

  -- a frame for a user's page, of none that are free
  user_due : (user : UserNo) (va : ℕ) (frame : FrameNo)
      → first_true (user_map_checks (view w) user va) ≡ Some cause.Frames
      → is_free w.settings.pool w.user_pages w.pins w.table_frames frame.0 ≡ true → ⊥
  unfolding user_map_checks
  user_due user va frame refused is_free_frame =
      let none = sym (or_none (eqb count 0)) ∙ frames_row (user_map_checks (view w) user va) refused in
      let zero_count : count ≡ 0 = search (none, arith, nat_tests) in
      let most = within_free (frame ∷ []) refl (both_true _ _ is_free_frame refl) in
      omega (arith, zero_count, most)

above : (a b : ℕ) → ltb a b ≡ true → a < b
above a b is = search (is, arith, nat_tests)

-- an area at a fixed address, for whose tables frames lack
fixed_more : (w : World) (file : FileNo) (request : MapRequest) (iova : Iova)
    → lacks_mapped_frames (view w) file request ≡ true → is_fixed request.flags ≡ true → iova ≡ request.iova
    → count w < tables_to_map (view w) file request.ioas (span_from iova.0 request.length)
fixed_more w file request iova lacks fixed at_iova =
    above _ _ (sym (ap (λ (o : Option ℕ). elim o [
      | Some at ↦ ltb (count w) (tables_to_map (view w) file request.ioas (span_from at request.length))
      | None ↦ false
    ]) start) ∙ lacks)
  where
    start : mapped_start (view w) file request ≡ Some iova.0
    start = same (is_fixed request.flags) _ fixed
      where
        same : (b : Bool) (o : Option ℕ) → b ≡ true → cond b (Some request.iova.0) o ≡ Some iova.0
        same true o is = ap (λ (i : Iova). Some i.0) (sym at_iova)
        same false o is = cc

-- ---- each event

module _ {A : Type 0} (at : ℕ) (w : World) (has : HasTables w) (taken given : List FrameNo) where
  map_due : (file : FileNo) (request : MapRequest) (iova : Iova)
      → first_true (map_checks (view w) file request) ≡ Some cause.Frames → is_fixed request.flags ≡ true
      → iova ≡ request.iova
      → MovesTables {A = A} w (changed {A = A} at w (event.Map file request) (reply.Iova iova)) (event.Map file request)
      (reply.Iova iova) taken given → ⊥
  unfolding changed settle map_checks
  map_due file request iova refused fixed at_iova moves = by_user (user_of w.settings file) refl moves
    where
      lacks : lacks_mapped_frames (view w) file request ≡ true
      lacks = sym (or_none (lacks_mapped_frames (view w) file request))
          ∙ frames_row (map_checks (view w) file request) refused

      by_user : (user : Option UserNo) → user_of w.settings file ≡ user
          → MovesTables {A = A} w (map_changes at w file request iova user) (event.Map file request)
          (reply.Iova iova) taken given → ⊥
      by_user None is moves = never (sym (ap (λ (o : Option UserNo). is_some o) is) ∙ is_true)
        where
          not_not : (b : Bool) → not b ≡ false → b ≡ true
          not_not true is = refl
          not_not false is = cc

          is_true : is_some (user_of w.settings file) ≡ true
          is_true = (and_true (is_some (user_of w.settings file))
              (not (list_any (λ (f : FileNo). eqb f.0 file.0) w.closed))
              (not_not (is_open w.settings w.closed file)
              (row_passed cause.Frames is_frames refl (map_checks (view w) file request) 0 refused refl))).0
      by_user (Some user) is moves =
          overdrawn w {A = A} (map_changes at w file request iova (Some user)) (event.Map file request)
          (reply.Iova iova) taken given moves refl has.tables.owned (λ table. refl)
          (subst (λ n. count w < n) (sym (mapped_tables w has at file request iova))
          (fixed_more w file request iova lacks fixed at_iova))

  copy_due : (file : FileNo) (request : CopyRequest) (iova : Iova)
      → first_true (copy_checks (view w) file request) ≡ Some cause.Frames → is_fixed request.flags ≡ true
      → iova ≡ request.dst_iova
      → MovesTables {A = A} w (changed {A = A} at w (event.Copy file request) (reply.Iova iova))
      (event.Copy file request) (reply.Iova iova) taken given → ⊥
  unfolding changed settle copy_checks
  copy_due file request iova refused fixed at_iova moves = by_source (source_area w file request) refl moves
    where
      lacks : lacks_mapped_frames (view w) file (placed_as request) ≡ true
      lacks = sym (or_none (lacks_mapped_frames (view w) file (placed_as request)))
          ∙ frames_row (copy_checks (view w) file request) refused

      found : is_none (source_area w file request) ≡ false
      found = row_passed cause.Frames is_frames refl (copy_checks (view w) file request) 7 refused refl

      by_source : (source : Option Area) → source_area w file request ≡ source
          → MovesTables {A = A} w (copy_changes w file request iova source) (event.Copy file request)
          (reply.Iova iova) taken given → ⊥
      by_source None is moves = never (sym found ∙ ap (λ (o : Option Area). is_none o) is)
      by_source (Some source) is moves =
          overdrawn w {A = A} (copy_changes w file request iova (Some source)) (event.Copy file request)
          (reply.Iova iova) taken given moves refl has.tables.owned (λ table. refl)
          (subst (λ n. count w < n) (sym (mapped_tables w has source.memory file (placed_as request) iova))
          (fixed_more w file (placed_as request) iova lacks fixed at_iova))

  hwpt_due : (file : FileNo) (request : HwptRequest) (id : ObjId)
      → first_true (hwpt_alloc_checks (view w) file request) ≡ Some cause.Frames
      → Answers {A = A} w (event.HwptAlloc file request) (reply.Id id)
      → MovesTables {A = A} w (changed {A = A} at w (event.HwptAlloc file request) (reply.Id id))
      (event.HwptAlloc file request) (reply.Id id) taken given → ⊥
  unfolding changed settle Answers hwpt_alloc_checks
  hwpt_due file request id refused answers moves =
      by_device (settings_under w.settings w.objects file request.device) lacks moves
    where
      lacks : lacks_new_tables (view w) file request.ioas
          (settings_under w.settings w.objects file request.device) ≡ true
      lacks = sym (or_none (lacks_new_tables (view w) file request.ioas
          (settings_under w.settings w.objects file request.device)))
          ∙ frames_row (hwpt_alloc_checks (view w) file request) refused

      by_device : (d : Option DeviceSettings) → lacks_new_tables (view w) file request.ioas d ≡ true
          → MovesTables {A = A} w (hwpt_changes w file request.ioas id d) (event.HwptAlloc file request)
          (reply.Id id) taken given → ⊥
      by_device None lacks moves = never lacks
      by_device (Some d) lacks moves =
          overdrawn w {A = A} (hwpt_changes w file request.ioas id (Some d)) (event.HwptAlloc file request)
          (reply.Id id) taken given moves refl (made_owned w has file request.ioas id d answers) (λ table. refl)
          (subst (λ n. count w < n) (sym (made_tables w has file request.ioas id d answers)) (above _ _ lacks))

  attach_due : (device : DeviceNo) (pt_id id : ObjId)
      → first_true (attach_checks (view w) device pt_id) ≡ Some cause.Frames
      → Answers {A = A} w (event.Attach device pt_id) (reply.Id id)
      → MovesTables {A = A} w (changed {A = A} at w (event.Attach device pt_id) (reply.Id id))
      (event.Attach device pt_id) (reply.Id id) taken given → ⊥
  unfolding changed settle attached Answers attach_checks
  attach_due device pt_id id refused answers moves =
      by_target w device pt_id id
      (λ left. MovesTables {A = A} w left (event.Attach device pt_id) (reply.Id id) taken given → ⊥)
      (λ nowhere moves. nowhere answers)
      (λ bound d is known space made moves.
      let refused_bound : first_true (bound_attach_checks (view w) device pt_id bound.file) ≡ Some cause.Frames =
      rw (is, attach_checks) at refused in
      let row = rw space at (frames_row (bound_attach_checks (view w) device pt_id bound.file) refused_bound) in
      let lacks : lacks_attached_frames (view w) bound.file pt_id (device_of w.settings device) ≡ true =
      sym (or_none (lacks_attached_frames (view w) bound.file pt_id (device_of w.settings device))) ∙ row in
      by_table bound d (automatic_hwpt w.objects bound.file pt_id d.width) refl (made answers)
      (subst (λ o. lacks_attached_frames (view w) bound.file pt_id o ≡ true) known lacks) moves)
      (λ bound d ioas width automatic is known table same moves.
      let refused_bound : first_true (bound_attach_checks (view w) device pt_id bound.file) ≡ Some cause.Frames =
      rw (is, attach_checks) at refused in
      never (rw table at (frames_row (bound_attach_checks (view w) device pt_id bound.file) refused_bound))) moves
    where
      by_table : (bound : Object) (d : DeviceSettings) (o : Option Object)
          → automatic_hwpt w.objects bound.file pt_id d.width ≡ o → IsHwptFor w bound.file id o
          → (is_none o && lacks_new_tables (view w) bound.file pt_id (Some d)) ≡ true
          → MovesTables {A = A} w (settle w (attached w device pt_id id bound d)) (event.Attach device pt_id)
          (reply.Id id) taken given → ⊥
      by_table bound d (Some automatic) lacks made new moves = never new
      by_table bound d None lacks made new moves =
          overdrawn w {A = A} (settle w (attached w device pt_id id bound d)) (event.Attach device pt_id) (reply.Id id)
          taken given moves refl (attached_owned w has device pt_id id bound d lacks made) (λ table. refl)
          (subst (λ n. count w < n) (sym (attached_tables w has device pt_id id bound d lacks made)) (above _ _ new))

  pub due : (e : Event A) (answer : Reply) → refusal w e ≡ Some cause.Frames → chooses_address e ≡ false
      → Answers w e answer → MovesTables w (changed at w e answer) e answer taken given → ⊥
  unfolding Answers ioas_alloc_checks allow_iovas_checks unmap_checks destroy_checks close_checks user_unmap_checks
      user_write_checks bind_checks unbind_checks detach_checks flush_checks device_write_checks access_create_checks
      access_attach_checks access_detach_checks access_pin_checks access_unpin_checks access_write_checks
      dirty_enable_checks dirty_checks
  due (event.Map file request) (reply.Iova iova) refused fixed answers moves =
      by_flag (is_fixed request.flags) refl fixed answers
    where
      by_flag : (b : Bool) → is_fixed request.flags ≡ b → not b ≡ false → IsMappedAt w file request b iova → ⊥
      by_flag true is fixed at_iova = map_due file request iova refused is at_iova moves
      by_flag false is fixed at_iova = never (sym fixed)
  due (event.Copy file request) (reply.Iova iova) refused fixed answers moves =
      by_flag (is_fixed request.flags) refl fixed answers
    where
      by_flag : (b : Bool) → is_fixed request.flags ≡ b → not b ≡ false → IsMappedAt w file (placed_as request) b iova
          → ⊥
      by_flag true is fixed at_iova = copy_due file request iova refused is at_iova moves
      by_flag false is fixed at_iova = never (sym fixed)
  due (event.HwptAlloc file request) (reply.Id id) refused fixed answers moves =
      hwpt_due file request id refused answers moves
  due (event.Attach device pt_id) (reply.Id id) refused fixed answers moves =
      attach_due device pt_id id refused answers moves
  due (event.UserMap user va) (reply.Frame frame) refused fixed answers moves = user_due w user va frame refused answers
  due (event.Map file request) answer refused fixed answers moves = absurd answers
  due (event.Copy file request) answer refused fixed answers moves = absurd answers
  due (event.HwptAlloc file request) answer refused fixed answers moves = absurd answers
  due (event.Attach device pt_id) answer refused fixed answers moves = absurd answers
  due (event.UserMap user va) answer refused fixed answers moves = absurd answers
  due (event.AccessPin file id request) answer refused fixed answers moves =
      never (sym (no_frames (access_ioas_of w.objects file id))
      ∙ frames_row (access_pin_checks (view w) file id request) refused)
    where
      -- a pin takes no frames
      no_frames : (to : Option ObjId)
          → list_any (λ row. is_frames row.0 && row.1) (pin_checks_in (view w) file id request to) ≡ false
      no_frames None = refl
      no_frames (Some ioas) = refl
  due e answer refused fixed answers moves = never (frames_row (checks (view w) e) refused)
