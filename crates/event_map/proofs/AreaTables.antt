-- An area that is mapped: the tables that were missing for it are in the least free frames, and what is kept then shows
-- the world after the MAP, with these tables.
use Rattle.std.proofs.Common.{◌≡◌, ℕ, zero, suc, ◌<◌, ◌≤◌, Bool, true, false, cond, ◌&&◌, not, eqb, ltb, is_some}
use Rattle.std.proofs.Common.{List, [], ◌∷◌, ◌++◌, length, refl, sym, ◌∙◌, ap, subst, arith}
use Rattle.std.specs.Prelude.{slice_index}
use Rattle.std.specs.List.{count_by, list_all}
use Rattle.std.proofs.lemmas.Bool.{eq-eqb, eqb-true, ltb-true}
use Rattle.frame_memory.specs.Pool.{FramePool, free_count}
use Rattle.page_table_set.proofs.Missing.{least_are_free, missing_counted}
use Rattle.page_table_set.specs.OverSpans.{tables_needed, with_missing}
use Rattle.page_table_set.specs.PageTables.{AllStand, Hwpt, IfAllStand, KeepsOthers}
use Rattle.iofd_rows.proofs.Bools.{and_true, both_true}
use Rattle.iofd_rows.proofs.Each.{IsIn, in_filter, of_any, of_each}
use Rattle.iofd_runs.proofs.StillTabled.{none_given}
use Rattle.iofd_steps.specs.After.{mapped_area, settle}
use Rattle.iofd_words.specs.Areas as world
use Rattle.iofd_words.specs.Areas.{areas_meet, areas_of}
use Rattle.iofd_refusals.specs.Checks.{tables_to_map}
use Rattle.iofd_words.specs.Frames.{frame_at, is_free}
use Rattle.iofd_words.specs.Objects.{has_hwpt, is_hwpt, is_hwpt_over}
use Rattle.iofd_words.specs.Tables.{MissingTable, MovesTables, are_different, in_frames, is_orphan, may_go, missing_tables}
use Rattle.iofd_words.specs.Tables.{tables_after, with_tables}
use Rattle.iofd_words.specs.World.{World}
use Rattle.iofd_words.specs.declared.event.Event.{Event}
use Rattle.iofd_words.specs.declared.event.MapRequest.{MapRequest}
use Rattle.iofd_words.specs.declared.numbers.FileNo.{FileNo}
use Rattle.iofd_words.specs.declared.numbers.FrameNo.{FrameNo}
use Rattle.iofd_words.specs.declared.numbers.Iova.{Iova}
use Rattle.iofd_words.specs.declared.numbers.ObjId.{ObjId}
use Rattle.iofd_words.specs.declared.reply.Reply.{Reply}
use Rattle.iofd_words.specs.declared.rows.Area.{Area}
use Rattle.iofd_words.specs.declared.rows.MemoryObject.{MemoryObject}
use Rattle.iofd_words.specs.declared.rows.Object.{Object}
use Rattle.iofd_words.specs.declared.rows.ObjectKind.{ObjectKind}
use Rattle.iofd_words.specs.declared.rows.ObjectKind.TheVariants as kind
use Rattle.iofd_words.specs.declared.rows.TableFrame.{TableFrame}
use Rattle.iofd_words.specs.declared.rows.UserPage.{UserPage}
use Rattle.server_state.proofs.FreeAlike.{count_alike, least_frames_alike}
use Rattle.event_map.proofs.AreaPinned.{Comes, frames_mapped, free_mapped, page_leads, stand_pinned, world_with}
use Rattle.event_map.proofs.MissingMapped.{missing_mapped}
use Rattle.server_state.proofs.TablesUnreached.{in_list, unreached}
use Rattle.event_map.proofs.TakenOnce.{counted_there, each_once}
use Rattle.event_map.specs.AreaMapped.{IsAreaMapped, area_leads, missing_for}
use Rattle.user_memory_rows.proofs.Named.{settles_named}
use Rattle.user_memory_rows.specs.Shown.{FramesShown, tables_in}
use Rattle.object_table.specs.Table.{Table}
use Rattle.server_state.proofs.FreeFrames as free_frames
use Rattle.server_state.proofs.GivenBack.{times_in}
use Rattle.server_state.proofs.LeadsStay.{stand_alike}
use Rattle.server_state.proofs.TablesToMap.{known_needed}
use Rattle.server_state.proofs.TakenShown.{in_listed, taken_shown}
use Rattle.server_state.specs.Choice.{AreFramesChosen}
use Rattle.server_state.specs.Leads.{leads_by_kind, leads_in, leads_of, live_area_at}
use Rattle.server_state.specs.Seen.{seen}
use Rattle.server_state.specs.Shows.{ObjectsShown, Shows}
use Rattle.server_state.specs.Step.{IsTidy}
use Rattle.server_state.specs.Tables.{page_tables_among}
use Rattle.server_state.specs.declared.held.Held.{Held}
use Rattle.server_state.specs.declared.state.State.{State}
use Rattle.page_table_spans.proofs.LeastFrames.{are_frames, length_least}
use Rattle.page_table_spans.specs.Spans.{held_once}
use Rattle.page_table_words.specs.Taken.{least_frames}
use Rattle.user_memory.specs.Memory as memory
use Rattle.user_memory.specs.Memory.{Memory, reached}

and_none : (a b : Bool) → ((a && false) && b) ≡ false
and_none true b = refl
and_none false b = refl

-- ---- numbers of frames

none_left : (n m : ℕ) → (0 < n → 0 < m) → m ≡ 0 → n ≡ 0
none_left zero m more gone = refl
none_left (suc n) m more gone = absurd (let some = more (omega arith) in omega (arith, some, gone))

in_pool : (one x pool size : ℕ) → one < pool → one ≡ x → size ≡ pool → x < size
in_pool one x pool size below same long = omega arith

-- how many tables it takes is told alike by the world and by what is kept
pub needed_told : {A : Type 0} (at : ℕ) (w : World) (s : State A) (a : Area) → IsTidy at w → Shows w s
    → tables_needed w.table_frames a.file a.ioas a.span s.page_tables.tables ≡ tables_to_map
    (seen s) a.file a.ioas a.span
needed_told at w s a tidy shows =
    known_needed s (record { at = at; world = w; tidy = tidy; shows = shows }) a.file a.ioas a.span

module _ {A : Type 0} (at : ℕ) (w : World) (s : State A) (tidy : IsTidy at w) (shows : Shows w s) (number : ℕ)
    (file : FileNo) (request : MapRequest) (iova : Iova) (objects : List MemoryObject)
    (after : Memory) (pool : FramePool)
    (comes : Comes w s (mapped_area number file request iova) objects after pool)
    (enough : tables_to_map (seen s) file request.ioas (mapped_area number file request iova).span
    ≤ free_count s.pool.holds) where
  abbrev new_area : Area
  new_area = mapped_area number file request iova

  abbrev tables : List Hwpt
  tables = s.page_tables.tables

  abbrev left : World
  left = world_with w new_area objects

  abbrev missing : List MissingTable
  missing = missing_for w.table_frames new_area tables

  -- ---- how many tables are missing

  missing_many : length missing ≡ tables_to_map (seen s) file request.ioas new_area.span
  missing_many =
      missing_counted w.table_frames file request.ioas new_area.span tables ∙ needed_told at w s new_area tidy shows

  missing_few : length missing ≤ free_count s.pool.holds
  missing_few = subst (λ (n : ℕ). n ≤ free_count s.pool.holds) (sym missing_many) enough

  few_free : length missing ≤ free_count pool.holds
  few_free =
      let same = count_alike pool.holds s.pool.holds
      (free_mapped at w s tidy shows number file request iova objects after pool comes) in
      subst (λ (n : ℕ). length missing ≤ n) (sym same) missing_few

  -- there are frames for them
  pub frames_there : tables_needed w.table_frames file request.ioas new_area.span tables ≤ free_count pool.holds
  frames_there =
      let many = missing_counted w.table_frames file request.ioas new_area.span tables in
      subst (λ (n : ℕ). n ≤ free_count pool.holds) many few_free

  missing_is : missing_tables w.objects (world.with_area new_area w.areas) w.table_frames ≡ missing
  missing_is = missing_mapped w.areas w.table_frames new_area refl w.objects tables shows.tables.tables
      shows.tables.widths tidy.tabled.needed

  -- ---- once it is mapped

  module _ (made : FramePool) (taken : List FrameNo)
      (is : IfAllStand pool tables (IsAreaMapped after new_area tables pool made [] taken))
      (bytes : length made.bytes ≡ length made.holds)
      (apart : areas_meet new_area.span (areas_of w.areas file request.ioas) ≡ false) where
    mapped : IsAreaMapped after new_area tables pool made [] taken w.table_frames (leads_of w)
    mapped = is w.table_frames (leads_of w) (stand_pinned at w s tidy shows number file request iova
        objects after pool comes)

    taken_is : taken ≡ least_frames pool.holds (length missing)
    taken_is = mapped.out

    long : length taken ≡ length missing
    long = ap (λ (fs : List FrameNo). length fs) taken_is ∙ length_least pool.holds (length missing) few_free

    least : taken ≡ least_frames s.pool.holds (length missing)
    least = taken_is ∙ least_frames_alike (length missing) pool.holds s.pool.holds
        (free_mapped at w s tidy shows number file request iova objects after pool comes)

    -- the step moves the frames that it may, and those that are chosen
    pub moves_mapped : {E : Type 0} (e : Event E) (answer : Reply)
        → list_all (λ table. not (is_orphan w.objects table)) w.table_frames ≡ true
        → ((t : TableFrame) → may_go left e answer t ≡ false)
        → MovesTables w left e answer taken [] × AreFramesChosen w left e answer taken []
    unfolding settle
    moves_mapped e answer owned never = free_frames.takes w s shows left e answer taken (length missing)
        (ap (λ (l : List MissingTable). length l) (sym missing_is)) missing_few least refl owned never

    -- ---- the frames

    rows_now : with_missing w.table_frames missing pool.holds ≡ w.table_frames ++ in_frames missing taken
    rows_now = ap (λ (fs : List FrameNo). w.table_frames ++ in_frames missing fs) (sym taken_is)

    none_reached : (f : ℕ) → 0 < tables_in w.table_frames f → reached after f ≡ 0
    none_reached f some = none_left (reached after f) (reached s.memory f)
        (settles_named s.memory after s.pool pool shows.pins.invariant.rising comes.settles f)
        (unreached w s shows tidy.tabled.owned f some)

    was_free : (x : ℕ) → 0 < times_in taken x → (x < length pool.holds) × (slice_index pool.holds x ≡ 0)
    was_free x some =
        let there = counted_there (λ (y : FrameNo). eqb y.0 x) taken some in
        let all : list_all (λ (frame : FrameNo). is_free w.settings.pool w.user_pages w.pins w.table_frames frame.0)
        taken ≡ true =
        ap (list_all (λ (frame : FrameNo). is_free w.settings.pool w.user_pages w.pins w.table_frames frame.0)) least
        ∙ free_frames.least_are_free w s shows (length missing) in
        let free = and_true (ltb there.one.0 w.settings.pool) _
        (of_each (λ (frame : FrameNo). is_free w.settings.pool w.user_pages w.pins w.table_frames frame.0) taken
        there.one all there.within) in
        let below = ltb-true there.one.0 w.settings.pool free.0 in
        let same = eqb-true there.one.0 x there.passes in
        let size = (frames_mapped at w s tidy shows number file request iova objects after pool comes).size in
        let among : are_frames (least_frames pool.holds (length missing)) x ≡ true =
        ap (λ (fs : List FrameNo). are_frames fs x) (sym taken_is)
        ∙ of_any (λ (y : FrameNo). eqb y.0 x) taken there.one there.within there.passes in
        (in_pool _ _ _ _ below same size, least_are_free pool.holds (length missing) x among)

    frames_taken : FramesShown w.settings.pool w.writes (w.table_frames ++ in_frames missing taken) after made
    frames_taken =
        taken_shown w.settings.pool w.writes w.table_frames (in_frames missing taken) after pool made taken
        (frames_mapped at w s tidy shows number file request iova objects after pool comes)
        none_reached was_free
        (λ x. each_once taken x (ap are_different least ∙ free_frames.least_are_different w s shows (length missing)))
        (λ x. in_listed missing taken x long)
        (mapped.holds ∙ ap (held_once pool.holds) (sym taken_is))
        bytes
        (subst (λ (rows : List TableFrame). KeepsOthers rows pool made) rows_now mapped.others)

    -- ---- where pages lead

    by_kind : (f : FileNo) (page : ℕ) (k : ObjectKind)
        → ((i : ObjId) → is_hwpt_over i k ≡ true → has_hwpt w.objects f i ≡ true)
        → leads_by_kind left.pins (world.with_area new_area w.areas) f k page
        ≡ cond ((eqb f.0 file.0 && is_hwpt_over request.ioas k) && is_some (live_area_at page (new_area ∷ [])))
        (leads_in (memory.pinned_frame after) (new_area ∷ []) page) (leads_by_kind w.pins w.areas f k page)
    by_kind f page kind.Ioas over = rw (and_none (eqb f.0 file.0) (is_some (live_area_at page (new_area ∷ [])))) refl
    by_kind f page (kind.Hwpt i width automatic) over =
        page_leads at w s tidy shows number file request iova objects after pool comes apart f i page (over i same)
      where
        same : eqb i.0 i.0 ≡ true
        same = eq-eqb i.0 i.0 refl
    by_kind f page (kind.Device device) over =
        rw (and_none (eqb f.0 file.0) (is_some (live_area_at page (new_area ∷ [])))) refl
    by_kind f page (kind.Access attached) over =
        rw (and_none (eqb f.0 file.0) (is_some (live_area_at page (new_area ∷ [])))) refl

    leads_alike : (h : Hwpt) → IsIn tables h → (page : ℕ)
        → leads_of left h.object page ≡ area_leads after new_area (leads_of w) h.object page
    unfolding settle
    leads_alike h within page =
        let there : IsIn (page_tables_among w.objects) h.object =
        subst (λ (os : List Object). IsIn os h.object) shows.tables.tables
        (in_list (λ (h : Hwpt). h.object) tables h within) in
        let among = (in_filter (λ (o : Object). is_hwpt o.kind) w.objects h.object there).0 in
        let here = eq-eqb h.object.file.0 h.object.file.0 refl in
        by_kind h.object.file page h.object.kind
        (λ i over. of_any (λ (o : Object). eqb o.file.0 h.object.file.0 && is_hwpt_over i o.kind) w.objects h.object
        among (both_true _ _ here over))

    stand_taken : AllStand made (w.table_frames ++ in_frames missing taken) (leads_of left) tables
    stand_taken =
        stand_alike made (w.table_frames ++ in_frames missing taken) (area_leads after new_area (leads_of w))
        (leads_of left) tables leads_alike
        (subst (λ (rows : List TableFrame). AllStand made rows (area_leads after new_area (leads_of w)) tables) rows_now
        mapped.stand)

    -- ---- all of it

    tables_now : tables_after taken [] left ≡ w.table_frames ++ in_frames missing taken
    unfolding settle
    tables_now =
        ap (λ (rows : List TableFrame). rows ++ in_frames
        (missing_tables w.objects (world.with_area new_area w.areas) rows) taken) (none_given w.table_frames)
        ∙ ap (λ (l : List MissingTable). w.table_frames ++ in_frames l taken) missing_is

    pub mapped_shows : (table : Table (Held A))
        → ObjectsShown w.settings w.closed w.objects w.attachments (world.with_area new_area w.areas) table
        → Shows (with_tables taken [] left) (record s { objects = table; memory = after; pool = made })
    unfolding settle with_tables
    mapped_shows table shown =
        subst (λ (rows : List TableFrame). Shows (record left { table_frames = rows }) (record s {
          objects = table;
          memory = after;
          pool = made;
        })) (sym tables_now) (record {
          settings = shows.settings;
          limits = comes.settles.limits ∙ shows.limits;
          dirty = shows.dirty;
          allowed = shows.allowed;
          objects = shown;
          devices = shows.devices;
          users = record {
            pages = λ u page. shows.users.pages u page
                ∙ ap (λ (rows : List UserPage). frame_at rows u page) (sym comes.settles.pages);
            counts = λ test. shows.users.counts test ∙ ap (count_by test) (sym comes.settles.pages);
          };
          pins = comes.pins;
          access_pins = shows.access_pins;
          frames = frames_taken;
          tables = record { tables = shows.tables.tables; widths = shows.tables.widths; stand = stand_taken };
        })
