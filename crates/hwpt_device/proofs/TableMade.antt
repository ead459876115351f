-- What is kept after a page table came with its tables shows the world with it and them.
use Rattle.std.proofs.Common.{◌≡◌, ◌⊎◌, ◌+◌, ◌<◌, ◌≤◌, ℕ, Bool, true, cond, eqb, ltb, is_some, Option, Some}
use Rattle.std.proofs.Common.{None, List, [], ◌++◌, length, map, refl, sym, ◌∙◌, ap, subst, arith, inl, inr}
use Rattle.std.specs.Prelude.{slice_index}
use Rattle.std.specs.List.{list_all}
use Rattle.std.proofs.lemmas.Bool.{eq-eqb, eqb-true, ltb-true}
use Rattle.frame_memory.specs.Pool.{FramePool, free_count}
use Rattle.page_table_set.proofs.Inserted.{in_with}
use Rattle.page_table_set.proofs.Missing.{least_are_free}
use Rattle.page_table_set.proofs.OwnIds.{objects-with_hwpt}
use Rattle.page_table_set.specs.PageTables.{AllStand, Hwpt, KeepsOthers, PageTables, hwpt_at, stands_before, with_hwpt}
use Rattle.iofd_rows.proofs.Bools.{and_true}
use Rattle.iofd_rows.proofs.Each.{IsIn, of_any, of_each}
use Rattle.iofd_rows.proofs.Found.{find-with_object}
use Rattle.iofd_rows.proofs.Inserted.{all-inserted}
use Rattle.iofd_runs.proofs.Accessed.{each_held}
use Rattle.iofd_runs.proofs.RisingLists.{filter-with_object}
use Rattle.iofd_runs.proofs.StillTabled.{none_given}
use Rattle.iofd_runs.proofs.TableCounts.{missing_with_object}
use Rattle.iofd_steps.specs.After.{settle}
use Rattle.iofd_words.specs.Areas.{areas_of}
use Rattle.iofd_words.specs.Frames.{is_free}
use Rattle.iofd_words.specs.Objects.{is_bound_as, is_fresh, is_hwpt, is_object, with_object}
use Rattle.iofd_words.specs.TablePlaces.{live_pages}
use Rattle.iofd_words.specs.Tables.{MissingTable, are_different, in_frames, missing_tables, tables_after, with_tables}
use Rattle.iofd_words.specs.View.{view}
use Rattle.iofd_words.specs.Width.{bits_of}
use Rattle.iofd_words.specs.World.{World}
use Rattle.iofd_words.specs.declared.numbers.FileNo.{FileNo}
use Rattle.iofd_words.specs.declared.numbers.FrameNo.{FrameNo}
use Rattle.iofd_words.specs.declared.numbers.ObjId.{ObjId}
use Rattle.iofd_words.specs.declared.rows.Area.{Area}
use Rattle.iofd_words.specs.declared.rows.Object.{Object}
use Rattle.iofd_words.specs.declared.rows.TableFrame.{TableFrame}
use Rattle.iofd_words.specs.declared.width.Width.{Width}
use Rattle.user_memory_rows.specs.Moves.{ArePinnedMore}
use Rattle.user_memory_rows.specs.Shown.{FramesShown, tables_in}
use Rattle.object_table.specs.Table.{Table}
use Rattle.server_state.proofs.AccessPinsStay.{shown_still}
use Rattle.server_state.proofs.FreeFrames as free_frames
use Rattle.server_state.proofs.GivenBack.{times_in}
use Rattle.server_state.proofs.LeadsStay.{lead_alike, stand_alike}
use Rattle.server_state.proofs.TakenShown.{in_listed, taken_shown}
use Rattle.server_state.specs.Choice as choice
use Rattle.server_state.specs.Leads.{lead_by, leads_of, live_area_at, object_page}
use Rattle.server_state.specs.Shows.{ObjectsShown, Shows}
use Rattle.server_state.specs.Step.{IsTidy}
use Rattle.server_state.specs.Tables.{has_own_width}
use Rattle.server_state.specs.declared.held.Held.{Held}
use Rattle.server_state.specs.declared.state.State.{State}
use Rattle.page_table_spans.proofs.LeastFrames.{are_frames, length_least}
use Rattle.page_table_words.specs.Taken.{least_frames}
use Rattle.user_memory.specs.Memory.{Memory, reached}
use Rattle.iofd_words.specs.Pins as pin
use Rattle.page_table_spans.specs.Spans.{held_once}
use Rattle.page_table_words.specs.Rows.{MappedPage}
use Rattle.user_memory.specs.Memory as memory
use Rattle.server_state.proofs.FreeAlike.{least_frames_alike}
use Rattle.hwpt_device.proofs.MayAdd.{free_there}
use Rattle.hwpt_device.proofs.PinnedFirst.{another, frames_pinned, free_pinned, holders_yet, leads_yet}
use Rattle.hwpt_device.proofs.PinnedFirst.{pins_pinned, stand_yet, users_pinned}
use Rattle.hwpt_device.proofs.RootAdded.{itself}
use Rattle.hwpt_device.proofs.TakenAlone.{counted_there, each_once, held_alone}
use Rattle.hwpt_device.specs.Filling.{IsFilled, filled, tables_for, with_tables_for}
use Rattle.hwpt_device.specs.Making.{IsRoomy, made_object, missing_with, with_table}
use Rattle.hwpt_device.specs.Pinning.{newly_translated}

-- ---- one more page table

widths-with_hwpt : (h : Hwpt) (tables : List Hwpt) → has_own_width h ≡ true → list_all has_own_width tables ≡ true
    → list_all has_own_width (with_hwpt h tables) ≡ true
widths-with_hwpt = all-inserted stands_before has_own_width

-- ---- numbers of frames

-- a frame's only hold is its table's
no_more : (holds reaching tables : ℕ) → holds ≡ 1 → 0 < tables → holds ≡ reaching + tables → reaching ≡ 0
no_more holds reaching tables one some all = omega arith

in_pool : (one x pool size : ℕ) → one < pool → one ≡ x → size ≡ pool → x < size
in_pool one x pool size below same long = omega arith

module _ {A : Type 0} (at : ℕ) (w : World) (s : State A) (tidy : IsTidy at w) (shows : Shows w s) (file : FileNo)
    (ioas id : ObjId) (width : Width) (automatic : Bool) (roomy : IsRoomy (view w) file ioas width)
    (fresh : is_fresh w.objects file id ≡ true)
    (after : Memory) (pool : FramePool) (more : ArePinnedMore
    (newly_translated w.objects file ioas (areas_of w.areas file ioas)) s.memory after s.pool pool)
    (kept : PageTables) (made : FramePool) (taken : List FrameNo) (f : ℕ)
    (tables_are : kept.tables ≡ with_hwpt (hwpt_at (made_object file ioas id width automatic) width f)
    s.page_tables.tables)
    (is : IsFilled (made_object file ioas id width automatic) width after (areas_of w.areas file ioas) kept.tables pool
    made [] taken w.table_frames (leads_yet at w s tidy shows file ioas id width
    automatic roomy after pool more))
    (bytes : length made.bytes ≡ length made.holds) where
  abbrev object : Object
  object = made_object file ioas id width automatic

  abbrev areas : List Area
  areas = areas_of w.areas file ioas

  abbrev tables : List Hwpt
  tables = s.page_tables.tables

  abbrev yet : Object → ℕ → Option MappedPage
  yet = leads_yet at w s tidy shows file ioas id width automatic roomy after pool more

  -- ---- its tables

  abbrev lacked : List MissingTable
  lacked = tables_for w.table_frames object width (live_pages areas)

  few : length lacked ≤ free_count pool.holds
  few = free_there at w s tidy shows file ioas id width automatic roomy fresh after pool more

  taken_is : taken ≡ least_frames pool.holds (length lacked)
  taken_is = is.out

  long : length taken ≡ length lacked
  long = ap (λ (fs : List FrameNo). length fs) taken_is ∙ length_least pool.holds (length lacked) few

  least : taken ≡ least_frames s.pool.holds (length lacked)
  least = taken_is ∙ least_frames_alike (length lacked) pool.holds s.pool.holds
      (free_pinned at w s tidy shows file ioas id width automatic roomy after pool more)

  -- the least free frames
  pub are_chosen : taken ≡ choice.least_free w (length taken)
  are_chosen = least ∙ free_frames.least_frames_free w s shows (length lacked) ∙ ap (choice.least_free w) (sym long)

  missing_is : missing_with w object ≡ lacked
  missing_is = missing_with_object object w.objects w.areas w.table_frames tidy.tabled.needed

  -- one for each table that is missing
  pub as_many_taken : length taken ≡ length (missing_with w object)
  as_many_taken = long ∙ ap (λ (l : List MissingTable). length l) (sym missing_is)

  rows_now : with_tables_for w.table_frames object width areas pool.holds ≡ w.table_frames ++ in_frames lacked taken
  rows_now = ap (λ (fs : List FrameNo). w.table_frames ++ in_frames lacked fs) (sym taken_is)

  -- ---- the frames

  unreached : (x : ℕ) → 0 < tables_in w.table_frames x → reached after x ≡ 0
  unreached x some =
      let one = held_alone w.objects tables shows.tables.tables pool w.table_frames yet x
      (stand_yet at w s tidy shows file ioas id width automatic roomy after pool more fresh)
      tidy.tabled.owned some in
      let holds = (frames_pinned at w s tidy shows file ioas id width automatic roomy after pool more).holds x in
      no_more _ _ _ one some holds

  was_free : (x : ℕ) → 0 < times_in taken x → (x < length pool.holds) × (slice_index pool.holds x ≡ 0)
  was_free x some =
      let there = counted_there (λ (y : FrameNo). eqb y.0 x) taken some in
      let all : list_all (λ (frame : FrameNo). is_free w.settings.pool w.user_pages w.pins w.table_frames frame.0)
      taken ≡ true =
      ap (list_all (λ (frame : FrameNo). is_free w.settings.pool w.user_pages w.pins w.table_frames frame.0)) least
      ∙ free_frames.least_are_free w s shows (length lacked) in
      let free = and_true (ltb there.one.0 w.settings.pool) _
      (of_each (λ (frame : FrameNo). is_free w.settings.pool w.user_pages w.pins w.table_frames frame.0) taken
      there.one all there.within) in
      let below = ltb-true there.one.0 w.settings.pool free.0 in
      let same = eqb-true there.one.0 x there.passes in
      let size = (frames_pinned at w s tidy shows file ioas id width automatic roomy after pool more).size in
      let among : are_frames (least_frames pool.holds (length lacked)) x ≡ true =
      ap (λ (fs : List FrameNo). are_frames fs x) (sym taken_is) ∙ some_among there.one there.within there.passes in
      (in_pool _ _ _ _ below same size, least_are_free pool.holds (length lacked) x among)
    where
      some_among : (one : FrameNo) → IsIn taken one → eqb one.0 x ≡ true → are_frames taken x ≡ true
      some_among one within passes = of_any (λ (y : FrameNo). eqb y.0 x) taken one within passes

  frames_made : FramesShown w.settings.pool w.writes (w.table_frames ++ in_frames lacked taken) after made
  frames_made =
      taken_shown w.settings.pool w.writes w.table_frames (in_frames lacked taken) after pool made taken
      (frames_pinned at w s tidy shows file ioas id width automatic roomy after pool more)
      unreached was_free
      (λ x. each_once taken x (ap are_different least ∙ free_frames.least_are_different w s shows (length lacked)))
      (λ x. in_listed lacked taken x long)
      (is.holds ∙ ap (held_once pool.holds) (sym taken_is))
      bytes
      (subst (λ (l : List TableFrame). KeepsOthers l pool made) rows_now is.others)

  -- ---- where pages lead

  own_lead : (page : ℕ) (o : Option Area) → lead_by (pin.pinned_frame (with_table w object).pins) page o ≡ cond
      (is_some o) (lead_by (memory.pinned_frame after) page o) None
  own_lead page None = refl
  own_lead page (Some a) =
      lead_alike (memory.pinned_frame after) (pin.pinned_frame (with_table w object).pins) page (Some a)
      (λ x same. (pins_pinned at w s tidy shows file ioas id width automatic roomy after pool more fresh).frames
      (object_page page x))

  leads_own : (page : ℕ) → leads_of (with_table w object) object page ≡ filled file id after areas yet object page
  unfolding settle
  leads_own page =
      let own : is_object file id object ≡ true =
      itself (record { object = object; table = record { width = width; root = record { 0 = 0 } } }) in
      rw own (own_lead page (live_area_at page areas))

  leads_alike : (h : Hwpt) → IsIn kept.tables h → (page : ℕ)
      → leads_of (with_table w object) h.object page ≡ filled file id after areas yet h.object page
  leads_alike h within page =
      by_place (in_with (hwpt_at object width f) tables h (subst (λ (l : List Hwpt). IsIn l h) tables_are within))
    where
      by_place : (hwpt_at object width f ≡ h) ⊎ IsIn tables h
          → leads_of (with_table w object) h.object page ≡ filled file id after areas yet h.object page
      by_place (inl same) = subst (λ (x : Hwpt). leads_of (with_table w object) x.object page ≡ filled file id after
          areas yet x.object page) same (leads_own page)
      by_place (inr old) =
          let other = another at w s tidy shows file ioas id width automatic roomy fresh h old in rw other refl

  stand_made : AllStand made (w.table_frames ++ in_frames lacked taken) (leads_of (with_table w object)) kept.tables
  stand_made =
      stand_alike made (w.table_frames ++ in_frames lacked taken) (filled file id after areas yet)
      (leads_of (with_table w object)) kept.tables leads_alike
      (subst (λ (l : List TableFrame). AllStand made l (filled file id after areas yet) kept.tables) rows_now is.stand)

  -- ---- all of it

  own_width : has_own_width (hwpt_at object width f) ≡ true
  own_width = same (bits_of width)
    where
      same : (n : ℕ) → eqb n n ≡ true
      same n = eq-eqb n n refl

  after_is : tables_after taken [] (with_table w object) ≡ w.table_frames ++ in_frames lacked taken
  unfolding settle
  after_is =
      ap (λ (l : List TableFrame). l ++ in_frames (missing_tables (with_object object w.objects) w.areas l) taken)
      (none_given w.table_frames)
      ∙ ap (λ (l : List MissingTable). w.table_frames ++ in_frames l taken) missing_is

  pub made_shown : (new : Table (Held A))
      → ObjectsShown w.settings w.closed (with_object object w.objects) w.attachments w.areas new
      → Shows (with_tables taken [] (with_table w object)) (record s {
        objects = new;
        page_tables = kept;
        memory = after;
        pool = made;
      })
  unfolding settle with_tables
  made_shown new objects =
      subst (λ (l : List TableFrame). Shows (record (with_table w object) { table_frames = l })
      (record s { objects = new; page_tables = kept; memory = after; pool = made })) (sym after_is) (record {
        settings = shows.settings;
        limits = more.settles.limits ∙ shows.limits;
        dirty = shows.dirty;
        allowed = shows.allowed;
        objects = objects;
        devices = record {
          bindings = λ d. find-with_object (λ (o : Object). is_bound_as d o.kind) object w.objects refl
              ∙ shows.devices.bindings d;
          rising = shows.devices.rising;
          attached = shows.devices.attached;
        };
        users = users_pinned at w s tidy shows file ioas id width automatic roomy after pool more;
        pins = pins_pinned at w s tidy shows file ioas id width automatic roomy after pool more fresh;
        access_pins =
            shown_still w.objects (with_object object w.objects) w.areas w.access_pins s.access_pins
            (holders_yet at w s tidy shows file ioas id width automatic roomy fresh)
            (each_held w.objects w.areas w.access_pins tidy.pins.held) shows.access_pins;
        frames = frames_made;
        tables = record {
          tables =
              ap (map (λ (h : Hwpt). h.object)) tables_are ∙ objects-with_hwpt (hwpt_at object width f) tables
              ∙ ap (with_object object) shows.tables.tables
              ∙ sym (filter-with_object (λ (o : Object). is_hwpt o.kind) object w.objects refl tidy.rise);
          widths = ap (list_all has_own_width) tables_are
              ∙ widths-with_hwpt (hwpt_at object width f) tables own_width shows.tables.widths;
          stand = stand_made;
        };
      })
