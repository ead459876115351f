-- The tables that no area needs any more once an UNMAP's areas have gone: they may be counted and given back, and the
-- world after that is shown.
use Rattle.std.proofs.Common.{◌≡◌, ℕ, ◌+◌, ◌<◌, ◌≤◌, ◌^◌, Bool, true, false, cond, not, ◌&&◌, eqb, leb, Option, Some}
use Rattle.std.proofs.Common.{None, List, [], ◌∷◌}
use Rattle.std.proofs.Common.{◌*◌, inl, inr, length, refl, ap, subst, sym, ◌∙◌, arith, lt-ltb}
use Rattle.std.specs.List.{count_by, filter, list_all, list_any}
use Rattle.std.proofs.lemmas.Bool.Decides.{nat_tests}
use Rattle.std.proofs.Math.Path.{fun_ext}
use Rattle.area_map_rows.proofs.Kept.{kept-filter}
use Rattle.area_map_rows.specs.Areas.{AreApartFrom, AreKept, areas_outside, areas_within}
use Rattle.frame_memory.specs.Pool.{FramePool}
use Rattle.iofd_rows.proofs.Bools.{and_true, clash}
use Rattle.iofd_rows.proofs.Each.{IsIn, in_filter, in_found, of_any}
use Rattle.iofd_rows.proofs.Found.{all_filter}
use Rattle.iofd_rows.proofs.ListTests.{false_else}
use Rattle.iofd_rows.proofs.Named.{file_is, id_is}
use Rattle.iofd_rows.proofs.Unusable.{none_of}
use Rattle.iofd_runs.proofs.NotRefused.{unmap_passed}
use Rattle.iofd_runs.proofs.StillTabled.{none_after}
use Rattle.iofd_runs.specs.Fits.{begins_at_page, is_of_pages}
use Rattle.iofd_steps.specs.After.{changed, settle, without_areas}
use Rattle.iofd_words.specs.Areas.{areas_meet, areas_of, is_cut, is_everything, is_of, is_touched, unmapped_span}
use Rattle.iofd_words.specs.Bounds.{Bounds}
use Rattle.iofd_refusals.specs.Checks.{unmap_checks}
use Rattle.iofd_words.specs.FirstTrue.{first_true}
use Rattle.iofd_words.specs.Limits.{first_outside}
use Rattle.iofd_words.specs.Objects.{has_hwpt, is_hwpt_over}
use Rattle.iofd_words.specs.Pages.{is_above_sum}
use Rattle.iofd_words.specs.Pins.{ObjectPage, pinned_frame}
use Rattle.iofd_words.specs.Span.{holds, lies_in, meets, span_from}
use Rattle.iofd_words.specs.TablePlaces.{is_live}
use Rattle.iofd_words.specs.Tables.{MovesTables, is_idle, missing_tables, with_tables}
use Rattle.iofd_words.specs.Usable.{beyond}
use Rattle.iofd_words.specs.View.{view}
use Rattle.iofd_words.specs.Width.{bits_of}
use Rattle.iofd_words.specs.World.{World}
use Rattle.iofd_words.specs.declared.event.Event.TheVariants as event
use Rattle.iofd_words.specs.declared.event.UnmapRequest.{UnmapRequest}
use Rattle.iofd_words.specs.declared.numbers.FileNo.{FileNo}
use Rattle.iofd_words.specs.declared.numbers.FrameNo.{FrameNo}
use Rattle.iofd_words.specs.declared.reply.Reply.TheVariants as reply
use Rattle.iofd_words.specs.declared.rows.Area.{Area}
use Rattle.iofd_words.specs.declared.rows.Object.{Object}
use Rattle.iofd_words.specs.declared.rows.ObjectKind.{ObjectKind}
use Rattle.iofd_words.specs.declared.rows.ObjectKind.TheVariants as kind
use Rattle.iofd_words.specs.declared.rows.TableFrame.{TableFrame}
use Rattle.page_table_set.specs.Idle.{AllCanLeave, MayShed, Sheds, is_idle_in}
use Rattle.page_table_set.specs.OverSpans.{is_over}
use Rattle.page_table_set.specs.PageTables.{AllStand, IfAllStand}
use Rattle.page_table_spans.specs.Idle.{span_of_page}
use Rattle.page_table_words.specs.Rows.{MappedPage}
use Rattle.event_unmap.proofs.AreasToClear.{none_beyond}
use Rattle.event_unmap.proofs.IdleGone.{any_in, frames_after, gives_idle, idle_told, none_counted}
use Rattle.event_unmap.proofs.IdleGone.{object_there}
use Rattle.event_unmap.proofs.IdleGone.{world_left}
use Rattle.event_unmap.proofs.Touched.{AreAlike, alike, left_own, unmet_outside}
use Rattle.event_unmap.proofs.Unmapped.{own_shown}
use Rattle.event_unmap.specs.Idle.{CanCount, CanGive, IfNeeded}
use Rattle.event_unmap.specs.Lost.{loses_table}
use Rattle.server_state.proofs.GivenBack.{parts}
use Rattle.server_state.proofs.NewTables.{each_below}
use Rattle.server_state.proofs.TablesToMap.{known_few}
use Rattle.server_state.proofs.TablesUnreached.{none_reach}
use Rattle.server_state.specs.Choice.{AreFramesChosen}
use Rattle.server_state.specs.Held.{objects_in}
use Rattle.server_state.specs.Leads.{lead_by, leads_by_kind, leads_in, leads_of, live_area_at, space_leads}
use Rattle.server_state.specs.Mapping.{own_areas}
use Rattle.server_state.specs.Shows.{Shows}
use Rattle.server_state.specs.Step.{IsTidy}
use Rattle.server_state.specs.declared.held.Held.{Held}
use Rattle.server_state.specs.declared.state.State.{State}
use Rattle.object_table.specs.Table.{Table}
use Rattle.user_memory.specs.Memory.{Memory}
use Rattle.user_memory_rows.proofs.CountBy.{any_count}
use Rattle.user_memory_rows.specs.Shown.{FramesShown, tables_in}

-- ---- pages lead somewhere where an area holds them alone

led : (frame_of : ObjectPage → Option FrameNo) (areas : List Area) (page : ℕ) (to : MappedPage)
    → leads_in frame_of areas page ≡ Some to → areas_meet (span_of_page page) areas ≡ true
led frame_of areas page to leads = by_area (live_area_at page areas) refl leads
  where
    by_area : (o : Option Area) → live_area_at page areas ≡ o → lead_by frame_of page o ≡ Some to
        → areas_meet (span_of_page page) areas ≡ true
    by_area None is leads = cc
    by_area (Some a) is leads =
        let (among, passes) = in_found (λ (a : Area). is_live a.phase && holds a.span (page * 4096)) areas a is in
        let held = (and_true (is_live a.phase) (holds a.span (page * 4096)) passes).1 in
        of_any (λ (a : Area). meets a.span (span_of_page page)) areas a among (grind (arith, nat_tests))

-- what is unmapped ends below 2^64
span_ends : (request : UnmapRequest) → is_above_sum request.iova.0 request.length ≡ false → eqb request.length 0 ≡ false
    → (unmapped_span request).last < 18446744073709551616
span_ends request sum some = by_test (is_everything request)
  where
    by_test : (b : Bool) → (cond b (record { first = 0; last = 0xffff_ffff_ffff_ffff })
        (span_from request.iova.0 request.length)).last < 18446744073709551616
    by_test true = omega arith
    by_test false =
        let most : request.iova.0 + request.length ≤ 18446744073709551616 = search (sum, arith, nat_tests) in
        let more : 0 < request.length = search (some, arith, nat_tests) in
        omega (arith, most, more)

-- each area that is kept begins before its end
ordered : (low : ℕ) (areas : List Area) → AreApartFrom low areas → (a : Area) → IsIn areas a
    → a.span.first ≤ a.span.last
ordered low [] apart a within = absurd within
ordered low (x ∷ areas) apart a (inl same) = subst (λ (y : Area). y.span.first ≤ y.span.last) same apart.1
ordered low (x ∷ areas) apart a (inr later) = ordered (x.span.last + 1) areas apart.2 a later

true_right : (b : Bool) → (b && true) ≡ b
true_right true = refl
true_right false = refl

module _ {A : Type 0} (at : ℕ) (w : World) (s : State A) (file : FileNo) (request : UnmapRequest) (tidy : IsTidy at w)
    (shows : Shows w s) (none : first_true (unmap_checks (view w) file request) ≡ None)
    (kept : AreKept (own_areas s.objects file request.ioas)) (span : Bounds)
    (is_span : span ≡ unmapped_span request) where
  abbrev own : List Area
  own = own_areas s.objects file request.ioas

  own_is : own_areas s.objects file request.ioas ≡ areas_of w.areas file request.ioas
  own_is = own_shown at w s file request tidy shows

  uncut : is_cut span (own_areas s.objects file request.ioas) ≡ false
  uncut = rw (is_span, own_is) (unmap_passed (view w) file request none).uncut

  can_leave : AllCanLeave file request.ioas (own_areas s.objects file request.ioas) span s.page_tables.tables
  can_leave h there over = record {
    pages =
        each_below h.table.width 0 (areas_within span own)
        (kept-filter (λ (a : Area). lies_in a.span span) own kept).apart
        (all_filter is_of_pages (λ (a : Area). lies_in a.span span) own (rw own_is
        (all_filter is_of_pages (is_of file request.ioas) w.areas tidy.fit.pages)))
        (all_filter begins_at_page (λ (a : Area). lies_in a.span span) own (rw own_is
        (all_filter begins_at_page (is_of file request.ioas) w.areas tidy.fit.starts)))
        (none_of (λ (a : Area). leb (2 ^ bits_of h.table.width) a.span.last) (areas_within span own) short);
    uncut = uncut;
  }
    where
      short : (a : Area) → IsIn (areas_within span own) a → leb (2 ^ bits_of h.table.width) a.span.last ≡ false
      short a within =
          let (among, lies) = in_filter (λ (a : Area). lies_in a.span span) own a within in
          let apart : meets (beyond h.table.width) a.span ≡ false =
          none_beyond at w s file request.ioas span tidy shows h there over a
          (subst (λ (l : List Area). IsIn l a) own_is among) in
          let passed = unmap_passed (view w) file request none in
          let ends : span.last < 18446744073709551616 = rw is_span (span_ends request passed.sum passed.some) in
          let last : a.span.last ≤ span.last =
          let is = (and_true (leb span.first a.span.first) (leb a.span.last span.last) lies).1 in
          search (is, arith, nat_tests) in
          let order = ordered 0 own kept.apart a among in
          let low : leb a.span.first 0xffff_ffff_ffff_ffff ≡ true =
          let few : a.span.first ≤ 0xffff_ffff_ffff_ffff = omega (arith, order, last, ends) in
          search (few, arith, nat_tests) in
          rw (low, true_right (leb (2 ^ bits_of h.table.width) a.span.last)) at apart

  pub can_count : first_outside s.config ≡ None → CanCount s.pool s.page_tables.tables file request.ioas
      (own_areas s.objects file request.ioas) span
  can_count within = record {
    stand = record { frames = w.table_frames; leads = leads_of w; stand = shows.tables.stand };
    leave = can_leave;
    few = known_few s (record { at = at; world = w; tidy = tidy; shows = shows }) file request.ioas span within;
  }

  -- ---- the areas that are left

  abbrev new : World
  new = settle w (without_areas (is_touched file request) w)

  abbrev left : List Area
  left = areas_outside span (own_areas s.objects file request.ioas)

  left_areas : areas_of new.areas file request.ioas ≡ left
  unfolding settle without_areas
  left_areas =
      let here : AreKept (areas_of w.areas file request.ioas) = rw own_is at kept in
      let are : AreAlike (unmapped_span request) (areas_of w.areas file request.ioas) =
      alike (unmapped_span request) 0 (areas_of w.areas file request.ioas) here.apart
      (unmap_passed (view w) file request none).uncut in
      left_own file request w.areas ∙ unmet_outside (unmapped_span request) (areas_of w.areas file request.ioas) are
      ∙ rw (is_span, own_is) refl

  needed : list_any (is_idle_in file request.ioas own s.page_tables.tables) w.table_frames ≡ false
  needed =
      ap (λ (p : TableFrame → Bool). list_any p w.table_frames) (fun_ext (λ (t : TableFrame).
      ap (λ (l : List Area). is_idle_in file request.ioas l s.page_tables.tables t) own_is
      ∙ idle_told w.objects s.page_tables.tables tidy.ids shows.tables.tables shows.tables.widths w.areas file
      request.ioas t))
      ∙ tidy.used file request.ioas

  may_shed : MayShed file request.ioas own span w.table_frames (leads_of new) s.page_tables.tables
  may_shed = record {
    needed = needed;
    mapped = λ h page to there over leads.
        let names = and_true (eqb h.object.file.0 file.0) _ over in
        subst (λ (l : List Area). areas_meet (span_of_page page) l ≡ true) left_areas
        (by_kind page to h.object.file (file_is h.object.file file names.0) h.object.kind names.1 leads);
  }
    where
      by_kind : (page : ℕ) (to : MappedPage) (f : FileNo) → f ≡ file → (k : ObjectKind)
          → is_hwpt_over request.ioas k ≡ true → leads_by_kind new.pins new.areas f k page ≡ Some to
          → areas_meet (span_of_page page) (areas_of new.areas file request.ioas) ≡ true
      by_kind page to f is kind.Ioas over leads = cc
      by_kind page to f is (kind.Hwpt ioas width automatic) over leads =
          led (pinned_frame new.pins) (areas_of new.areas file request.ioas) page to
          (subst (λ (x : FileNo). space_leads new.pins new.areas x request.ioas page ≡ Some to) is
          (subst (λ i. space_leads new.pins new.areas f i page ≡ Some to) (id_is ioas request.ioas over) leads))
      by_kind page to f is (kind.Device device) over leads = cc
      by_kind page to f is (kind.Access attached) over leads = cc

  none_over : has_hwpt w.objects file request.ioas ≡ false → (t : TableFrame)
      → is_idle_in file request.ioas left s.page_tables.tables t ≡ false
  none_over lacks t = false_else _ (λ any.
      let (h, there, passes) = any_in (λ h. is_over file request.ioas h.object && _) s.page_tables.tables any in
      let over = (and_true (is_over file request.ioas h.object) _ passes).0 in
      clash _ lacks (of_any (is_over file request.ioas) w.objects h.object
      (object_there w.objects s.page_tables.tables tidy.ids shows.tables.tables shows.tables.widths h there) over))

  -- there is room for those that go: where nothing is translated there are none
  enough : (room : ℕ) (is_translated : Bool) → is_translated ≡ has_hwpt (objects_in s.objects) file request.ioas
      → (is_translated ≡ true → IfNeeded s.pool s.page_tables.tables file request.ioas own
      (λ frames. count_by (is_idle_in file request.ioas left s.page_tables.tables) frames ≤ room))
      → count_by (is_idle_in file request.ioas left s.page_tables.tables) w.table_frames ≤ room
  enough room true is told = told refl w.table_frames (leads_of w) shows.tables.stand needed
  enough room false is told =
      let lacks : has_hwpt w.objects file request.ioas ≡ false =
      ap (λ (l : List Object). has_hwpt l file request.ioas) shows.objects.rows ∙ sym is in
      let zero = none_counted (is_idle_in file request.ioas left s.page_tables.tables) w.table_frames
      (none_of (is_idle_in file request.ioas left s.page_tables.tables) w.table_frames
      (λ t within. none_over lacks t)) in
      omega (arith, zero)

  pub can_give : (pool : FramePool) → AllStand pool w.table_frames
      (leads_of (settle w (without_areas (is_touched file request) w))) s.page_tables.tables
      → (room : ℕ) (is_translated : Bool) → is_translated ≡ has_hwpt (objects_in s.objects) file request.ioas
      → (is_translated ≡ true → IfNeeded s.pool s.page_tables.tables file request.ioas
      (own_areas s.objects file request.ioas) (λ frames. count_by (is_idle_in file request.ioas
      (areas_outside span (own_areas s.objects file request.ioas)) s.page_tables.tables) frames ≤ room))
      → CanGive pool s.page_tables.tables file request.ioas (own_areas s.objects file request.ioas) span room
  can_give pool stand room is_translated is told = record {
    shed = record {
      frames = w.table_frames;
      leads = leads_of new;
      stand = stand;
      may = may_shed;
      enough = enough room is_translated is told;
    };
    leave = can_leave;
  }

  -- ---- the tables that go, by the definitions

  abbrev goes : TableFrame → Bool
  goes = is_idle new.objects new.areas file request.ioas

  goes_is : is_idle_in file request.ioas left s.page_tables.tables ≡ goes
  unfolding settle without_areas
  goes_is = fun_ext (λ (t : TableFrame).
      ap (λ (l : List Area). is_idle_in file request.ioas l s.page_tables.tables t) (sym left_areas)
      ∙ idle_told w.objects s.page_tables.tables tidy.ids shows.tables.tables shows.tables.widths new.areas file
      request.ioas t)

  -- where one is counted, there is one
  pub loses_one : IfNeeded s.pool s.page_tables.tables file request.ioas (own_areas s.objects file request.ioas)
      (λ frames. 0 < count_by (is_idle_in file request.ioas
      (areas_outside span (own_areas s.objects file request.ioas)) s.page_tables.tables) frames)
      → loses_table w file request ≡ true
  unfolding settle without_areas
  loses_one counted =
      let some : 0 < count_by goes w.table_frames =
      subst (λ (p : TableFrame → Bool). 0 < count_by p w.table_frames) goes_is
      (counted w.table_frames (leads_of w) shows.tables.stand needed) in
      any_count goes w.table_frames ∙ lt-ltb 0 (count_by goes w.table_frames) some

  -- ---- once they are given back

  module _ (t : Table (Held A)) (memory : Memory) (pool after : FramePool) (given : List FrameNo) (count : ℕ)
      (is : Shows (settle w (without_areas (is_touched file request) w))
      (record s { objects = t; memory = memory; pool = pool }))
      (shed : IfAllStand pool s.page_tables.tables (λ frames leads.
      MayShed file request.ioas (own_areas s.objects file request.ioas) span frames leads s.page_tables.tables →
      Sheds pool after frames leads s.page_tables.tables (is_idle_in file request.ioas
      (areas_outside span (own_areas s.objects file request.ioas)) s.page_tables.tables) given))
      (bytes : length after.bytes ≡ length after.holds) where
    went : Sheds pool after w.table_frames (leads_of new) s.page_tables.tables goes given
    unfolding settle without_areas
    went = subst (λ (idle : TableFrame → Bool). Sheds pool after w.table_frames (leads_of new) s.page_tables.tables idle
        given) goes_is (shed w.table_frames (leads_of new) is.tables.stand may_shed)

    same : (f : ℕ) → count_by (λ (x : FrameNo). eqb x.0 f) given ≡ tables_in (filter goes w.table_frames) f
    same f = let all = went.gives.went f in let sum = parts goes w.table_frames f in omega (arith, all, sum)

    frames : FramesShown w.settings.pool w.writes (filter (λ t. not (goes t)) w.table_frames) memory after
    unfolding settle without_areas
    frames = frames_after w.settings.pool w.writes w.table_frames (filter (λ t. not (goes t)) w.table_frames) given
        memory pool after is.frames
        (none_reach w.settings.pool w.writes w.objects w.table_frames (leads_of new) s.page_tables.tables memory pool
        shows.tables.tables tidy.tabled.owned is.frames is.tables.stand)
        went.gives bytes

    shown : Shows (record new { table_frames = filter (λ t. not (goes t)) w.table_frames })
        (record s { objects = t; memory = memory; pool = after })
    unfolding settle without_areas
    shown = record {
      settings = is.settings;
      limits = is.limits;
      dirty = is.dirty;
      allowed = is.allowed;
      objects = is.objects;
      devices = is.devices;
      users = is.users;
      pins = is.pins;
      access_pins = is.access_pins;
      frames = frames;
      tables = record { tables = is.tables.tables; widths = is.tables.widths; stand = went.stand };
    }

    -- none is missing there
    still_needed : missing_tables new.objects new.areas w.table_frames ≡ []
    unfolding changed
    still_needed = none_after {A = A} at w (event.Unmap file request) (reply.Bytes count) tt tidy.tabled.needed

    pub given_back : MovesTables {A = A} w (settle w (without_areas (is_touched file request) w))
        (event.Unmap file request) (reply.Bytes count) [] given
        × AreFramesChosen {A = A} w (settle w (without_areas (is_touched file request) w)) (event.Unmap file request)
        (reply.Bytes count) [] given
        × Shows (with_tables [] given (settle w (without_areas (is_touched file request) w)))
        (record s { objects = t; memory = memory; pool = after })
    unfolding settle without_areas
    given_back =
        let begins : list_all begins_at_page new.areas ≡ true =
        all_filter begins_at_page (λ (a : Area). not (is_touched file request a)) w.areas tidy.fit.starts in
        let moved = gives_idle w new file request count given tidy.ids begins refl still_needed tidy.tabled.owned
        shows.frames.once same went.rising in (
          moved.0,
          moved.1,
          subst (λ (v : World). Shows v (record s { objects = t; memory = memory; pool = after }))
              (sym (world_left w new file request count given tidy.ids begins refl still_needed tidy.tabled.owned
              shows.frames.once same went.rising)) shown,
        )
