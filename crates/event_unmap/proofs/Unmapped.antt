-- The world after an UNMAP is shown.
use Rattle.std.proofs.Common.{◌≡◌, ℕ, ◌+◌, ◌*◌, ◌<◌, ◌≤◌, leb, Bool, true, false, not, eqb, Option, None, is_some}
use Rattle.std.proofs.Common.{List, [], ◌∷◌, get_or, length, map, refl, subst, sym, ◌∙◌, ap, arith}
use Rattle.std.specs.List.{filter, list_all, list_any}
use Rattle.area_map_rows.specs.Areas.{AreApart, AreKept, areas_outside, areas_within, bytes_of}
use Rattle.std.proofs.lemmas.Bool.Decides.{nat_tests}
use Rattle.std.proofs.lemmas.List.Sums.{sum_by-cons}
use Rattle.area_map_rows.proofs.Kept.{length-filter-le}
use Rattle.iofd_rows.proofs.Bools.{and_true}
use Rattle.iofd_rows.proofs.Found.{all_filter}
use Rattle.iofd_runs.proofs.NotRefused.{unmap_passed}
use Rattle.iofd_steps.specs.After.{changed, settle, unmapped, without_areas}
use Rattle.iofd_steps.specs.Answers.{Answers, UnmapAnswers, waits}
use Rattle.iofd_words.specs.Areas.{areas_of, is_cut, is_of, is_held_back, is_touched, most_tries}
use Rattle.iofd_words.specs.Areas.{pending_errno}
use Rattle.iofd_words.specs.Areas.{touched, touched_bytes, touched_tries, unmapped_span, with_leaving}
use Rattle.iofd_words.specs.Attachments.{devices_of}
use Rattle.iofd_words.specs.Bounds.{Bounds}
use Rattle.iofd_runs.specs.Fits.{devices_rise, is_of_pages}
use Rattle.iofd_rows.specs.Pinned.{ArePinned}
use Rattle.iofd_runs.proofs.KeepsPins.{keeps_pins}
use Rattle.iofd_refusals.specs.Checks.{unmap_checks}
use Rattle.iofd_words.specs.FirstTrue.{first_true}
use Rattle.iofd_words.specs.Objects.{has_hwpt}
use Rattle.frame_memory.specs.Pool.{FramePool}
use Rattle.user_memory_rows.proofs.Gone.{objects_left, over_parts, translated_parts, translated_space}
use Rattle.user_memory_rows.specs.Moves.{IsReleased, MayRelease, if_translated}
use Rattle.user_memory_rows.specs.Shown.{FramesShown, over, translated}
use Rattle.user_memory_rows.proofs.FramesFollow.{frames_follow}
use Rattle.user_memory_rows.proofs.Named.{settles_named}
use Rattle.user_memory.specs.Memory.{Memory, reached}
use Rattle.iofd_words.specs.Pages.{is_above_sum, is_whole}
use Rattle.iofd_words.specs.Pins.{pinned_frame, has_pin_in}
use Rattle.iofd_words.specs.Span.{lies_in, size_of, meets}
use Rattle.iofd_words.specs.View.{view}
use Rattle.iofd_words.specs.World.{World}
use Rattle.iofd_words.specs.declared.event.Event.TheVariants as event
use Rattle.iofd_words.specs.declared.reply.Reply.TheVariants as reply
use Rattle.iofd_words.specs.declared.event.UnmapRequest.{UnmapRequest}
use Rattle.iofd_words.specs.declared.numbers.FileNo.{FileNo}
use Rattle.iofd_words.specs.declared.numbers.ObjId.{ObjId}
use Rattle.iofd_words.specs.declared.rows.Area.{Area}
use Rattle.iofd_words.specs.declared.rows.Attachment.{Attachment}
use Rattle.iofd_words.specs.declared.rows.Object.{Object}
use Rattle.server_state.proofs.Orderly.{orderly}
use Rattle.server_state.proofs.AreasBecome.{areas_become, own_at}
use Rattle.server_state.proofs.MemoryReleased.{AreFewer, AreShown, may_release, pins_changed, shown_after}
use Rattle.server_state.proofs.MemoryReleased.{gone_uncovered}
use Rattle.page_table_set.specs.PageTables.{AllStand, PageTables}
use Rattle.event_unmap.proofs.LeavingAreas.{leads_outside, leads_waiting}
use Rattle.event_unmap.proofs.PinsLeft.{leads_left, released_over}
use Rattle.event_unmap.proofs.SpacesCleared.{left_space, space_left, spaces_cleared}
use Rattle.server_state.proofs.TablesUnreached.{frames_cleared}
use Rattle.event_unmap.proofs.Touched.{AreAlike, alike, leaving_other, leaving_own, left_at, left_other, left_own}
use Rattle.event_unmap.proofs.Touched.{met_waiting, met_within, touched_own, unmet_outside, waits_filtered}
use Rattle.server_state.specs.Held.{areas_at, objects_in}
use Rattle.event_unmap.specs.Cleared.{Clears, cleared}
use Rattle.event_unmap.specs.Waiting.{waiting}
use Rattle.server_state.proofs.TablesFollow.{tables_follow}
use Rattle.server_state.specs.Leads.{leads_in, leads_of, space_leads}
use Rattle.server_state.specs.Shows.{Shows, TablesShown}
use Rattle.server_state.specs.Spaces.{HasAreas, IsOrderly}
use Rattle.server_state.specs.Step.{IsTidy}
use Rattle.server_state.specs.Mapping.{own_areas, some_waits}
use Rattle.server_state.specs.declared.held.Held.{Held}
use Rattle.server_state.specs.declared.state.State.{State}
use Rattle.object_table.specs.Table.{Table}
use Rattle.user_memory_rows.proofs.AccessStays.{CoveredAlike, accessed_stays}
use Rattle.user_memory_rows.proofs.AccessCounts.{counted_map}
use Rattle.iofd_runs.proofs.HoldersStay.{NoPinGoes, unmapped_free}
use Rattle.std.proofs.Math.Path.{fun_ext}
use Rattle.server_state.proofs.AccessPinsStay.{any_alike, met_in}
use Rattle.held_pins.specs.HeldPins.{are_met}
use Rattle.iofd_rows.proofs.Each.{of_all, in_filter}
use Rattle.iofd_rows.proofs.Named.{file_is, id_is}

module _ {A : Type 0} where
  module _ (at : ℕ) (w : World) (s : State A) (file : FileNo) (request : UnmapRequest) (tidy : IsTidy at w)
      (shows : Shows w s) where
    pub own_shown : own_areas s.objects file request.ioas ≡ areas_of w.areas file request.ioas
    own_shown =
        own_at s.objects file request.ioas (orderly at w s tidy shows) ∙ sym (shows.objects.spaces file request.ioas)

    -- the devices attached to it
    attached_shown : devices_of (objects_in s.objects) s.attachments.items file request.ioas ≡ devices_of w.objects
        w.attachments file request.ioas
    attached_shown =
        ap (λ (objects : List Object). devices_of objects s.attachments.items file request.ioas)
        (sym shows.objects.rows)
        ∙ ap (λ (attachments : List Attachment). devices_of w.objects attachments file request.ioas)
        (sym shows.devices.attached)

    pub attached_is : (attached : List ℕ) (attachments : List Attachment) → attachments ≡ s.attachments.items
        → (devices_rise attachments ≡ true → attached ≡ devices_of (objects_in s.objects) attachments file request.ioas)
        → attached ≡ devices_of w.objects w.attachments file request.ioas
    attached_is attached attachments is gathered =
        let rise : devices_rise attachments ≡ true = rw (is, ← shows.devices.attached) tidy.fit.rise in
        gathered rise
        ∙ ap (λ (rows : List Attachment). devices_of (objects_in s.objects) rows file request.ioas) is
        ∙ attached_shown

    module _ (none : first_true (unmap_checks (view w) file request) ≡ None)
        (kept : AreKept (own_areas s.objects file request.ioas)) where
      -- no area is cut
      uncut : is_cut (unmapped_span request) (areas_of w.areas file request.ioas) ≡ false
      uncut = (unmap_passed (view w) file request none).uncut

      are : AreAlike (unmapped_span request) (areas_of w.areas file request.ioas)
      are = let here : AreKept (areas_of w.areas file request.ioas) =
          rw own_shown at kept in alike (unmapped_span request) 0 (areas_of w.areas file request.ioas) here.apart uncut

      -- whether a device has to flush before, or access pins are in the way
      pub waits_shown : (span : Bounds) (attached : List ℕ) → span ≡ unmapped_span request
          → attached ≡ devices_of w.objects w.attachments file request.ioas
          → waits w file request ≡ some_waits span attached (λ a. are_met s.access_pins file request.ioas a.span)
          (own_areas s.objects file request.ioas)
      waits_shown span attached is_span is_attached =
          let devices = devices_of w.objects w.attachments file request.ioas in
          let own = areas_of w.areas file request.ioas in
          let met = filter (λ (a : Area). meets a.span (unmapped_span request)) own in
          rw (is_span, is_attached, own_shown) (waits_filtered file request devices (has_pin_in w.objects w.access_pins)
          w.areas
          ∙ ap (λ (is_pinned : Area → Bool). list_any (is_held_back devices is_pinned) met)
          (fun_ext (met_in w.objects w.access_pins s.access_pins shows.access_pins))
          ∙ any_alike (is_held_back devices (λ a. are_met s.access_pins a.file a.ioas a.span))
          (is_held_back devices (λ a. are_met s.access_pins file request.ioas a.span)) (is_of file request.ioas) met
          (of_all (is_of file request.ioas) met (λ a among.
          (in_filter (is_of file request.ioas) w.areas a
          (in_filter (λ (a : Area). meets a.span (unmapped_span request)) own a among).0).1))
          (λ a of. held_own devices a (and_true (eqb a.file.0 file.0) (eqb a.ioas.0 request.ioas.0) of))
          ∙ ap (list_any (is_held_back devices (λ a. are_met s.access_pins file request.ioas a.span)))
          (met_within (unmapped_span request) own are))
        where
          held_own : (devices : List ℕ) (a : Area)
              → (eqb a.file.0 file.0 ≡ true) × (eqb a.ioas.0 request.ioas.0 ≡ true)
              → is_held_back devices (λ a. are_met s.access_pins a.file a.ioas a.span) a
              ≡ is_held_back devices (λ a. are_met s.access_pins file request.ioas a.span) a
          held_own devices a names =
              ap (λ (f : FileNo). is_held_back devices (λ a. are_met s.access_pins f a.ioas a.span) a)
              (file_is a.file file names.0)
              ∙ ap (λ (i : ObjId). is_held_back devices (λ a. are_met s.access_pins file i a.span) a)
              (id_is a.ioas request.ioas names.1)

      -- the touched areas are those of the address space that lie in the span
      pub touched_within : (span : Bounds) → span ≡ unmapped_span request
          → touched w.areas file request ≡ areas_within span (own_areas s.objects file request.ioas)
      touched_within span is_span = rw (is_span, own_shown) (touched_own file request w.areas
          ∙ met_within (unmapped_span request) (areas_of w.areas file request.ioas) are)

      -- how many tries the touched areas have seen
      abbrev most : ℕ
      most = touched_tries w.areas file request

      -- what is answered after so many
      pub errno_shown : (span : Bounds) → span ≡ unmapped_span request
          → pending_errno (most_tries (areas_within span (own_areas s.objects file request.ioas)))
          ≡ pending_errno most
      errno_shown span is_span =
          ap (λ (l : List Area). pending_errno (most_tries l)) (sym (touched_within span is_span))

      -- ---- the touched areas' pages lead nowhere

      -- no two areas have an address in common
      apart : AreApart (areas_of w.areas file request.ioas)
      apart = let here : AreKept (areas_of w.areas file request.ioas) = rw own_shown at kept in here.apart

      module _ (span : Bounds) (is_span : span ≡ unmapped_span request) where
        -- the touched areas
        abbrev within : List Area
        within = areas_within span (own_areas s.objects file request.ioas)

        within_is : areas_within (unmapped_span request) (areas_of w.areas file request.ioas) ≡ areas_within span
            (own_areas s.objects file request.ioas)
        within_is = rw (is_span, own_shown) refl

        -- as they begin to leave
        leads_pending : (owed : List ℕ) (f : FileNo) (i : ObjId) (page : ℕ)
            → space_leads w.pins (with_leaving w.areas owed file request) f i page ≡ left_space w file
            request.ioas within f i page
        leads_pending owed =
            subst (λ (gone : List Area). (f : FileNo) (i : ObjId) (page : ℕ)
            → space_leads w.pins (with_leaving w.areas owed file request) f i page ≡ left_space w file
            request.ioas gone f i page) within_is
            (space_left w file request.ioas (areas_within (unmapped_span request) (areas_of w.areas file request.ioas))
            (with_leaving w.areas owed file request)
            (λ page.
            ap (λ (l : List Area). leads_in (pinned_frame w.pins) l page) (leaving_own file request most owed w.areas
            ∙ met_waiting (unmapped_span request) most owed (areas_of w.areas file request.ioas) are)
            ∙ leads_waiting page (pinned_frame w.pins) (unmapped_span request) most owed
            (areas_of w.areas file request.ioas) apart)
            (leaving_other file request most owed w.areas))

        -- as they go
        leads_gone : (f : FileNo) (i : ObjId) (page : ℕ)
            → space_leads w.pins (filter (λ (a : Area). not (is_touched file request a)) w.areas) f i page ≡ left_space
            w file request.ioas within f i page
        leads_gone =
            subst (λ (gone : List Area). (f : FileNo) (i : ObjId) (page : ℕ)
            → space_leads w.pins (filter (λ (a : Area). not (is_touched file request a)) w.areas) f i
            page ≡ left_space w file request.ioas gone f i page) within_is
            (space_left w file request.ioas (areas_within (unmapped_span request) (areas_of w.areas file request.ioas))
            (filter (λ (a : Area). not (is_touched file request a)) w.areas)
            (λ page.
            ap (λ (l : List Area). leads_in (pinned_frame w.pins) l page) (left_own file request w.areas
            ∙ unmet_outside (unmapped_span request) (areas_of w.areas file request.ioas) are)
            ∙ leads_outside page (pinned_frame w.pins) (unmapped_span request)
            (areas_of w.areas file request.ioas) apart)
            (left_other file request w.areas))

      -- the touched areas are on their way out
      module _ (span : Bounds) (is_span : span ≡ unmapped_span request) (clears : FramePool)
          (bytes : length clears.bytes ≡ length clears.holds)
          (told : Clears file request.ioas (areas_within span (own_areas s.objects file request.ioas))
          s.page_tables.tables s.pool clears) where
        -- the frames once the pages are cleared
        cleared_shown : FramesShown w.settings.pool w.writes w.table_frames s.memory clears
        cleared_shown = frames_cleared w s shows tidy.tabled.owned clears told.holds bytes
            (told.others w.table_frames (leads_of w) shows.tables.stand)

        cleared_stand : AllStand clears w.table_frames
            (cleared file request.ioas (areas_within span (own_areas s.objects file request.ioas)) (leads_of w))
            s.page_tables.tables
        cleared_stand = told.stand w.table_frames (leads_of w) shows.tables.stand

        pub shows_pending : (attached : List ℕ) (t : Table (Held A)) (kept_tables : PageTables)
            → attached ≡ devices_of w.objects w.attachments file request.ioas
            → (IsOrderly s.objects → HasAreas file request.ioas
            (map (waiting span (most_tries (areas_within span (own_areas s.objects file request.ioas))) attached)
            (areas_at s.objects.rows file request.ioas)) s.objects t)
            → kept_tables ≡ s.page_tables
            → Shows (record w {
              areas = with_leaving w.areas (devices_of w.objects w.attachments file request.ioas) file
                  request;
            }) (record s { objects = t; page_tables = kept_tables; pool = clears })
        shows_pending attached t kept_tables is_attached marks same_tables =
            let devices = devices_of w.objects w.attachments file request.ioas in
            let has : HasAreas file request.ioas (map
            (waiting (unmapped_span request) most (devices_of w.objects w.attachments file request.ioas))
            (areas_at s.objects.rows file request.ioas)) s.objects t =
            subst (λ (each : Area → Area). HasAreas file request.ioas
            (map each (areas_at s.objects.rows file request.ioas)) s.objects t)
            (ap (λ (l : List Area). waiting span (most_tries l) attached) (sym (touched_within span is_span))
            ∙ ap (λ (own : Bounds). waiting own most attached) is_span
            ∙ ap (waiting (unmapped_span request) most) is_attached)
            (marks (orderly at w s tidy shows)) in
            let new : World = record w {
              areas = with_leaving w.areas
                  (devices_of w.objects w.attachments file request.ioas) file request;
            } in
            let tables : TablesShown (record w {
              areas = with_leaving w.areas
                  (devices_of w.objects w.attachments file request.ioas) file request;
            }) s.page_tables clears =
            record {
              tables = shows.tables.tables;
              widths = shows.tables.widths;
              stand =
                  spaces_cleared w new file request.ioas (areas_within span (own_areas s.objects file request.ioas))
                  w.objects s.page_tables.tables clears w.table_frames shows.tables.tables
                  (λ f i page has. leads_pending span is_span devices f i page) cleared_stand;
            } in
            record {
              settings = shows.settings;
              objects = record {
                rows = shows.objects.rows ∙ sym has.objects;
                spaces =
                    areas_become (with_leaving w.areas devices file request) w s file request.ioas
                    (map (waiting (unmapped_span request) most devices) (areas_at s.objects.rows file request.ioas)) t
                    shows has
                    (leaving_own file request most devices w.areas
                    ∙ met_waiting (unmapped_span request) most devices (areas_of w.areas file request.ioas) are
                    ∙ ap (map (waiting (unmapped_span request) most devices))
                    (shows.objects.spaces file request.ioas))
                    (leaving_other file request most devices w.areas);
                files = λ number. rw has.files (shows.objects.files number);
                counted = λ f i. has.users f i ∙ shows.objects.counted f i;
                accesses = shows.objects.accesses;
              };
              devices = shows.devices;
              limits = shows.limits;
              dirty = shows.dirty;
              allowed = shows.allowed;
              users = shows.users;
              pins =
                  pins_changed w.objects w.areas w.memory w.pins w.access_pins s.memory
                  (left_at file request most devices)
                  (λ area. refl) (λ area. refl) (λ area. refl)
                  (λ page there. counted_map w.objects (left_at file request most devices) w.areas w.access_pins page
                  (λ pin area. refl)) shows.pins;
              access_pins = shows.access_pins;
              frames = cleared_shown;
              tables = subst (λ (kept : PageTables). TablesShown
                  (record w {
                    areas = with_leaving w.areas (devices_of w.objects w.attachments file request.ioas)
                        file request;
                  }) kept clears) (sym same_tables) tables;
            }

      -- and so are their bytes
      pub bytes_shown : (span : Bounds) → span ≡ unmapped_span request
          → touched_bytes w.areas file request ≡ bytes_of (areas_within span (own_areas s.objects file request.ioas))
      bytes_shown span is_span = ap bytes_of (touched_within span is_span)

      -- those that stay
      abbrev stay : List Area
      stay = filter (λ (a : Area). not (is_touched file request a)) w.areas

      -- as the touched areas go
      module _ (span : Bounds) (is_translated : Bool) (is_span : span ≡ unmapped_span request)
          (is_table : is_translated ≡ has_hwpt (objects_in s.objects) file request.ioas) where
        abbrev going : List Area
        going = areas_within span (own_areas s.objects file request.ioas)

        fewer : NoPinGoes w (is_touched file request)
            → AreFewer (over going) (if_translated is_translated going) w w.objects stay
        fewer free = record {
          over_left = λ n. ap (λ (l : List Area). over stay n + over l n) (sym (touched_within span is_span))
              ∙ over_parts (is_touched file request) w.areas n;
          translated_left =
              λ n. ap (λ (l : List Area). translated w.objects stay n + if_translated is_translated l n)
              (sym (touched_within span is_span))
              ∙ ap (λ (b : Bool). translated w.objects stay n + if_translated b (touched w.areas file request) n)
              (is_table ∙ ap (λ (l : List Object). has_hwpt l file request.ioas) (sym shows.objects.rows))
              ∙ ap (λ (k : ℕ). translated w.objects stay n + k)
              (sym (translated_space w.objects file request.ioas (is_touched file request) w.areas
              (λ area is. (and_true (is_of file request.ioas area) _ is).0) n))
              ∙ translated_parts w.objects (is_touched file request) w.areas n;
          uncovered = gone_uncovered w (is_touched file request) tidy.pins free;
        }

        pub may_remove : not (waits w file request) ≡ true → (holds : List ℕ) → holds ≡ s.pool.holds
            → MayRelease (over going) (if_translated is_translated going) s.memory holds
        may_remove done holds same = rw same (may_release at w s tidy shows (over going)
            (if_translated is_translated going) w.objects stay (fewer (unmapped_free w file request done)))

        module _ (clears : FramePool)
            (bytes : length clears.bytes ≡ length clears.holds)
            (told : Clears file request.ioas going s.page_tables.tables s.pool clears)
            (memory : Memory) (pool : FramePool) (next : ArePinned (at + 1)
            (settle w (without_areas (is_touched file request) w)))
            (covered : CoveredAlike w (settle w (without_areas (is_touched file request) w)))
            (done : not (waits w file request) ≡ true)
            (released : IsReleased (over going) (if_translated is_translated going) s.memory memory clears pool) where
          abbrev new : World
          new = settle w (without_areas (is_touched file request) w)

          -- by the holds alone
          over_kept : IsReleased (over going) (if_translated is_translated going) s.memory memory s.pool
              (record pool { bytes = s.pool.bytes })
          over_kept = released_over (over going) (if_translated is_translated going) s.memory memory s.pool
              clears pool told.holds released

          named : (f : ℕ) → 0 < reached memory f → 0 < reached s.memory f
          named f some = settles_named s.memory memory clears pool shows.pins.invariant.rising released.settles
              f some

          shown : AreShown new w.writes w.table_frames w.user_pages w.settings memory
              (record pool { bytes = s.pool.bytes })
          unfolding settle without_areas
          shown =
              shown_after at w s tidy shows (over going) (if_translated is_translated going) w.objects stay
              (fewer (unmapped_free w file request done)) (at + 1)
              (settle w (without_areas (is_touched file request) w)) memory
              (record pool { bytes = s.pool.bytes }) next refl refl
              (objects_left (is_touched file request) w.areas w.memory) refl refl covered refl over_kept

          frames_left : FramesShown w.settings.pool w.writes w.table_frames memory pool
          frames_left =
              frames_follow w.settings.pool w.writes w.table_frames s.memory memory clears pool
              (cleared_shown span is_span clears bytes told)
              released.settles.holds released.settles.bytes named

          -- the page tables stand, and the pages that are left lead where they did
          pub tables_left : AllStand pool w.table_frames (leads_of new) s.page_tables.tables
          unfolding settle without_areas
          tables_left =
              let gone = areas_within span (own_areas s.objects file request.ioas) in
              spaces_cleared w new file request.ioas gone w.objects s.page_tables.tables pool
              w.table_frames shows.tables.tables
              (λ f i page has.
              leads_left at w new s.memory memory clears pool (over going) (if_translated is_translated going) stay
              tidy.pins shows.pins shown.pins refl refl (fewer (unmapped_free w file request done)) released f i page
              has
              ∙ leads_gone span is_span f i page)
              (tables_follow w.settings.pool w.writes w.writes w.table_frames
              (cleared file request.ioas gone (leads_of w)) s.page_tables.tables s.memory memory clears pool
              (cleared_stand span is_span clears bytes told)
              (cleared_shown span is_span clears bytes told) frames_left
              (λ f held some. named f some)
              (λ f held none. ap (λ (all : List (List ℕ)). get_or all f []) released.settles.bytes))

          pub shows_removed : (t : Table (Held A)) (kept_tables : PageTables)
              → (IsOrderly s.objects → HasAreas file request.ioas
              (areas_outside span (areas_at s.objects.rows file request.ioas)) s.objects t)
              → kept_tables ≡ s.page_tables
              → Shows (settle w (without_areas (is_touched file request) w)) (record s {
                objects = t;
                page_tables = kept_tables;
                memory = memory;
                pool = pool;
              })
          unfolding settle without_areas
          shows_removed t kept_tables removes same_tables =
              let has : HasAreas file request.ioas (areas_outside (unmapped_span request)
              (areas_at s.objects.rows file request.ioas)) s.objects t =
              rw is_span at (removes (orderly at w s tidy shows)) in
              let tables : TablesShown (settle w (without_areas (is_touched file request) w)) s.page_tables pool =
              record { tables = shows.tables.tables; widths = shows.tables.widths; stand = tables_left } in
              record {
                settings = shows.settings;
                limits = shown.limits;
                dirty = shows.dirty;
                allowed = shows.allowed;
                objects = record {
                  rows = shows.objects.rows ∙ sym has.objects;
                  spaces =
                      areas_become stay w s file request.ioas (areas_outside (unmapped_span request)
                      (areas_at s.objects.rows file request.ioas)) t shows has
                      (left_own file request w.areas ∙ unmet_outside (unmapped_span request)
                      (areas_of w.areas file request.ioas) are
                      ∙ ap (areas_outside (unmapped_span request)) (shows.objects.spaces file request.ioas))
                      (left_other file request w.areas);
                  files = λ number. rw has.files (shows.objects.files number);
                  counted = λ f i. has.users f i ∙ shows.objects.counted f i;
                  accesses = shows.objects.accesses;
                };
                devices = shows.devices;
                users = shown.users;
                pins = shown.pins;
                access_pins = shows.access_pins;
                frames = frames_left;
                tables = subst (λ (kept : PageTables). TablesShown
                    (settle w (without_areas (is_touched file request) w)) kept pool) (sym same_tables) tables;
              }

-- ---- how many bytes go

-- areas of at most 2^48 bytes each
bytes_few : (areas : List Area) → list_all is_of_pages areas ≡ true → bytes_of areas ≤ length areas * 281474976710656
bytes_few [] all = omega arith
bytes_few (a ∷ areas) all =
    let parts = and_true (is_of_pages a) (list_all is_of_pages areas) all in
    let sizes = and_true (is_whole (size_of a.span)) (leb (size_of a.span) 281474976710656) parts.0 in
    let here : size_of a.span ≤ 281474976710656 = let is = sizes.1 in grind (arith, nat_tests) in
    let rest = bytes_few areas parts.1 in
    let sum : bytes_of (a ∷ areas) ≡ size_of a.span + bytes_of areas =
    sum_by-cons (λ (area : Area). size_of area.span) a areas in
    let more : length (a ∷ areas) ≡ length areas + 1 = omega arith in
    omega (arith, here, rest, sum, more)

-- they are fewer than 2^64
pub bytes_fit : {A : Type 0} (at : ℕ) (w : World) (s : State A) (file : FileNo) (request : UnmapRequest) (span : Bounds)
    → IsTidy at w → Shows w s → AreKept (own_areas s.objects file request.ioas)
    → bytes_of (areas_within span (own_areas s.objects file request.ioas)) < 18446744073709551616
bytes_fit at w s file request span tidy shows kept =
    let own = own_areas s.objects file request.ioas in
    let all : list_all is_of_pages (own_areas s.objects file request.ioas) ≡ true =
    rw (own_shown at w s file request tidy shows)
    (all_filter is_of_pages (is_of file request.ioas) w.areas tidy.fit.pages) in
    let few = bytes_few (areas_within span own) (all_filter is_of_pages (λ (a : Area). lies_in a.span span) own all) in
    let fewer = length-filter-le (λ (a : Area). lies_in a.span span) own in
    let most = kept.few in
    omega (arith, few, fewer, most)

-- ---- where nothing refuses

-- it names a span
pub names_span : {X : Type 0} (w : World) (file : FileNo) (request : UnmapRequest) (o : Option X)
    → first_true (unmap_checks (view w) file request) ≡ None → o ≡ None
    → (0 < request.length → is_above_sum request.iova.0 request.length ≡ false → is_some o ≡ true) → ⊥
names_span w file request o none lacks some =
    let passed = unmap_passed (view w) file request none in
    let sum : is_above_sum request.iova.0 request.length ≡ false = passed.sum in
    let length : eqb request.length 0 ≡ false = passed.some in
    let positive : 0 < request.length = grind (arith, nat_tests) in
    let told = some positive sum in
    cc

-- the pins of what is left
pub unmapped_pins : (at : ℕ) (w : World) (file : FileNo) (request : UnmapRequest) (count : ℕ)
    → first_true (unmap_checks (view w) file request) ≡ None → UnmapAnswers w file request (reply.Bytes count)
    → ArePinned at w → ArePinned (at + 1) (unmapped w file request (reply.Bytes count))
unfolding changed Answers
unmapped_pins at w file request count none answers pins =
    keeps_pins {A = ℕ} at w (event.Unmap file request) (reply.Bytes count) none answers pins

-- access pins cover what is left as often
pub unmapped_covered : (at : ℕ) (w : World) (file : FileNo) (request : UnmapRequest) (count : ℕ)
    → first_true (unmap_checks (view w) file request) ≡ None → UnmapAnswers w file request (reply.Bytes count)
    → ArePinned at w → CoveredAlike w (unmapped w file request (reply.Bytes count))
unfolding changed Answers
unmapped_covered at w file request count none answers pins =
    accessed_stays {A = ℕ} at w (event.Unmap file request) (reply.Bytes count) none answers pins
