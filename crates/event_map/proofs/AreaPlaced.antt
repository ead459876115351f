-- Where a new area comes to lie, and that its address space is shown with it, be it a MAP's or a COPY's.
use Rattle.std.proofs.Common.{◌≡◌, ℕ, ◌+◌, ◌<◌, Bool, true, false, ◌&&◌, not, eqb, None, is_some, List, [], ◌∷◌, refl}
use Rattle.std.proofs.Common.{sym, ◌∙◌, ap, arith, subst}
use Rattle.std.proofs.lemmas.Bool.Decides.{nat_tests}
use Rattle.area_map_rows.specs.Areas as own
use Rattle.area_map.specs.Insertion.{insert_refusal}
use Rattle.std.specs.List.{count_by, list_any}
use Rattle.iofd_rows.proofs.Bools.{both_false, clash, not_false}
use Rattle.iofd_runs.specs.Tabled.{AreTabled}
use Rattle.iofd_steps.specs.Answers.{IsMappedAt}
use Rattle.iofd_words.specs.Bounds.{Bounds}
use Rattle.iofd_refusals.specs.Checks.{choices, has_choice, may_choose, taken_spans}
use Rattle.iofd_steps.specs.After.{mapped_area}
use Rattle.iofd_words.specs.Areas.{is_of}
use Rattle.iofd_words.specs.Areas as world
use Rattle.iofd_words.specs.Files.{is_open, user_of}
use Rattle.iofd_words.specs.Pages.{is_above_sum}
use Rattle.iofd_words.specs.Rights.{is_fixed}
use Rattle.iofd_words.specs.Room.{starts_to_try}
use Rattle.iofd_words.specs.Span.{span_from}
use Rattle.frame_memory.specs.Pool.{FramePool}
use Rattle.user_memory.specs.Memory.{Memory, reached}
use Rattle.event_map.proofs.MapMemory.{area}
use Rattle.iofd_words.specs.Objects.{has_ioas}
use Rattle.iofd_words.specs.View.{View, view}
use Rattle.iofd_words.specs.World.{World}
use Rattle.iofd_words.specs.declared.event.MapRequest.{MapRequest}
use Rattle.iofd_words.specs.declared.numbers.FileNo.{FileNo}
use Rattle.iofd_words.specs.declared.numbers.Iova.{Iova}
use Rattle.iofd_words.specs.declared.numbers.ObjId.{ObjId}
use Rattle.iofd_words.specs.declared.numbers.UserNo.{UserNo}
use Rattle.iofd_words.specs.declared.reply.Reply.TheVariants as reply
use Rattle.iofd_words.specs.declared.rows.Area.{Area}
use Rattle.iofd_words.specs.declared.rows.Object.{Object}
use Rattle.server_state.proofs.AreasBecome.{areas_become}
use Rattle.server_state.proofs.Orderly.{orderly}
use Rattle.event_map.proofs.AreasFiltered.{with_area_own, with_area_other}
use Rattle.server_state.proofs.ViewShown.{same_view}
use Rattle.event_map.specs.Place.{HasNoPlace, HasNoPlaceBy, IsPlace, IsPlaceBy}
use Rattle.server_state.specs.Choice.{IsLeastMapped}
use Rattle.server_state.specs.Held.{areas_at, objects_in, room_at}
use Rattle.iofd_rows.specs.Ids.{have_own_ids}
use Rattle.server_state.specs.Shows.{ObjectsShown, Shows, TablesShown}
use Rattle.server_state.specs.Spaces.{HasAreas, IsOrderly, is_space}
use Rattle.server_state.specs.Step.{TidyShowsSame}
use Rattle.server_state.specs.declared.held.Held.{Held}
use Rattle.server_state.specs.declared.state.State.{State}
use Rattle.object_table.specs.Table.{Table}
use Rattle.iofd_runs.proofs.NotRefused.{PlacePassed}
use Rattle.iofd_runs.proofs.MappedAt.{LiesAt, placed_lies}
use Rattle.iofd_words.specs.Frames.{frame_at}
use Rattle.iofd_words.specs.declared.rows.UserPage.{UserPage}
use Rattle.memory_objects.specs.Objects.{pins_on}
use Rattle.user_memory_rows.proofs.FramesFollow.{pins_same}
use Rattle.user_memory_rows.specs.Shown.{FramesShown, tables_in}
use Rattle.user_memory.specs.Changes.{SameObjects}

-- an area that isn't of this address space
not_of : (area : Area) (f : FileNo) (i : ObjId) → is_space area.file area.ioas f i ≡ false → is_of f i area ≡ false
not_of area f i other = grind (arith, nat_tests)

module _ {A : Type 0} where
  -- room for an area changes nothing
  pub shows_roomy : (at : ℕ) (s : State A) (file : FileNo) (ioas : ObjId) (table : Table (Held A))
      → (IsOrderly s.objects → HasAreas file ioas (areas_at s.objects.rows file ioas) s.objects table)
      → TidyShowsSame at s (record s { objects = table })
  shows_roomy at s file ioas table stays w tidy shows =
      let has = stays (orderly at w s tidy shows) in
      record {
        settings = shows.settings;
        limits = shows.limits;
        dirty = shows.dirty;
        allowed = shows.allowed;
        objects = record {
          rows = shows.objects.rows ∙ sym has.objects;
          spaces = areas_become w.areas w s file ioas (areas_at s.objects.rows file ioas) table shows has
              (shows.objects.spaces file ioas) (λ f i other. refl);
          files = λ number. rw has.files (shows.objects.files number);
          counted = λ f i. has.users f i ∙ shows.objects.counted f i;
          accesses = shows.objects.accesses;
        };
        devices = shows.devices;
        users = shows.users;
        pins = shows.pins;
        access_pins = shows.access_pins;
        frames = shows.frames;
        tables = shows.tables;
      }

  -- nor does want of memory for the object
  pub shows_unmapped : (at : ℕ) (s : State A) (file : FileNo) (ioas : ObjId) (table : Table (Held A))
      (after : Memory) (pool : FramePool)
      → (IsOrderly s.objects → HasAreas file ioas (areas_at s.objects.rows file ioas) s.objects table)
      → after ≡ s.memory → pool ≡ s.pool
      → TidyShowsSame at s (record s { objects = table; memory = after; pool = pool })
  shows_unmapped at s file ioas table after pool stays same_memory same_pool =
      let P : Memory → Type 0 = λ m. TidyShowsSame at s (record s { objects = table; memory = m; pool = pool }) in
      let Q : FramePool → Type 0 = λ p. TidyShowsSame at s (record s { objects = table; pool = p }) in
      subst P (sym same_memory) (subst Q (sym same_pool) (shows_roomy at s file ioas table stays))

  -- where there is room the area comes
  pub area_comes : (old roomy new : Table (Held A)) (file : FileNo) (ioas : ObjId) (added : Area) → IsOrderly old
      → has_ioas (objects_in old) file ioas ≡ true → insert_refusal added.span (areas_at old.rows file ioas) ≡ None
      → (IsOrderly old → HasAreas file ioas (areas_at old.rows file ioas) old roomy)
      → (IsOrderly old → has_ioas (objects_in old) file ioas ≡ true → 0 < room_at roomy.rows file ioas)
      → (IsOrderly roomy → has_ioas (objects_in roomy) file ioas ≡ true
      → insert_refusal added.span (areas_at roomy.rows file ioas) ≡ None → 0 < room_at roomy.rows file ioas
      → HasAreas file ioas (own.with_area added (areas_at roomy.rows file ioas)) roomy new)
      → HasAreas file ioas (own.with_area added (areas_at old.rows file ioas)) old new
  area_comes old roomy new file ioas added is_orderly space free stays room inserts =
      let first = stays is_orderly in
      let again : IsOrderly roomy =
      record { ids = ap have_own_ids first.objects ∙ is_orderly.ids } in
      let there : has_ioas (objects_in roomy) file ioas ≡ true =
      ap (λ (objects : List Object). has_ioas objects file ioas) first.objects ∙ space in
      let taken : insert_refusal added.span (areas_at roomy.rows file ioas) ≡ None =
      ap (insert_refusal added.span) first.here ∙ free in
      let last = inserts again there taken (room is_orderly space) in
      record {
        objects = last.objects ∙ first.objects;
        here = last.here ∙ ap (own.with_area added) first.here;
        others = λ f i other. last.others f i other ∙ first.others f i other;
        files = last.files ∙ first.files;
        users = λ f i. last.users f i ∙ first.users f i;
      }

  -- the address space has the area now
  pub objects_mapped : (w : World) (s : State A) (added : Area) (table : Table (Held A)) → IsOrderly s.objects
      → Shows w s
      → (IsOrderly s.objects → HasAreas added.file added.ioas
      (own.with_area added (areas_at s.objects.rows added.file added.ioas)) s.objects table)
      → ObjectsShown w.settings w.closed w.objects w.attachments (world.with_area added w.areas) table
  objects_mapped w s added table is_orderly shows inserted =
      let has = inserted is_orderly in
      record {
        rows = shows.objects.rows ∙ sym has.objects;
        spaces =
            areas_become (world.with_area added w.areas) w s added.file added.ioas
            (own.with_area added (areas_at s.objects.rows added.file added.ioas)) table shows has
            (with_area_own added w.areas ∙ ap (own.with_area added) (shows.objects.spaces added.file added.ioas))
            (λ f i other. with_area_other added w.areas f i (not_of added f i other));
        files = λ number. rw has.files (shows.objects.files number);
        counted = λ f i. has.users f i ∙ shows.objects.counted f i;
        accesses = shows.objects.accesses;
      }

-- ---- where nothing refuses its place

module _ (w : World) (file : FileNo) (request : MapRequest) (rows : PlacePassed (view w) file request) where
  -- the file has a user
  pub has_user : user_of w.settings file ≡ None → ⊥
  has_user lacks =
      let opened : is_open w.settings w.closed file ≡ true = rows.opened in
      let still : (is_some {T = UserNo} None && not (list_any (λ f. eqb f.0 file.0) w.closed)) ≡ true =
      rw lacks at opened in
      cc

  -- there is a place
  pub has_place : (v : View) → view w ≡ v → HasNoPlace v file request → ⊥
  has_place v same nowhere =
      by_flag (is_fixed request.flags) refl (subst (λ (x : View). HasNoPlace x file request) (sym same) nowhere)
      rows.sum rows.chosen rows.space
    where
      none_fits : (p : ℕ → Bool) (starts : List ℕ) → ((x : ℕ) → p x ≡ false) → list_any p starts ≡ false
      none_fits p [] fails = refl
      none_fits p (x ∷ starts) fails = both_false _ _ (fails x) (none_fits p starts fails)

      by_flag : (fixed : Bool) → is_fixed request.flags ≡ fixed → HasNoPlaceBy (view w) file request fixed
          → (fixed && is_above_sum request.iova.0 request.length) ≡ false
          → (not fixed && not (has_choice (view w) file request)) ≡ false → has_ioas w.objects file request.ioas ≡ true
          → ⊥
      by_flag true is above sum chosen space = clash _ sum above
      by_flag false is fails sum chosen space =
          let nowhere = none_fits (may_choose (view w) file request)
          (starts_to_try (choices (view w) file request) (taken_spans (view w) file request)) (fails space) in
          clash _ chosen (not_false _ nowhere)

  -- and what is found is one that the definitions allow, and the least
  pub is_place : (v : View) → view w ≡ v → (span : Bounds) → IsPlace v file request span
      → (span ≡ span_from span.first request.length)
      × IsMappedAt w file request (is_fixed request.flags) (record { 0 = span.first })
      × IsLeastMapped w file request (is_fixed request.flags) (reply.Iova (record { 0 = span.first }))
  is_place v same span place =
      by_flag (is_fixed request.flags) (subst (λ (x : View). IsPlace x file request span) (sym same) place)
    where
      by_flag : (fixed : Bool) → IsPlaceBy (view w) file request fixed span
          → (span ≡ span_from span.first request.length) × IsMappedAt w file request fixed (record { 0 = span.first })
          × IsLeastMapped w file request fixed (reply.Iova (record { 0 = span.first }))
      by_flag true at =
          let first : span.first ≡ request.iova.0 = ap (λ (x : Bounds). x.first) at in
          (at ∙ ap (λ (n : ℕ). span_from n request.length) (sym first), ap (λ (n : ℕ). record { 0 = n }) first, tt)
      by_flag false chosen = (chosen.is, chosen.may, chosen.least)

-- its address space takes the area
module _ {A : Type 0} (w : World) (s : State A) (file : FileNo) (request : MapRequest) (tabled : AreTabled w)
    (shows : Shows w s) (rows : PlacePassed (view w) file request) where
  pub area_taken : (number : ℕ) (iova : Iova) {X : Type 0} → IsMappedAt w file request (is_fixed request.flags) iova
      → (has_ioas (objects_in s.objects) file request.ioas ≡ true
      → insert_refusal (mapped_area number file request iova).span
      (areas_at s.objects.rows file request.ioas) ≡ None → X) → X
  area_taken number iova place result =
      let back = sym (same_view w s shows tabled.owned) in
      let passed = subst (λ (v : View). PlacePassed v file request) back rows in
      let lies = subst (λ (v : View). LiesAt v file request iova.0) back (placed_lies w file request iova rows place) in
      result passed.space (rw (lies.apart, passed.roomy) refl)

-- where memory was wanting for the pins, the same world is shown
module _ {A : Type 0} (w : World) (s : State A) (after : Memory) (pool : FramePool) (shows : Shows w s)
    (pages : after.pages ≡ s.memory.pages) (limits : after.limits ≡ s.memory.limits)
    (objects : SameObjects s.memory after) (same_pool : pool ≡ s.pool) where
  same_reached : (f : ℕ) → reached after f ≡ reached s.memory f
  same_reached f =
      ap (λ (rows : List UserPage). count_by (λ (page : UserPage). eqb page.frame.0 f) rows
      + pins_on after.objects f) pages
      ∙ ap (λ (n : ℕ). count_by (λ (page : UserPage). eqb page.frame.0 f) s.memory.pages + n) (objects.named f)

  frames_stay : FramesShown w.settings.pool w.writes w.table_frames after s.pool
  frames_stay = record {
    size = shows.frames.size;
    count = shows.frames.count;
    full = λ f within some. shows.frames.full f within (let is = same_reached f in omega (arith, is, some));
    holds = λ f. shows.frames.holds f ∙ ap (λ (n : ℕ). n + tables_in w.table_frames f) (sym (same_reached f));
    once = shows.frames.once;
    written = λ f offset within below some. shows.frames.written f offset within below
        (let is = same_reached f in omega (arith, is, some));
  }

  pub shows_unpinned : Shows w (record s { memory = after; pool = pool })
  shows_unpinned = record {
    settings = shows.settings;
    limits = limits ∙ shows.limits;
    dirty = shows.dirty;
    allowed = shows.allowed;
    objects = shows.objects;
    devices = shows.devices;
    users = record {
      pages = λ u page. shows.users.pages u page ∙ ap (λ (rows : List UserPage). frame_at rows u page) (sym pages);
      counts = λ test. shows.users.counts test ∙ ap (count_by test) (sym pages);
    };
    pins = pins_same w.objects w.areas w.memory w.pins w.access_pins s.memory after shows.pins objects;
    access_pins = shows.access_pins;
    frames = subst (FramesShown w.settings.pool w.writes w.table_frames after) (sym same_pool) frames_stay;
    tables = subst (TablesShown w s.page_tables) (sym same_pool) shows.tables;
  }
