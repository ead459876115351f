-- An object that was destroyed: an address space with its areas, or a page table with pins.
use Rattle.std.proofs.Common.{◌≡◌, ℕ, Bool, true, false, cond, ◌&&◌, ltb, not, eqb, is_none, is_some, Option, Some}
use Rattle.std.proofs.Common.{None, List, [], map, refl, sym, ◌∙◌, ap, subst, arith, ◌+◌}
use Rattle.iofd_words.specs.Allowed.{AllowedRanges, allowed_of, without_allowed}
use Rattle.iofd_steps.specs.Answers.{Answers}
use Rattle.iofd_runs.proofs.KeepsPins.{keeps_pins}
use Rattle.iofd_runs.proofs.NotRefused.{destroy_passed}
use Rattle.iofd_runs.proofs.OwnIds.{own_ids-filter}
use Rattle.dirty_bitmap.specs.Tracking.{Tables}
use Rattle.frame_memory.specs.Pool.{FramePool}
use Rattle.user_memory_rows.proofs.FramesFollow.{translated_same}
use Rattle.user_memory_rows.proofs.Gone.{objects_left, over_parts, released_none, table_lost, translated_parts}
use Rattle.user_memory_rows.proofs.Gone.{translated_space}
use Rattle.user_memory_rows.specs.Moves.{IsReleased, MayRelease, if_translated}
use Rattle.user_memory_rows.specs.Shown.{over, tables_in, translated, accessed, has_page}
use Rattle.user_memory.specs.Changes.{never}
use Rattle.user_memory.specs.Memory.{Memory}
use Rattle.iofd_rows.specs.Pinned.{ArePinned}
use Rattle.std.specs.List.{filter, list_all}
use Rattle.std.proofs.lemmas.Bool.Decides.{nat_tests}
use Rattle.iofd_steps.specs.After.{settle, without_areas, changed}
use Rattle.iofd_words.specs.Areas.{areas_of, is_of}
use Rattle.iofd_refusals.specs.Checks.{destroy_checks, is_device_object, is_used}
use Rattle.iofd_rows.specs.Ids.{have_own_ids}
use Rattle.iofd_words.specs.Dirty.{without_tracked}
use Rattle.iofd_words.specs.FirstTrue.{first_true}
use Rattle.iofd_words.specs.Objects.{has_access_to, has_hwpt, has_ioas, is_bound_as, is_bound_device, is_hwpt}
use Rattle.iofd_words.specs.Objects.{is_hwpt_over, is_ioas, is_object, kind_of, without_object}
use Rattle.iofd_words.specs.Pins.{pinned_frame, ObjectPage}
use Rattle.iofd_words.specs.View.{view}
use Rattle.iofd_words.specs.World.{World}
use Rattle.iofd_words.specs.declared.event.Event.TheVariants as event
use Rattle.iofd_words.specs.declared.reply.Reply.TheVariants as reply
use Rattle.iofd_words.specs.declared.numbers.DeviceNo.{DeviceNo}
use Rattle.iofd_words.specs.declared.numbers.FileNo.{FileNo}
use Rattle.iofd_words.specs.declared.numbers.ObjId.{ObjId}
use Rattle.iofd_words.specs.declared.rows.Area.{Area}
use Rattle.iofd_words.specs.declared.rows.Object.{Object}
use Rattle.iofd_words.specs.declared.rows.ObjectKind.{ObjectKind}
use Rattle.iofd_words.specs.declared.rows.ObjectKind.TheVariants as kind
use Rattle.iofd_words.specs.declared.width.Width.{Width}
use Rattle.iofd_rows.proofs.Allowed.{allowed_without, is_of_space}
use Rattle.iofd_rows.proofs.Bools.{and_true, clash, or_false}
use Rattle.iofd_rows.proofs.Each.{IsIn, in_filter, of_all}
use Rattle.iofd_rows.proofs.ListTests.{false_else, filter_all}
use Rattle.iofd_rows.proofs.Named.{file_is, id_is, kind_only}
use Rattle.iofd_rows.proofs.PageTables.{hwpt_alike}
use Rattle.server_state.proofs.AreasBecome.{own_at}
use Rattle.server_state.proofs.DevicesOn.{none_on, on_tables}
use Rattle.server_state.proofs.AccessSpaces.{spaces-without}
use Rattle.server_state.proofs.Counted.{has_to, none_over, over_spaces}
use Rattle.server_state.proofs.Objects.{has_table}
use Rattle.server_state.proofs.TableRows.{areas_of_other as no_space_no_areas}
use Rattle.server_state.proofs.Orderly.{orderly}
use Rattle.server_state.proofs.MemoryReleased.{AreFewer, may_release, may_release_over, shown_over, tables_lead}
use Rattle.server_state.proofs.MemoryReleased.{gone_uncovered}
use Rattle.server_state.proofs.MemoryReleased.{tables_stand}
use Rattle.server_state.proofs.Objects.{areas_at_rows, areas_of_held, kind_at, kind_of_rows, value_at}
use Rattle.server_state.proofs.SpacesGone.{any_without, areas-removed, areas_elsewhere, areas_stay, found_without}
use Rattle.server_state.proofs.SpacesGone.{other_goes}
use Rattle.server_state.proofs.ObjectsGone.{may_go, objects-removed}
use Rattle.server_state.specs.Held.{areas_at, destroy_refusal, object_of, objects_in}
use Rattle.server_state.specs.Mapping.{own_areas, untranslated_pins}
use Rattle.server_state.specs.Shows.{DirtyShown, ObjectsShown, Shows}
use Rattle.server_state.specs.Users.{AccessSpaces, AreCounted, accesses_to, devices_on, tables_over, users_at}
use Rattle.server_state.specs.Step.{IsTidy}
use Rattle.server_state.specs.TableGone.{HasLostTable, IsTableGone}
use Rattle.server_state.specs.Tables.{has_own_width, page_tables_among}
use Rattle.server_state.specs.Choice.{AreFramesChosen, IsChosen}
use Rattle.server_state.specs.Leads.{leads_in, leads_of}
use Rattle.server_state.proofs.GivenShown.{given_shown}
use Rattle.server_state.proofs.PageTables.{has_hwpt_kept}
use Rattle.server_state.proofs.Still.{still}
use Rattle.event_destroy.proofs.GivesBackMoves.{gives_back}
use Rattle.event_destroy.proofs.TablesGone.{of_one, one_counted, orphans_are, rows_named}
use Rattle.server_state.proofs.TablesUnreached.{none_reach}
use Rattle.event_destroy.proofs.TablesLeft.{one_left, one_widths}
use Rattle.server_state.proofs.TablesAmong.{among_left}
use Rattle.page_table_set.proofs.Counted.{rows_in_frame}
use Rattle.page_table_set.specs.PageTables.{AllStand, Hwpt, IfAllStand, PageTables, hwpt_of, objects_of}
use Rattle.page_table_set.specs.Removed.{rows_found, without_tables}
use Rattle.iofd_words.specs.TablePlaces.{is_table_of}
use Rattle.iofd_words.specs.Tables.{MovesTables, with_tables}
use Rattle.iofd_words.specs.declared.numbers.FrameNo.{FrameNo}
use Rattle.iofd_words.specs.declared.rows.TableFrame.{TableFrame}
use Rattle.iova_ranges.specs.AllowedRows.{AllowedRows}
use Rattle.user_memory_rows.specs.Shown.{FramesShown}
use Rattle.server_state.specs.Spaces.{is_space}
use Rattle.page_table_words.specs.Released.{GivesBack}
use Rattle.page_table_words.specs.Rows.{TableRow}
use Rattle.server_state.specs.declared.held.Held.{Held}
use Rattle.server_state.specs.declared.held.Held.TheVariants as held
use Rattle.server_state.specs.declared.state.State.{State}
use Rattle.object_table.specs.Table.{Row, Table, removed}
use Rattle.object_table.specs.declared.kind.Kind.TheVariants as tablekind
use Rattle.server_state.proofs.AccessPinsStay.{holders_stay, shown_still}
use Rattle.user_memory_rows.proofs.AccessStays.{CoveredAlike, accessed_stays}
use Rattle.iofd_runs.proofs.Accessed.{each_held}
use Rattle.iofd_runs.proofs.HoldersStay.{destroyed_free}

-- ---- what goes of the counts

-- no access pin covers a page of a memory object of which no area is left
abbrev Uncovered : World → FileNo → ObjId → Type 0
Uncovered w file id = (page : ObjectPage) → has_page w.memory page ≡ true
    → over (filter (λ (area : Area). not (is_of file id area)) w.areas) page.memory ≡ 0
    → accessed w.objects w.areas w.access_pins page ≡ 0

-- none meets an area that goes
all_uncovered : (at : ℕ) (w : World) (file : FileNo) (id : ObjId) → IsTidy at w
    → first_true (destroy_checks (view w) file id) ≡ None → Uncovered w file id
all_uncovered at w file id tidy none =
    gone_uncovered w (is_of file id) tidy.pins
    (destroyed_free w file id (destroy_passed (view w) file id none).unused
    (each_held w.objects w.areas w.access_pins tidy.pins.held))

module _ (w : World) (file : FileNo) (id : ObjId) (ids : have_own_ids w.objects ≡ true) where
  abbrev left : List Object
  left = without_object file id w.objects

  abbrev stay : List Area
  stay = filter (λ (area : Area). not (is_of file id area)) w.areas

  -- an address space without page tables
  module _ (is_kind : kind_of w.objects file id ≡ Some kind.Ioas) (unused : has_hwpt w.objects file id ≡ false)
      (own : List Area) (own_is : own ≡ areas_of w.areas file id) where
    same_tables : (f : FileNo) (i : ObjId) → has_hwpt left f i ≡ has_hwpt w.objects f i
    same_tables f i = any_without (λ (o : Object). eqb o.file.0 f.0 && is_hwpt_over i o.kind) w.objects file id
        kind.Ioas ids is_kind (λ object of_file of_kind. rw of_kind (fails (eqb object.file.0 f.0)))
      where
        fails : (b : Bool) → (b && false) ≡ false
        fails true = refl
        fails false = refl

    -- an address space with page tables is another one, and keeps its areas
    others_stay : (f : FileNo) (i : ObjId) → has_hwpt left f i ≡ true → areas_of stay f i ≡ areas_of w.areas f i
    others_stay f i has = areas_elsewhere w.areas file id f i (false_else (is_space file id f i) never_here)
      where
        never_here : is_space file id f i ≡ true → ⊥
        never_here is =
            let names = and_true (eqb f.0 file.0) (eqb i.0 id.0) is in
            clash (has_hwpt w.objects file id) unused (hwpt_alike w.objects f file i id names.0 names.1
            ∙ (sym (same_tables f i) ∙ has))

    no_pins : (n : ℕ) → translated w.objects (areas_of w.areas file id) n ≡ 0
    no_pins n = translated_space w.objects file id (is_of file id) w.areas (λ area is. is) n
        ∙ ap (λ (b : Bool). if_translated b (areas_of w.areas file id) n) unused

    space_fewer : Uncovered w file id → AreFewer (over own) never w left stay
    space_fewer uncovered = record {
      over_left = λ n. ap (λ (l : List Area). over stay n + over l n) own_is ∙ over_parts (is_of file id) w.areas n;
      translated_left =
          λ n. let same = translated_same w.objects left stay same_tables n in
          let parts = translated_parts w.objects (is_of file id) w.areas n in
          let none = no_pins n in
          omega (arith, same, parts, none);
      uncovered = uncovered;
    }

  -- a page table, under whose id no area is
  module _ (ioas : ObjId) (width : Width) (automatic : Bool)
      (is_kind : kind_of w.objects file id ≡ Some (kind.Hwpt ioas width automatic))
      (empty : areas_of w.areas file id ≡ []) where
    all_stay : stay ≡ w.areas
    all_stay = areas_stay w.areas file id empty

    -- other address spaces keep their page tables
    other_table : (f : FileNo) (i : ObjId) → (eqb f.0 file.0 && eqb i.0 ioas.0) ≡ false
        → has_hwpt left f i ≡ has_hwpt w.objects f i
    other_table f i other = any_without (λ (o : Object). eqb o.file.0 f.0 && is_hwpt_over i o.kind) w.objects file id
        (kind.Hwpt ioas width automatic) ids is_kind
        (λ object of_file of_kind. rw (of_file, of_kind) (grind (arith, nat_tests)))

    had : has_hwpt w.objects file ioas ≡ true
    had = has_table w.objects file id ioas width automatic is_kind

    -- the pins of its address space's areas go where no other is over it; else its areas stay translated
    table_fewer : Uncovered w file id → (own : List Area) → own ≡ areas_of w.areas file ioas → (more : Bool)
        → has_hwpt left file ioas ≡ more → AreFewer never (cond more never (over own)) w left stay
    table_fewer uncovered own own_is false last = record {
      over_left = λ n. let same = ap (λ (l : List Area). over l n) all_stay in omega (arith, same);
      translated_left =
          λ n. ap (λ (l : List Area). translated left l n + over own n) all_stay
          ∙ ap (λ (l : List Area). translated left w.areas n + over l n) own_is
          ∙ table_lost w.objects left w.areas file ioas had last other_table n;
      uncovered = uncovered;
    }
    table_fewer uncovered own own_is true more = record {
      over_left = λ n. let same = ap (λ (l : List Area). over l n) all_stay in omega (arith, same);
      translated_left = λ n. let same = ap (λ (l : List Area). translated left l n) all_stay
          ∙ translated_same w.objects left w.areas tables n in omega (arith, same);
      uncovered = uncovered;
    }
      where
        tables : (f : FileNo) (i : ObjId) → has_hwpt left f i ≡ has_hwpt w.objects f i
        tables f i = by_space (eqb f.0 file.0 && eqb i.0 ioas.0) refl
          where
            by_space : (b : Bool) → (eqb f.0 file.0 && eqb i.0 ioas.0) ≡ b → has_hwpt left f i ≡ has_hwpt w.objects f i
            by_space true is =
                let names = and_true (eqb f.0 file.0) (eqb i.0 ioas.0) is in
                sym (hwpt_alike left f file i ioas names.0 names.1) ∙ more ∙ sym had
                ∙ hwpt_alike w.objects f file i ioas names.0 names.1
            by_space false is = other_table f i is

-- none is attached to an address space that no access object has
none_attached : (objects : List Object) (f : FileNo) (i : ObjId) → has_access_to objects f i ≡ false
    → accesses_to objects f i ≡ 0
none_attached objects f i none = zero (accesses_to objects f i) (sym (has_to objects f i) ∙ none)
  where
    zero : (n : ℕ) → ltb 0 n ≡ false → n ≡ 0
    zero n is = search (is, arith, nat_tests)

-- an object that is no page table leaves the page tables
no_table_goes : (objects : List Object) (file : FileNo) (id : ObjId) → have_own_ids objects ≡ true → (k : ObjectKind)
    → kind_of objects file id ≡ Some k → is_hwpt k ≡ false
    → page_tables_among (without_object file id objects) ≡ page_tables_among objects
no_table_goes objects file id ids k is_kind other =
    among_left (λ (o : Object). not (is_object file id o)) objects
    ∙ filter_all (λ (o : Object). not (is_object file id o)) (page_tables_among objects)
    (of_all (λ (o : Object). not (is_object file id o)) (page_tables_among objects)
    (λ o within. by_name o (in_filter (λ (x : Object). is_hwpt x.kind) objects o within)
    (is_object file id o) refl))
  where
    by_name : (o : Object) → IsIn objects o × (is_hwpt o.kind ≡ true) → (b : Bool) → is_object file id o ≡ b
        → not b ≡ true
    by_name o within false is = refl
    by_name o within true is =
        let names = and_true (eqb o.file.0 file.0) (eqb o.id.0 id.0) is in
        let here : kind_of objects file id ≡ Some o.kind =
        rw (← file_is o.file file names.0, ← id_is o.id id names.1) (kind_only objects o ids within.0) in
        let same : o.kind ≡ k = (let both : Some o.kind ≡ Some k = sym here ∙ is_kind in cc) in
        absurd (clash (is_hwpt k) other (ap is_hwpt (sym same) ∙ within.1))

-- ---- what is kept

-- the world after it
abbrev pub gone : World → FileNo → ObjId → World
gone w file id =
    settle w (record (without_areas (is_of file id) w) {
      objects = without_object file id w.objects;
      allowed = without_allowed file id w.allowed;
      tracked = without_tracked file id w.tracked;
    })

-- nothing stands on it
unused : (w : World) (file : FileNo) (id : ObjId) (k : ObjectKind) → first_true (destroy_checks (view w) file id) ≡ None
    → kind_of w.objects file id ≡ Some k → is_used (view w) file id (Some k) ≡ false
unused w file id k none is_kind =
    ap (is_used (view w) file id) (sym is_kind) ∙ (destroy_passed (view w) file id none).unused

module _ {A : Type 0} where
  no_areas_in : (o : Option (Held A)) (ioas : ObjId) (width : Width) (automatic : Bool)
      → kind_at o ≡ Some (kind.Hwpt ioas width automatic) → areas_of_held o ≡ []
  no_areas_in None ioas width automatic is = cc
  no_areas_in (Some (held.Ioas areas)) ioas width automatic is = absurd (never (kind_inside is))
    where
      kind_inside : Some kind.Ioas ≡ Some (kind.Hwpt ioas width automatic) → kind.Ioas ≡ kind.Hwpt ioas width automatic
      kind_inside is = cc

      never : kind.Ioas ≡ kind.Hwpt ioas width automatic → ⊥
      never is = cc
  no_areas_in (Some (held.Hwpt over of by)) ioas width automatic is = refl
  no_areas_in (Some (held.Device device)) ioas width automatic is = refl
  no_areas_in (Some (held.Access attached)) ioas width automatic is = refl

  -- a page table has no areas
  pub no_areas : (w : World) (s : State A) (file : FileNo) (id ioas : ObjId) (width : Width) (automatic : Bool)
      → Shows w s → kind_of w.objects file id ≡ Some (kind.Hwpt ioas width automatic) → areas_of w.areas file id ≡ []
  no_areas w s file id ioas width automatic shows is_kind =
      shows.objects.spaces file id ∙ areas_at_rows s.objects.rows file id
      ∙ no_areas_in (value_at s.objects.rows file id) ioas width automatic (sym (kind_of_rows s.objects.rows file id)
      ∙ ap (λ (l : List Object). kind_of l file id) (sym shows.objects.rows) ∙ is_kind)

  -- the object's row goes
  objects_gone : (w : World) (s : State A) (file : FileNo) (id : ObjId) (table : Table (Held A)) → Shows w s
      → table.rows ≡ removed file id s.objects.rows → table.files ≡ s.objects.files
      → AreCounted (without_object file id w.objects) w.attachments table.rows
      → AccessSpaces (without_object file id w.objects)
      → ObjectsShown w.settings w.closed (without_object file id w.objects) w.attachments
      (filter (λ (area : Area). not (is_of file id area)) w.areas) table
  objects_gone w s file id table shows rows files counted spaces = record {
    rows = ap (without_object file id) shows.objects.rows ∙ sym (objects-removed s.objects.rows file id)
        ∙ ap (map object_of) (sym rows);
    spaces = λ f i. areas-removed w.areas s.objects.rows file id shows.objects.spaces f i
        ∙ ap (λ l. areas_at l f i) (sym rows);
    files = λ number. rw files (shows.objects.files number);
    counted = counted;
    accesses = spaces;
  }

  -- the object is gone, where page tables have these rows in the pool before memory objects are let go of
  pub shows_destroyed : (at : ℕ) (w : World) (s : State A) (file : FileNo) (id : ObjId) (k : ObjectKind)
      (table : Table (Held A)) (areas pins : ℕ
      → ℕ) (memory : Memory) (before pool : FramePool) (allowed : AllowedRows) (dirty : Tables)
      (kept : List TableFrame)
      (tables : PageTables) → IsTidy at w → Shows w s → first_true (destroy_checks (view w) file id) ≡ None
      → kind_of w.objects file id ≡ Some k → is_bound_device k ≡ false
      → ObjectsShown w.settings w.closed (without_object file id w.objects) w.attachments
      (filter (λ (area : Area). not (is_of file id area)) w.areas) table
      → FramesShown w.settings.pool w.writes kept s.memory before → AllStand before kept (leads_of w) tables.tables
      → objects_of tables ≡ page_tables_among (without_object file id w.objects)
      → list_all has_own_width tables.tables ≡ true
      → ((f : FileNo) (i : ObjId) → has_hwpt (without_object file id w.objects) f i ≡ true
      → areas_of (filter (λ (area : Area). not (is_of file id area)) w.areas) f i ≡ areas_of w.areas f i)
      → AreFewer areas pins w (without_object file id w.objects)
      (filter (λ (area : Area). not (is_of file id area)) w.areas)
      → IsReleased areas pins s.memory memory before pool → allowed.rows ≡ without_allowed file id s.allowed.rows
      → DirtyShown (without_tracked file id w.tracked) dirty
      → Shows (record (gone w file id) { table_frames = kept }) (record s {
        objects = table;
        allowed = allowed;
        dirty = dirty;
        page_tables = tables;
        memory = memory;
        pool = pool;
      })
  unfolding settle without_areas changed Answers
  shows_destroyed at w s file id k table areas pins memory before pool allowed dirty kept tables tidy shows none is_kind
      no_device objects shown stand are widths stay fewer released forgets marks =
      let next : ArePinned (at + 1) (gone w file id) =
      keeps_pins {A = A} at w (event.Destroy file id) reply.Done none tt tidy.pins in
      let held = each_held w.objects w.areas w.access_pins tidy.pins.held in
      let covered : CoveredAlike w (gone w file id) =
      accessed_stays {A = A} at w (event.Destroy file id) reply.Done none tt tidy.pins in
      let after = shown_over at w s tidy shows kept before shown areas pins
      (without_object file id w.objects) (filter (λ (area : Area). not (is_of file id area)) w.areas) fewer (at + 1)
      (gone w file id) memory pool next refl refl
      (objects_left (is_of file id) w.areas w.memory) refl refl covered refl released in
      record {
        settings = shows.settings;
        objects = objects;
        devices = record {
          bindings = λ device. found_without (λ (o : Object). is_bound_as device o.kind) w.objects file id k tidy.ids
              is_kind (λ object of_file of_kind. rw of_kind (unbound k device no_device))
              ∙ shows.devices.bindings device;
          rising = shows.devices.rising;
          attached = shows.devices.attached;
        };
        limits = after.limits;
        allowed = λ f i. allowed_without file id w.allowed f i
            ∙ ap (cond (is_of_space file id f i) []) (shows.allowed f i)
            ∙ sym (allowed_without file id s.allowed.rows f i)
            ∙ ap (λ (rows : List AllowedRanges). allowed_of rows f i) (sym forgets);
        dirty = marks;
        users = after.users;
        pins = after.pins;
        access_pins = shown_still w.objects (without_object file id w.objects) w.areas w.access_pins s.access_pins
            (holders_stay {A = A} at w (event.Destroy file id) reply.Done none tt) held shows.access_pins;
        frames = after.frames;
        tables = record {
          tables = are;
          widths = widths;
          stand =
              tables_lead at w s tidy shows kept before shown areas pins
              (without_object file id w.objects) (filter (λ (area : Area). not (is_of file id area)) w.areas) fewer
              (at + 1) (gone w file id) memory pool next refl refl
              (objects_left (is_of file id) w.areas w.memory) refl refl covered refl released
              pool kept tables.tables are
              (λ f i page has. ap (λ (l : List Area). leads_in (pinned_frame w.pins) l page) (stay f i has))
              (tables_stand at w s tidy shows kept before shown areas pins
              (without_object file id w.objects) (filter (λ (area : Area). not (is_of file id area)) w.areas)
              fewer (at + 1) (gone w file id) memory pool next refl refl
              (objects_left (is_of file id) w.areas w.memory) refl refl covered refl released tables.tables stand);
        };
      }
    where
      unbound : (k : ObjectKind) (device : DeviceNo) → is_bound_device k ≡ false → is_bound_as device k ≡ false
      unbound kind.Ioas device other = refl
      unbound (kind.Hwpt ioas width automatic) device other = refl
      unbound (kind.Device bound) device other = cc
      unbound (kind.Access attached) device other = refl

  -- what the record takes and gives, and what is shown after it
  abbrev Moves : ℕ → World → FileNo → ObjId → Option FrameNo → List FrameNo → State A → Type 0
  Moves at w file id via given new =
      Answers {A = A} w (event.Destroy file id) reply.Done × IsChosen {A = A} w (event.Destroy file id) via reply.Done
      × MovesTables {A = A} w (changed {A = A} at w (event.Destroy file id) reply.Done)
      (event.Destroy file id) reply.Done [] given
      × AreFramesChosen {A = A} w (changed {A = A} at w (event.Destroy file id) reply.Done) (event.Destroy file id)
      reply.Done [] given
      × Shows (with_tables [] given (changed {A = A} at w (event.Destroy file id) reply.Done)) new

  -- ---- the four ways

  -- the object's kind, in the world that is shown
  kind_shown : (w : World) (s : State A) (file : FileNo) (id : ObjId) (k : ObjectKind) → Shows w s
      → kind_of (objects_in s.objects) file id ≡ Some k → kind_of w.objects file id ≡ Some k
  kind_shown w s file id k shows is_kind = ap (λ (l : List Object). kind_of l file id) shows.objects.rows ∙ is_kind

  -- an address space
  module _ (at : ℕ) (w : World) (s : State A) (file : FileNo) (id : ObjId) (tidy : IsTidy at w) (shows : Shows w s)
      (none : first_true (destroy_checks (view w) file id) ≡ None)
      (is_kind : kind_of (objects_in s.objects) file id ≡ Some kind.Ioas) where
    space_kind : kind_of w.objects file id ≡ Some kind.Ioas
    space_kind = kind_shown w s file id kind.Ioas shows is_kind

    -- no page table stands over it, and no access object is attached to it
    alone : (has_hwpt w.objects file id ≡ false) × (has_access_to w.objects file id ≡ false)
    alone = or_false (has_hwpt w.objects file id) (has_access_to w.objects file id)
        (unused w file id kind.Ioas none space_kind)

    goes : AreFewer (over (own_areas s.objects file id)) never w (without_object file id w.objects)
        (filter (λ (area : Area). not (is_of file id area)) w.areas)
    goes =
        space_fewer w file id tidy.ids space_kind alone.0 (own_areas s.objects file id)
        (own_at s.objects file id (orderly at w s tidy shows) ∙ sym (shows.objects.spaces file id))
        (all_uncovered at w file id tidy none)

    pub space_may : MayRelease (over (own_areas s.objects file id)) never s.memory s.pool.holds
    space_may =
        may_release at w s tidy shows
        (over (own_areas s.objects file id)) never (without_object file id w.objects)
        (filter (λ (area : Area). not (is_of file id area)) w.areas) goes

    nothing_over : tables_over w.objects file id ≡ 0
    nothing_over = none_over w.objects file id alone.0

    nothing_to : accesses_to w.objects file id ≡ 0
    nothing_to = none_attached w.objects file id alone.1

    -- and no device translates by it
    nothing_on : devices_on w.attachments file id ≡ 0
    nothing_on = on_tables w.objects w.attachments file id tidy.debts.tables
        (ap (λ (o : Option ObjectKind). elim o as (λ _. Bool) [ Some k ↦ is_hwpt k | None ↦ false ]) space_kind)

    -- the page tables are the same
    same_among : page_tables_among (without_object file id w.objects) ≡ page_tables_among w.objects
    same_among = no_table_goes w.objects file id tidy.ids kind.Ioas space_kind refl

    pub space_destroyed : (table : Table (Held A)) (memory : Memory) (pool : FramePool) (allowed : AllowedRows)
        (dirty : Tables)
        → (destroy_refusal s.objects file tablekind.Ioas id ≡ None → table.rows ≡ removed file id s.objects.rows)
        → table.files ≡ s.objects.files
        → IsReleased (over (own_areas s.objects file id)) never s.memory memory s.pool pool
        → allowed.rows ≡ without_allowed file id s.allowed.rows → DirtyShown (without_tracked file id w.tracked) dirty
        → Shows (gone w file id)
        (record s { objects = table; allowed = allowed; dirty = dirty; memory = memory; pool = pool })
    unfolding settle without_areas
    space_destroyed table memory pool allowed dirty rows files released forgets marks =
        shows_destroyed at w s file id kind.Ioas table (over (own_areas s.objects file id)) never memory s.pool pool
        allowed dirty w.table_frames s.page_tables tidy shows none space_kind refl
        (objects_gone w s file id table shows row_gone files
        (λ f i. ap (λ (l : List (Row (Held A))). users_at l f i) row_gone
        ∙ other_goes w.objects w.attachments s.objects.rows shows.objects.counted file id kind.Ioas tidy.ids space_kind
        refl refl nothing_over nothing_to nothing_on f i)
        (spaces-without w.objects file id kind.Ioas tidy.ids space_kind nothing_to shows.objects.accesses))
        shows.frames shows.tables.stand (shows.tables.tables ∙ sym same_among) shows.tables.widths
        (others_stay w file id tidy.ids space_kind alone.0
        (own_areas s.objects file id) (own_at s.objects file id (orderly at w s tidy shows)
        ∙ sym (shows.objects.spaces file id)))
        goes released forgets marks
      where
        row_gone : table.rows ≡ removed file id s.objects.rows
        row_gone =
            let here = shows.objects.counted file id in
            let over = nothing_over in
            let to = nothing_to in
            let on = nothing_on in
            rows (may_go s.objects file id kind.Ioas is_kind (omega (arith, here, over, to, on)))

    pub space_moves : (via : Option FrameNo) (given : List FrameNo) (new : State A) → given ≡ []
        → Shows (gone w file id) new → Moves at w file id via given new
    unfolding changed Answers
    space_moves via given new is after =
        subst (λ (fs : List FrameNo). Moves at w file id via fs new) (sym is)
        (still {A = A} at (event.Destroy file id) via reply.Done new (λ gone t. refl) w tidy tt tt after tt
        (ap (λ (o : Option ObjectKind). elim o as (λ _. Bool) [ Some k ↦ is_hwpt k | None ↦ false ])
        space_kind))

  -- an access object
  module _ (at : ℕ) (w : World) (s : State A) (file : FileNo) (id : ObjId) (attached : Option ObjId)
      (tidy : IsTidy at w) (shows : Shows w s) (none : first_true (destroy_checks (view w) file id) ≡ None)
      (is_kind : kind_of (objects_in s.objects) file id ≡ Some (kind.Access attached)) where
    access_kind : kind_of w.objects file id ≡ Some (kind.Access attached)
    access_kind = kind_shown w s file id (kind.Access attached) shows is_kind

    -- it isn't attached
    detached : attached ≡ None
    detached = by_space attached (unused w file id (kind.Access attached) none access_kind)
      where
        by_space : (o : Option ObjId) → is_some o ≡ false → o ≡ None
        by_space None is = refl
        by_space (Some ioas) is = cc

    no_space : has_ioas w.objects file id ≡ false
    no_space = ap (λ (o : Option ObjectKind). elim o as (λ _. Bool) [ Some k ↦ is_ioas k | None ↦ false ]) access_kind

    no_areas_there : areas_of w.areas file id ≡ []
    no_areas_there = shows.objects.spaces file id
        ∙ no_space_no_areas s.objects.rows file id
        (ap (λ (l : List Object). has_ioas l file id) (sym shows.objects.rows) ∙ no_space)

    areas_same : filter (λ (area : Area). not (is_of file id area)) w.areas ≡ w.areas
    areas_same = areas_stay w.areas file id no_areas_there

    tables_same : (f : FileNo) (i : ObjId)
        → has_hwpt (without_object file id w.objects) f i ≡ has_hwpt w.objects f i
    tables_same f i = any_without (λ (o : Object). eqb o.file.0 f.0 && is_hwpt_over i o.kind) w.objects file id
        (kind.Access attached) tidy.ids access_kind
        (λ object of_file of_kind. rw of_kind (fails (eqb object.file.0 f.0)))
      where
        fails : (b : Bool) → (b && false) ≡ false
        fails true = refl
        fails false = refl

    nothing_less : AreFewer never never w (without_object file id w.objects)
        (filter (λ (area : Area). not (is_of file id area)) w.areas)
    nothing_less = record {
      over_left = λ n. let same = ap (λ (l : List Area). over l n) areas_same in omega (arith, same);
      translated_left = λ n. let same =
          ap (λ (l : List Area). translated (without_object file id w.objects) l n) areas_same
          ∙ translated_same w.objects (without_object file id w.objects) w.areas tables_same n in
          omega (arith, same);
      uncovered = all_uncovered at w file id tidy none;
    }

    none_over_it : tables_over w.objects file id ≡ 0
    none_over_it = over_spaces w.objects file id tidy.debts.spaces no_space

    none_to_it : accesses_to w.objects file id ≡ 0
    none_to_it = shows.objects.accesses file id no_space

    none_on_it : devices_on w.attachments file id ≡ 0
    none_on_it = on_tables w.objects w.attachments file id tidy.debts.tables
        (ap (λ (o : Option ObjectKind). elim o as (λ _. Bool) [ Some k ↦ is_hwpt k | None ↦ false ]) access_kind)

    pub access_destroyed : (table : Table (Held A)) (allowed : AllowedRows) (dirty : Tables)
        → (destroy_refusal s.objects file tablekind.Access id ≡ None → table.rows ≡ removed file id s.objects.rows)
        → table.files ≡ s.objects.files → allowed.rows ≡ without_allowed file id s.allowed.rows
        → DirtyShown (without_tracked file id w.tracked) dirty
        → Shows (gone w file id) (record s { objects = table; allowed = allowed; dirty = dirty })
    unfolding settle without_areas
    access_destroyed table allowed dirty rows files forgets marks =
        shows_destroyed at w s file id (kind.Access attached) table never never s.memory s.pool s.pool
        allowed dirty w.table_frames s.page_tables tidy shows none access_kind refl
        (objects_gone w s file id table shows row_gone files
        (λ f i. ap (λ (l : List (Row (Held A))). users_at l f i) row_gone
        ∙ other_goes w.objects w.attachments s.objects.rows shows.objects.counted file id (kind.Access attached)
        tidy.ids access_kind refl detached none_over_it none_to_it none_on_it f i)
        (spaces-without w.objects file id (kind.Access attached) tidy.ids access_kind none_to_it
        shows.objects.accesses))
        shows.frames shows.tables.stand
        (shows.tables.tables
        ∙ sym (no_table_goes w.objects file id tidy.ids (kind.Access attached) access_kind refl))
        shows.tables.widths (λ f i has. ap (λ (l : List Area). areas_of l f i) areas_same) nothing_less
        (released_none never never s.memory s.pool
        (may_release at w s tidy shows never never (without_object file id w.objects)
        (filter (λ (area : Area). not (is_of file id area)) w.areas) nothing_less))
        forgets marks
      where
        row_gone : table.rows ≡ removed file id s.objects.rows
        row_gone =
            let here = shows.objects.counted file id in
            let over = none_over_it in
            let to = none_to_it in
            let on = none_on_it in
            rows (may_go s.objects file id (kind.Access attached) is_kind
            (omega (arith, here, over, to, on)))

    pub access_moves : (via : Option FrameNo) (given : List FrameNo) (new : State A) → given ≡ []
        → Shows (gone w file id) new → Moves at w file id via given new
    unfolding changed Answers
    access_moves via given new is after =
        subst (λ (fs : List FrameNo). Moves at w file id via fs new) (sym is)
        (still {A = A} at (event.Destroy file id) via reply.Done new (λ gone t. refl) w tidy tt tt after tt
        (ap (λ (o : Option ObjectKind). elim o as (λ _. Bool) [ Some k ↦ is_hwpt k | None ↦ false ])
        access_kind))

  -- a page table
  module _ (at : ℕ) (w : World) (s : State A) (file : FileNo) (id ioas : ObjId) (width : Width) (automatic : Bool)
      (allowed : AllowedRows) (dirty : Tables) (tidy : IsTidy at w) (shows : Shows w s)
      (none : first_true (destroy_checks (view w) file id) ≡ None)
      (is_kind : kind_of (objects_in s.objects) file id ≡ Some (kind.Hwpt ioas width automatic)) where
    of_world : kind_of w.objects file id ≡ Some (kind.Hwpt ioas width automatic)
    of_world = kind_shown w s file id (kind.Hwpt ioas width automatic) shows is_kind

    empty : areas_of w.areas file id ≡ []
    empty = no_areas w s file id ioas width automatic shows of_world

    module _ (table : Table (Held A)) (tables : PageTables) (between : FramePool)
        (is_gone : IsTableGone file id ioas (record s { allowed = allowed; dirty = dirty }) table tables between) where
      -- the objects without it, and its address space with one user fewer
      leaves : ObjectsShown w.settings w.closed (without_object file id w.objects) w.attachments w.areas table
      leaves = is_gone.objects at w w.attachments w.areas width automatic tidy shows.objects of_world
          (none_on w.attachments file id (unused w file id (kind.Hwpt ioas width automatic) none of_world))

      objects_shown : ObjectsShown w.settings w.closed (without_object file id w.objects) w.attachments
          (filter (λ (area : Area). not (is_of file id area)) w.areas) table
      objects_shown = subst (λ (l : List Area). ObjectsShown w.settings w.closed (without_object file id w.objects)
          w.attachments l table) (sym (all_stay w file id tidy.ids ioas width automatic of_world empty)) leaves

      -- the areas of its address space
      own_kept : own_areas table file ioas ≡ areas_of w.areas file ioas
      own_kept =
          own_at table file ioas (record {
            ids = ap have_own_ids (sym leaves.rows) ∙ own_ids-filter _ w.objects tidy.ids;
          })
          ∙ sym (leaves.spaces file ioas)

      tables_here : objects_of tables ≡ page_tables_among (without_object file id w.objects)
      tables_here = ap (map (λ (h : Hwpt). h.object)) is_gone.kept
          ∙ one_left w.objects s.page_tables.tables shows.tables.tables shows.tables.widths file
          id shows.tables.stand.own

      widths_here : list_all has_own_width tables.tables ≡ true
      widths_here = ap (list_all has_own_width) is_gone.kept
          ∙ one_widths w.objects s.page_tables.tables shows.tables.tables shows.tables.widths file
          id shows.tables.stand.own

      -- whether others translate the address space is known of those that are kept
      same_left : has_hwpt (without_object file id w.objects) file ioas ≡ has_hwpt (objects_of tables) file ioas
      same_left = sym (has_hwpt_kept (objects_of tables) (without_object file id w.objects) tables_here file ioas)

      -- ---- the frames of its tables

      abbrev table_rows : List TableRow
      table_rows = rows_found w.table_frames (hwpt_of s.page_tables.tables file id)

      counted : (f : ℕ) → rows_in_frame table_rows f ≡ tables_in (filter (is_table_of file id) w.table_frames) f
      counted f = one_counted w.objects s.page_tables.tables shows.tables.tables file id w.table_frames
          (kind.Hwpt ioas width automatic) of_world refl f

      frames_between : FramesShown w.settings.pool w.writes (without_tables file id w.table_frames) s.memory between
      frames_between =
          given_shown w.settings.pool w.writes w.table_frames (is_table_of file id) table_rows s.memory
          s.pool between shows.frames
          (none_reach w.settings.pool w.writes w.objects w.table_frames (leads_of w)
          s.page_tables.tables s.memory s.pool
          shows.tables.tables tidy.tabled.owned shows.frames shows.tables.stand)
          (λ f. rows_named table_rows f ∙ ap (ltb 0) (counted f))
          (is_gone.released w.table_frames (leads_of w) shows.tables.stand)

      stand_between : AllStand between (without_tables file id w.table_frames) (leads_of w) tables.tables
      stand_between = is_gone.stand w.table_frames (leads_of w) shows.tables.stand

      areas_kept : (f : FileNo) (i : ObjId) → has_hwpt (without_object file id w.objects) f i ≡ true
          → areas_of (filter (λ (area : Area). not (is_of file id area)) w.areas) f i ≡ areas_of w.areas f i
      areas_kept f i has =
          ap (λ (l : List Area). areas_of l f i) (all_stay w file id tidy.ids ioas width automatic of_world empty)

      -- ---- the pins of its address space

      abbrev pins_gone : ℕ → ℕ
      pins_gone = untranslated_pins tables table file ioas

      fewer_pins : AreFewer never pins_gone w (without_object file id w.objects)
          (filter (λ (area : Area). not (is_of file id area)) w.areas)
      fewer_pins = table_fewer w file id tidy.ids ioas width automatic of_world empty
          (all_uncovered at w file id tidy none) (own_areas table file ioas)
          own_kept (has_hwpt (objects_of tables) file ioas) same_left

      pub may_unpin : MayRelease never pins_gone s.memory between.holds
      may_unpin =
          may_release_over at w s tidy shows (without_tables file id w.table_frames) between frames_between
          never pins_gone (without_object file id w.objects)
          (filter (λ (area : Area). not (is_of file id area)) w.areas) fewer_pins

      table_destroyed : (memory : Memory) (pool : FramePool)
          → IsReleased never pins_gone s.memory memory between pool
          → allowed.rows ≡ without_allowed file id s.allowed.rows
          → DirtyShown (without_tracked file id w.tracked) dirty
          → Shows (record (gone w file id) { table_frames = without_tables file id w.table_frames })
          (record s {
            objects = table;
            allowed = allowed;
            dirty = dirty;
            page_tables = tables;
            memory = memory;
            pool = pool;
          })
      table_destroyed memory pool released forgets marks =
          shows_destroyed at w s file id (kind.Hwpt ioas width automatic) table never pins_gone memory between pool
          allowed dirty (without_tables file id w.table_frames) tables tidy shows none of_world refl objects_shown
          frames_between stand_between tables_here widths_here areas_kept fewer_pins released forgets marks

      -- and the record gives the frames back
      table_moves : (via : Option FrameNo) (out given : List FrameNo) (new : State A) → out ≡ []
          → IfAllStand s.pool s.page_tables.tables
          (λ frames leads. GivesBack (rows_found frames (hwpt_of s.page_tables.tables file id)) out given)
          → Shows (record (gone w file id) { table_frames = without_tables file id w.table_frames }) new
          → Moves at w file id via given new
      unfolding changed settle without_areas Answers
      table_moves via out given new none_out gives after =
          gives_back {A = A} at w s new (event.Destroy file id) via reply.Done (is_table_of file id) table_rows
          given tidy shows none tt tt (λ gone t. refl)
          (orphans_are (λ (o : Object). not (is_object file id o)) (is_table_of file id) w.objects w.table_frames
          (of_one file id) tidy.tabled.owned)
          (subst (λ (l : List FrameNo). GivesBack table_rows l given) none_out
          (gives w.table_frames (leads_of w) shows.tables.stand)) counted
          tt after

    pub shows_lost : (to : State A) → HasLostTable file id ioas (record s { allowed = allowed; dirty = dirty }) to
        → allowed.rows ≡ without_allowed file id s.allowed.rows
        → DirtyShown (without_tracked file id w.tracked) dirty → (via : Option FrameNo) (out given : List FrameNo)
        → out ≡ []
        → IfAllStand s.pool s.page_tables.tables
        (λ frames leads. GivesBack (rows_found frames (hwpt_of s.page_tables.tables file id)) out given)
        → Moves at w file id via given to
    shows_lost to lost forgets marks via out given none_out gives =
        subst (Moves at w file id via given) (sym lost.others)
        (table_moves to.objects to.page_tables lost.between lost.gone via out given _ none_out gives
        (table_destroyed to.objects to.page_tables lost.between lost.gone to.memory to.pool lost.pins forgets
        marks))

  -- ---- what was refused

  pub never_device : (w : World) (s : State A) (file : FileNo) (id : ObjId) (device : DeviceNo) → Shows w s
      → first_true (destroy_checks (view w) file id) ≡ None
      → kind_of (objects_in s.objects) file id ≡ Some (kind.Device device) → ⊥
  never_device w s file id device shows none is_kind =
      let of_world = kind_shown w s file id (kind.Device device) shows is_kind in
      clash true (ap is_device_object (sym of_world) ∙ (destroy_passed (view w) file id none).no_device) refl

  pub never_none : (w : World) (s : State A) (file : FileNo) (id : ObjId) → Shows w s
      → first_true (destroy_checks (view w) file id) ≡ None → kind_of (objects_in s.objects) file id ≡ None → ⊥
  never_none w s file id shows none is_kind =
      let of_world = ap (λ (l : List Object). kind_of l file id) shows.objects.rows ∙ is_kind in
      clash true (ap (λ (o : Option ObjectKind). is_none o) (sym of_world)
      ∙ (destroy_passed (view w) file id none).there) refl
