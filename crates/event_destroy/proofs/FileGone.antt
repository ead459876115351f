-- A file that was closed: all its objects, areas and attachments are gone.
use Rattle.std.proofs.Common.{◌≡◌, ◌≢◌, ℕ, zero, suc, ◌-◌, ◌<◌, Vec, Bool, true, false, cond, ◌&&◌, ◌||◌, not, eqb, ltb}
use Rattle.std.proofs.Common.{is_some, None, List, [], ◌∷◌, ◌++◌, map, Option, get_or, set, refl, sym, ◌∙◌, ap, subst}
use Rattle.std.proofs.Common.{arith, get_or-set_other, ◌+◌, ◌≤◌, length}
use Rattle.iofd_runs.proofs.KeepsPins.{keeps_pins}
use Rattle.iofd_runs.proofs.NotRefused.{close_passed}
use Rattle.frame_memory.specs.Pool.{FramePool}
use Rattle.user_memory_rows.proofs.Counts.{count_alike, count_within}
use Rattle.user_memory_rows.proofs.Gone.{objects_left, over_parts, translated_parts}
use Rattle.user_memory_rows.specs.Moves.{IsReleased, MayRelease}
use Rattle.user_memory_rows.specs.Shown.{over, tables_in, translated}
use Rattle.user_memory.specs.Memory.{Memory}
use Rattle.server_state.proofs.Orderly.{orderly}
use Rattle.server_state.proofs.MemoryReleased.{AreFewer, may_release, shown_after, tables_lead, tables_stand}
use Rattle.server_state.proofs.MemoryReleased.{gone_uncovered}
use Rattle.event_destroy.proofs.CountsClosed.{file_goes, spaces_left}
use Rattle.event_destroy.proofs.GivesBackMoves.{gives_back}
use Rattle.event_destroy.proofs.TablesGone.{file_counted, of_file, orphans_are, rows_named}
use Rattle.server_state.proofs.TablesUnreached.{none_reach}
use Rattle.event_destroy.proofs.TablesLeft.{file_left, file_widths}
use Rattle.page_table_set.proofs.Counted.{rows_in_frame}
use Rattle.page_table_set.specs.PageTables.{AllStand, Hwpt, IfAllStand, PageTables, objects_of as objects_kept}
use Rattle.page_table_set.specs.Removed.{CanRemoveFile, rows_of_file, without_file, without_tables_of}
use Rattle.iofd_rows.specs.Pinned.{ArePinned}
use Rattle.iofd_words.specs.Tables.{MovesTables, with_tables}
use Rattle.iofd_words.specs.World.{World}
use Rattle.iofd_words.specs.declared.numbers.FrameNo.{FrameNo}
use Rattle.iofd_words.specs.declared.rows.TableFrame.{TableFrame}
use Rattle.server_state.proofs.GivenShown.{given_shown}
use Rattle.server_state.specs.Choice.{AreFramesChosen, IsChosen}
use Rattle.server_state.specs.Leads.{leads_in, leads_of}
use Rattle.page_table_words.specs.Released.{GivesBack, Releases}
use Rattle.page_table_words.specs.Rows.{TableRow}
use Rattle.event_destroy.proofs.RowsCounted.{file_over, file_translated}
use Rattle.event_destroy.specs.FileAreas.{areas_of_rows, translated_of}
use Rattle.dirty_bitmap.specs.Tracking.{Tables}
use Rattle.iofd_words.specs.Allowed.{AllowedRanges, allowed_of}
use Rattle.iofd_words.specs.Dirty.{TrackedTable}
use Rattle.iofd_steps.specs.Answers.{Answers}
use Rattle.std.specs.List.{find, filter, list_all, list_any}
use Rattle.std.proofs.lemmas.Bool.{eqb-true}
use Rattle.std.proofs.lemmas.Bool.Decides.{nat_tests}
use Rattle.std.proofs.lemmas.List.Folds.{list_any-append}
use Rattle.iofd_steps.specs.After.{settle, without_areas, changed}
use Rattle.iofd_words.specs.Areas.{areas_of}
use Rattle.iofd_refusals.specs.Checks.{close_checks}
use Rattle.iofd_words.specs.Files as files
use Rattle.iofd_words.specs.FirstTrue.{first_true}
use Rattle.iofd_words.specs.Objects.{has_hwpt, is_access, is_bound_as, is_bound_device, objects_of}
use Rattle.iofd_words.specs.Pins.{pinned_frame}
use Rattle.iofd_words.specs.View.{view}
use Rattle.iofd_words.specs.declared.event.Event.TheVariants as event
use Rattle.iofd_words.specs.declared.reply.Reply.TheVariants as reply
use Rattle.iofd_words.specs.declared.numbers.DeviceNo.{DeviceNo}
use Rattle.iofd_words.specs.declared.numbers.FileNo.{FileNo}
use Rattle.iofd_words.specs.declared.numbers.ObjId.{ObjId}
use Rattle.iofd_words.specs.declared.rows.Area.{Area}
use Rattle.iofd_words.specs.declared.rows.Attachment.{Attachment}
use Rattle.iofd_words.specs.declared.rows.Object.{Object}
use Rattle.iofd_words.specs.declared.rows.ObjectKind.{ObjectKind}
use Rattle.iofd_words.specs.declared.rows.ObjectKind.TheVariants as kind
use Rattle.iova_ranges.specs.AllowedRows.{AllowedRows}
use Rattle.iofd_rows.proofs.Allowed.{allowed_closed}
use Rattle.iofd_rows.proofs.Bools.{and_true, both_true, clash, or_false}
use Rattle.iofd_rows.proofs.Found.{find-filter}
use Rattle.iofd_rows.proofs.ListTests.{any-filter, none_stronger}
use Rattle.event_destroy.specs.Held.{keeps_open}
use Rattle.server_state.proofs.SpacesGone.{kind_rows}
use Rattle.server_state.specs.Held.{areas_at, close_refusal, held_kind, kind_in, object_of, objects_in, table_kind}
use Rattle.server_state.specs.Users.{users_at}
use Rattle.server_state.specs.Shows.{DirtyShown, Shows}
use Rattle.server_state.specs.Step.{IsTidy}
use Rattle.server_state.specs.Tables.{has_own_width, page_tables_among}
use Rattle.server_state.specs.declared.held.Held.{Held}
use Rattle.server_state.specs.declared.state.State.{State}
use Rattle.object_table.specs.Table.{Row, Table, closed, is_held, is_of_file, is_open, keeps_file_open, rows_of}
use Rattle.server_state.proofs.AccessPinsStay.{holders_stay, shown_still}
use Rattle.user_memory_rows.proofs.AccessStays.{CoveredAlike, accessed_stays}
use Rattle.iofd_runs.proofs.Accessed.{EachHeld, each_held}
use Rattle.iofd_runs.proofs.HoldersStay.{closed_free}

-- ---- files

closed_here : (l : List Bool) (i : ℕ) → get_or (set l i false) i false ≡ false
closed_here [] i = refl
closed_here (x ∷ l) zero = refl
closed_here (x ∷ l) (suc i) = closed_here l i

-- the file isn't open any more, and others are as they were
open_after : (l : List Bool) (file number : ℕ) → 0 < file
    → (ltb 0 number && get_or (set l (file - 1) false) (number - 1) false)
    ≡ ((ltb 0 number && get_or l (number - 1) false) && not (eqb file number))
open_after l file number above = by_tests (eqb file number) (ltb 0 number) refl refl
  where
    none : (b : Bool) → (b && false) ≡ false
    none true = refl
    none false = refl

    all : (b : Bool) → (b && true) ≡ b
    all true = refl
    all false = refl

    by_tests : (same some : Bool) → eqb file number ≡ same → ltb 0 number ≡ some
        → (some && get_or (set l (file - 1) false) (number - 1) false)
        ≡ ((some && get_or l (number - 1) false) && not same)
    by_tests true some is has =
        let numbers = eqb-true file number is in
        rw (← numbers, closed_here l (file - 1), none some) (sym (none (some && get_or l (file - 1) false)))
    by_tests false false is has = refl
    by_tests false true is has =
        let positive : 0 < number = search (has, arith, nat_tests) in
        let differ : file ≢ number = search (is, arith, nat_tests) in
        let other : number - 1 ≢ file - 1 = λ same. differ (omega arith) in
        get_or-set_other l (file - 1) (number - 1) false false other ∙ sym (all (get_or l (number - 1) false))

both_closed : (u any same : Bool) → ((u && not any) && not same) ≡ (u && not (any || (same || false)))
both_closed true true same = refl
both_closed true false true = refl
both_closed true false false = refl
both_closed false any same = refl

-- ---- the world's rows of other files

hwpt_other : (objects : List Object) (file f : FileNo) (i : ObjId) → eqb f.0 file.0 ≡ false
    → has_hwpt (filter (λ object. not (eqb object.file.0 file.0)) objects) f i ≡ has_hwpt objects f i
hwpt_other [] file f i other = refl
hwpt_other (object ∷ objects) file f i other = let rest = hwpt_other objects file f i other in grind (arith, nat_tests)

areas_closed : (areas : List Area) (file f : FileNo) (i : ObjId) → eqb f.0 file.0 ≡ true
    → areas_of (filter (λ area. not (eqb area.file.0 file.0)) areas) f i ≡ []
areas_closed [] file f i same = refl
areas_closed (area ∷ areas) file f i same = let rest = areas_closed areas file f i same in grind (arith, nat_tests)

areas_other : (areas : List Area) (file f : FileNo) (i : ObjId) → eqb f.0 file.0 ≡ false
    → areas_of (filter (λ area. not (eqb area.file.0 file.0)) areas) f i ≡ areas_of areas f i
areas_other [] file f i other = refl
areas_other (area ∷ areas) file f i other = let rest = areas_other areas file f i other in grind (arith, nat_tests)

-- an object keeps its file open in the table where it does in the world
kept_open : (k : ObjectKind) → keeps_file_open (table_kind k) ≡ keeps_open k
kept_open kind.Ioas = refl
kept_open (kind.Hwpt ioas width automatic) = refl
kept_open (kind.Device device) = refl
kept_open (kind.Access attached) = refl

neither : {X : Type 0} (p q : X → Bool) (xs : List X) → list_any p xs ≡ false → list_any q xs ≡ false
    → list_any (λ x. p x || q x) xs ≡ false
neither p q [] none others = refl
neither p q (x ∷ xs) none others =
    let first = or_false (p x) (list_any p xs) none in
    let second = or_false (q x) (list_any q xs) others in
    rw (first.0, second.0) (neither p q xs first.1 second.1)

module _ {A : Type 0} where
  -- ---- the table's rows of other files

  objects-closed : (rows : List (Row (Held A))) (file : FileNo)
      → map object_of (filter (λ row. not (is_of_file file row)) rows) ≡ filter
      (λ object. not (eqb object.file.0 file.0)) (map object_of rows)
  objects-closed [] file = refl
  objects-closed (row ∷ rows) file = let rest = objects-closed rows file in grind (arith, nat_tests)

  rows_closed : (rows : List (Row (Held A))) (file f : FileNo) (i : ObjId) → eqb f.0 file.0 ≡ true
      → areas_at (filter (λ row. not (is_of_file file row)) rows) f i ≡ []
  rows_closed [] file f i same = refl
  rows_closed (row ∷ rows) file f i same = let rest = rows_closed rows file f i same in grind (arith, nat_tests)

  rows_other : (rows : List (Row (Held A))) (file f : FileNo) (i : ObjId) → eqb f.0 file.0 ≡ false
      → areas_at (filter (λ row. not (is_of_file file row)) rows) f i ≡ areas_at rows f i
  rows_other [] file f i other = refl
  rows_other (row ∷ rows) file f i other = let rest = rows_other rows file f i other in grind (arith, nat_tests)

  areas-closed : (areas : List Area) (rows : List (Row (Held A))) (file : FileNo)
      → ((f : FileNo) (i : ObjId) → areas_of areas f i ≡ areas_at rows f i)
      → (f : FileNo) (i : ObjId) → areas_of (filter (λ area. not (eqb area.file.0 file.0)) areas) f i ≡ areas_at
      (filter (λ row. not (is_of_file file row)) rows) f i
  areas-closed areas rows file same f i = by_file (eqb f.0 file.0) refl
    where
      by_file : (b : Bool) → eqb f.0 file.0 ≡ b
          → areas_of (filter (λ area. not (eqb area.file.0 file.0)) areas) f i ≡ areas_at
          (filter (λ row. not (is_of_file file row)) rows) f i
      by_file true is = areas_closed areas file f i is ∙ sym (rows_closed rows file f i is)
      by_file false is = areas_other areas file f i is ∙ same f i ∙ sym (rows_other rows file f i is)

  -- ---- the table lets the file go

  held_open : (rows : List (Row (Held A))) → list_any (λ row. keeps_file_open (held_kind row.value)) rows
      ≡ list_any (λ row. keeps_open (kind_in row.value)) rows
  held_open [] = refl
  held_open (row ∷ rows) = rw (kept_open (kind_in row.value), held_open rows) refl

  -- the table holds the file open where the world does
  pub held_is : (table : Table (Held A)) (file : FileNo) → is_held held_kind table file
      ≡ list_any (λ object. keeps_open object.kind) (objects_of (objects_in table) file)
  held_is table file = held_open (rows_of table file) ∙ sym (kind_rows keeps_open table.rows file)

  module _ (at : ℕ) (w : World) (s : State A) (file : FileNo) (tidy : IsTidy at w) (shows : Shows w s)
      (none : first_true (close_checks (view w) file) ≡ None) where
    no_device : list_any (λ (object : Object). is_bound_device object.kind) (objects_of w.objects file) ≡ false
    no_device = (close_passed (view w) file none).no_device

    opened : is_open s.objects file ≡ true
    opened = shows.objects.files file ∙ (close_passed (view w) file none).opened

    may_close : close_refusal s.objects file ≡ None
    may_close =
        let no = held_is s.objects file
        ∙ ap (λ (l : List Object). list_any (λ object. keeps_open object.kind) (objects_of l file))
        (sym shows.objects.rows)
        ∙ neither (λ (o : Object). is_bound_device o.kind) (λ (o : Object). is_access o.kind)
        (objects_of w.objects file) no_device (close_passed (view w) file none).no_access in
        rw (opened, no) refl

    -- the same files are open, but for this one
    files_left : (number : FileNo) → is_open (closed s.objects file) number ≡ files.is_open w.settings
        (w.closed ++ file ∷ []) number
    files_left number =
        let above : 0 < file.0 = positive file.0 (and_true (ltb 0 file.0) _ opened).0 in
        open_after s.objects.files file.0 number.0 above
        ∙ ap (λ b. b && not (eqb file.0 number.0)) (shows.objects.files number)
        ∙ both_closed (is_some (files.user_of w.settings number))
        (list_any (λ f. eqb f.0 number.0) w.closed) (eqb file.0 number.0)
        ∙ ap (λ b. is_some (files.user_of w.settings number) && not b)
        (sym (list_any-append (λ (f : FileNo). eqb f.0 number.0) w.closed (file ∷ [])))
      where
        positive : (n : ℕ) → ltb 0 n ≡ true → 0 < n
        positive n is = search (is, arith, nat_tests)

    -- no device is bound to it
    bound_left : (device : DeviceNo) → find (λ (o : Object). is_bound_as device o.kind)
        (filter (λ (o : Object). not (eqb o.file.0 file.0)) w.objects) ≡ find
        (λ (o : Object). is_bound_as device o.kind) w.objects
    bound_left device =
        find-filter (λ (o : Object). is_bound_as device o.kind) (λ (o : Object). not (eqb o.file.0 file.0)) w.objects
        (none_stronger (λ (o : Object). is_bound_as device o.kind && not (not (eqb o.file.0 file.0)))
        (λ (o : Object). eqb o.file.0 file.0 && is_bound_device o.kind) w.objects
        (λ o both. let parts = and_true (is_bound_as device o.kind) (not (not (eqb o.file.0 file.0))) both in both_true
        _ _ (twice _ parts.1) (bound o.kind parts.0))
        (sym (any-filter (λ (o : Object). is_bound_device o.kind) (λ (o : Object). eqb o.file.0 file.0) w.objects)
        ∙ no_device))
      where
        twice : (b : Bool) → not (not b) ≡ true → b ≡ true
        twice true is = refl
        twice false is = cc

        bound : (k : ObjectKind) → is_bound_as device k ≡ true → is_bound_device k ≡ true
        bound kind.Ioas is = cc
        bound (kind.Hwpt ioas width automatic) is = cc
        bound (kind.Device d) is = refl
        bound (kind.Access attached) is = cc

    -- ---- what goes of the counts

    abbrev is_in : Area → Bool
    is_in area = eqb area.file.0 file.0

    abbrev left : List Object
    left = filter (λ (o : Object). not (eqb o.file.0 file.0)) w.objects

    abbrev stay : List Area
    stay = filter (λ (area : Area). not (eqb area.file.0 file.0)) w.areas

    -- other files keep their page tables
    tables_stay : (n : ℕ) → translated left stay n ≡ translated w.objects stay n
    tables_stay n =
        count_within (λ (area : Area). eqb area.memory n && has_hwpt left area.file area.ioas)
        (λ (area : Area). not (eqb area.file.0 file.0)) w.areas
        ∙ count_alike (λ (area : Area). not (eqb area.file.0 file.0)
        && (eqb area.memory n && has_hwpt left area.file area.ioas)) (λ (area : Area). not
        (eqb area.file.0 file.0) && (eqb area.memory n && has_hwpt w.objects area.file area.ioas)) w.areas
        (λ area. by_file area (eqb area.file.0 file.0) refl)
        ∙ sym (count_within (λ (area : Area). eqb area.memory n && has_hwpt w.objects area.file area.ioas)
        (λ (area : Area). not (eqb area.file.0 file.0)) w.areas)
      where
        by_file : (area : Area) (b : Bool) → eqb area.file.0 file.0 ≡ b
            → (not b && (eqb area.memory n && has_hwpt left area.file area.ioas)) ≡ (not b
            && (eqb area.memory n && has_hwpt w.objects area.file area.ioas))
        by_file area true is = refl
        by_file area false is = ap (λ b. eqb area.memory n && b) (hwpt_other w.objects file area.file area.ioas is)

    held : EachHeld w.objects w.areas w.access_pins
    held = each_held w.objects w.areas w.access_pins tidy.pins.held

    fewer : AreFewer (over (areas_of_rows (rows_of s.objects file)))
        (over (translated_of (objects_in s.objects) (rows_of s.objects file))) w left stay
    fewer = record {
      over_left = λ n. ap (λ k. over stay n + k)
          (sym (file_over w.areas s.objects.rows file (orderly at w s tidy shows).ids shows.objects.spaces n))
          ∙ over_parts is_in w.areas n;
      translated_left =
          λ n. ap (λ k. k + over (translated_of (objects_in s.objects) (rows_of s.objects file)) n) (tables_stay n)
          ∙ ap (λ k. translated w.objects stay n + k)
          (sym (file_translated w.areas s.objects.rows file (orderly at w s tidy shows).ids shows.objects.spaces
          (objects_in s.objects) n))
          ∙ ap (λ (l : List Object). translated w.objects stay n + translated l (filter is_in w.areas) n)
          (sym shows.objects.rows)
          ∙ translated_parts w.objects is_in w.areas n;
      uncovered = gone_uncovered w is_in tidy.pins
          (closed_free w file (close_passed (view w) file none).no_access held);
    }

    pub areas_may : MayRelease (over (areas_of_rows (rows_of s.objects file)))
        (over (translated_of (objects_in s.objects) (rows_of s.objects file))) s.memory s.pool.holds
    areas_may =
        may_release at w s tidy shows
        (over (areas_of_rows (rows_of s.objects file)))
        (over (translated_of (objects_in s.objects) (rows_of s.objects file))) left stay fewer

    -- a file with a page table is another one
    areas_kept : (f : FileNo) (i : ObjId) → has_hwpt left f i ≡ true → areas_of stay f i ≡ areas_of w.areas f i
    areas_kept f i has = by_file (eqb f.0 file.0) refl
      where
        none_here : (objects : List Object) → eqb f.0 file.0 ≡ true
            → has_hwpt (filter (λ (o : Object). not (eqb o.file.0 file.0)) objects) f i ≡ false
        none_here [] is = refl
        none_here (o ∷ objects) is = let rest = none_here objects is in grind (arith, nat_tests)

        by_file : (b : Bool) → eqb f.0 file.0 ≡ b → areas_of stay f i ≡ areas_of w.areas f i
        by_file true is = absurd (clash (has_hwpt left f i) (none_here w.objects is) has)
        by_file false is = areas_other w.areas file f i is

    -- ---- the memory is let go of

    module _ (memory : Memory) (between : FramePool)
        (released : IsReleased (over (areas_of_rows (rows_of s.objects file)))
        (over (translated_of (objects_in s.objects) (rows_of s.objects file))) s.memory memory s.pool between) where
      next : ArePinned (at + 1) (changed {A = A} at w (event.Close file) reply.Done)
      unfolding Answers
      next = keeps_pins {A = A} at w (event.Close file) reply.Done none tt tidy.pins

      stand_between : AllStand between w.table_frames (leads_of w) s.page_tables.tables
      unfolding changed settle without_areas Answers
      stand_between =
          let covered : CoveredAlike w (changed {A = A} at w (event.Close file) reply.Done) =
          accessed_stays {A = A} at w (event.Close file) reply.Done none tt tidy.pins in
          tables_stand at w s tidy shows w.table_frames s.pool shows.frames
          (over (areas_of_rows (rows_of s.objects file)))
          (over (translated_of (objects_in s.objects) (rows_of s.objects file))) left stay fewer
          (at + 1) (changed {A = A} at w (event.Close file) reply.Done) memory between next refl refl
          (objects_left is_in w.areas w.memory) refl refl covered refl released s.page_tables.tables shows.tables.stand

      -- and there is room for the frames of the file's page tables still
      pub can_remove : (room : ℕ) → IfAllStand s.pool s.page_tables.tables
          (λ frames leads. length (rows_of_file frames file s.page_tables.tables) ≤ room)
          → CanRemoveFile between s.page_tables.tables file room
      can_remove room enough = record {
        frames = w.table_frames;
        leads = leads_of w;
        stand = stand_between;
        enough = enough w.table_frames (leads_of w) shows.tables.stand;
      }

      -- ---- the page tables go

      module _ (tables : PageTables) (pool : FramePool) (kept : tables.tables ≡ without_file file s.page_tables.tables)
          (stands : IfAllStand between s.page_tables.tables
          (λ frames leads. AllStand pool (without_tables_of file frames) leads tables.tables))
          (releases : IfAllStand between s.page_tables.tables
          (λ frames leads. Releases (rows_of_file frames file s.page_tables.tables) between pool)) where
        abbrev table_rows : List TableRow
        table_rows = rows_of_file w.table_frames file s.page_tables.tables

        counted : (f : ℕ) → rows_in_frame table_rows f ≡ tables_in
            (filter (λ (t : TableFrame). eqb t.file.0 file.0) w.table_frames) f
        counted f = file_counted w.objects s.page_tables.tables shows.tables.tables shows.tables.stand.own file
            w.table_frames tidy.tabled.owned f

        pub shows_closed : (table : Table (Held A)) (attachments : Vec Attachment A) (allowed : AllowedRows)
            (dirty : Tables)
            → (close_refusal s.objects file ≡ None → table ≡ closed s.objects file)
            → attachments.items ≡ filter (λ (a : Attachment). not (eqb a.file.0 file.0)) s.attachments.items
            → allowed.rows ≡ filter (λ (row : AllowedRanges). not (eqb row.file.0 file.0)) s.allowed.rows
            → DirtyShown (filter (λ (t : TrackedTable). not (eqb t.file.0 file.0)) w.tracked) dirty
            → Shows (record (changed {A = A} at w (event.Close file) reply.Done) {
              table_frames = without_tables_of file
                  w.table_frames;
            }) (record s {
              objects = table;
              allowed = allowed;
              dirty = dirty;
              page_tables = tables;
              attachments = attachments;
              memory = memory;
              pool = pool;
            })
        unfolding changed settle without_areas Answers
        shows_closed table attachments allowed dirty closes detached forgets marks =
            let is = closes may_close in
            let covered : CoveredAlike w (changed {A = A} at w (event.Close file) reply.Done) =
            accessed_stays {A = A} at w (event.Close file) reply.Done none tt tidy.pins in
            let after =
            shown_after at w s tidy shows
            (over (areas_of_rows (rows_of s.objects file)))
            (over (translated_of (objects_in s.objects) (rows_of s.objects file))) left stay fewer
            (at + 1) (changed {A = A} at w (event.Close file) reply.Done) memory between next refl refl
            (objects_left is_in w.areas w.memory) refl refl covered refl released in
            let are : objects_kept tables ≡ page_tables_among left = ap (map (λ (h : Hwpt). h.object)) kept
            ∙ file_left w.objects s.page_tables.tables shows.tables.tables shows.tables.widths file in
            record {
              settings = shows.settings;
              objects = record {
                rows = ap (filter (λ (o : Object). not (eqb o.file.0 file.0))) shows.objects.rows
                    ∙ sym (objects-closed s.objects.rows file) ∙ ap objects_in (sym is);
                spaces = λ f i. areas-closed w.areas s.objects.rows file shows.objects.spaces f i
                    ∙ ap (λ (t : Table (Held A)). areas_at t.rows f i) (sym is);
                files = λ number. ap (λ (t : Table (Held A)). is_open t number) is ∙ files_left number;
                counted = λ f i. ap (λ (t : Table (Held A)). users_at t.rows f i) is
                    ∙ file_goes w.objects w.attachments s.objects.rows shows.objects.counted file f i;
                accesses = spaces_left w.objects shows.objects.accesses file;
              };
              devices = record {
                bindings = λ device. bound_left device ∙ shows.devices.bindings device;
                rising = shows.devices.rising;
                attached =
                    ap (filter (λ (a : Attachment). not (eqb a.file.0 file.0))) shows.devices.attached ∙ sym detached;
              };
              limits = after.limits;
              allowed = λ f i. allowed_closed file w.allowed f i ∙ ap (cond (eqb f.0 file.0) []) (shows.allowed f i)
                  ∙ sym (allowed_closed file s.allowed.rows f i)
                  ∙ ap (λ (rows : List AllowedRanges). allowed_of rows f i) (sym forgets);
              dirty = marks;
              users = after.users;
              pins = after.pins;
              access_pins = shown_still w.objects left w.areas w.access_pins s.access_pins
                  (holders_stay {A = A} at w (event.Close file) reply.Done none tt) held shows.access_pins;
              frames =
                  given_shown w.settings.pool w.writes w.table_frames (λ (t : TableFrame). eqb t.file.0 file.0)
                  table_rows memory between pool after.frames
                  (none_reach w.settings.pool w.writes w.objects w.table_frames (leads_of w) s.page_tables.tables memory
                  between shows.tables.tables tidy.tabled.owned after.frames stand_between)
                  (λ f. rows_named table_rows f ∙ ap (ltb 0) (counted f))
                  (releases w.table_frames (leads_of w) stand_between);
              tables = record {
                tables = are;
                widths = ap (list_all has_own_width) kept
                    ∙ file_widths w.objects s.page_tables.tables shows.tables.tables shows.tables.widths file;
                stand =
                    tables_lead at w s tidy shows w.table_frames s.pool shows.frames
                    (over (areas_of_rows (rows_of s.objects file)))
                    (over (translated_of (objects_in s.objects) (rows_of s.objects file))) left stay fewer
                    (at + 1) (changed {A = A} at w (event.Close file) reply.Done) memory between next refl refl
                    (objects_left is_in w.areas w.memory) refl refl covered refl released
                    pool (without_tables_of file w.table_frames) tables.tables are
                    (λ f i page has. ap (λ (l : List Area). leads_in (pinned_frame w.pins) l page)
                    (areas_kept f i has))
                    (stands w.table_frames (leads_of w) stand_between);
              };
            }

        -- and the record gives the frames back
        pub close_moves : (via : Option FrameNo) (out given : List FrameNo) (new : State A) → out ≡ []
            → IfAllStand between s.page_tables.tables
            (λ frames leads. GivesBack (rows_of_file frames file s.page_tables.tables) out given)
            → Shows (record (changed {A = A} at w (event.Close file) reply.Done) {
              table_frames = without_tables_of
                  file w.table_frames;
            }) new
            → Answers {A = A} w (event.Close file) reply.Done × IsChosen {A = A} w (event.Close file) via reply.Done
            × MovesTables {A = A} w (changed {A = A} at w (event.Close file) reply.Done)
            (event.Close file) reply.Done [] given
            × AreFramesChosen {A = A} w (changed {A = A} at w (event.Close file) reply.Done) (event.Close file)
            reply.Done [] given
            × Shows (with_tables [] given (changed {A = A} at w (event.Close file) reply.Done)) new
        unfolding changed settle without_areas Answers
        close_moves via out given new none_out gives after =
            gives_back {A = A} at w s new (event.Close file) via reply.Done (λ (t : TableFrame). eqb t.file.0 file.0)
            table_rows given tidy shows none tt tt (λ gone t. refl)
            (orphans_are (λ (o : Object). not (eqb o.file.0 file.0)) (λ (t : TableFrame). eqb t.file.0 file.0) w.objects
            w.table_frames (of_file file) tidy.tabled.owned)
            (subst (λ (l : List FrameNo). GivesBack table_rows l given) none_out
            (gives w.table_frames (leads_of w) stand_between)) counted
            tt after
