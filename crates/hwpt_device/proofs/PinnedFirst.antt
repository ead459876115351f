-- Before a page table is added its pages are pinned: what is shown then, and that all other page tables stand.
use Rattle.std.proofs.Common.{◌≡◌, ℕ, ◌+◌, ◌<◌, Bool, true, false, cond, ◌&&◌, ◌||◌, eqb, ltb, get_or, inl, inr}
use Rattle.std.proofs.Common.{is_some, Option, Some, None, List, [], ◌∷◌, map, refl, sym, ◌∙◌, ap, arith}
use Rattle.std.specs.List.{count_by, list_any}
use Rattle.frame_memory.specs.Pool.{FramePool}
use Rattle.page_table_set.specs.PageTables.{AllStand, Hwpt, hwpt_of}
use Rattle.iofd_rows.specs.Pinned.{ArePinned}
use Rattle.iofd_rows.proofs.Bools.{and_true, both_true}
use Rattle.iofd_rows.proofs.Each.{IsIn, in_filter}
use Rattle.iofd_rows.proofs.Unusable.{each_not, none_of}
use Rattle.iofd_runs.proofs.Accessed.{HoldersStay}
use Rattle.iofd_runs.proofs.HoldersStay.{more_accesses}
use Rattle.iofd_runs.proofs.KeepsPins.{table_pinned}
use Rattle.iofd_runs.proofs.OwnIds.{any_found, unused}
use Rattle.iofd_steps.specs.After.{settle}
use Rattle.iofd_words.specs.Areas.{areas_of}
use Rattle.iofd_words.specs.Frames.{frame_at}
use Rattle.iofd_words.specs.Pins.{ObjectPage}
use Rattle.iofd_words.specs.Objects.{has_hwpt, is_fresh, is_hwpt, is_object, with_object}
use Rattle.iofd_words.specs.View.{view}
use Rattle.iofd_words.specs.World.{World}
use Rattle.iofd_words.specs.declared.numbers.FileNo.{FileNo}
use Rattle.iofd_words.specs.declared.numbers.ObjId.{ObjId}
use Rattle.iofd_words.specs.declared.rows.Area.{Area}
use Rattle.iofd_words.specs.declared.rows.MemoryObject.{MemoryObject}
use Rattle.iofd_words.specs.declared.rows.Object.{Object}
use Rattle.iofd_words.specs.declared.rows.UserPage.{UserPage}
use Rattle.iofd_words.specs.declared.width.Width.{Width}
use Rattle.user_memory_rows.proofs.FramesFollow.{frames_follow, translated_same}
use Rattle.user_memory_rows.proofs.Named.{settles_named}
use Rattle.user_memory_rows.proofs.PinsFollow.{only_kept, pins_follow, still_some}
use Rattle.user_memory_rows.specs.Moves.{ArePinnedMore}
use Rattle.user_memory_rows.specs.Shown.{FramesShown, PinsShown, UsersShown, has_page, over, translated}
use Rattle.server_state.proofs.AccessPinsStay.{covered_still}
use Rattle.server_state.proofs.FreeAlike.{AreAlike, free_alike}
use Rattle.server_state.proofs.LeadsStay.{is_translated, leads_alike, pin_stays, spaces_alike, stand_alike}
use Rattle.server_state.proofs.TablesFollow.{tables_follow}
use Rattle.server_state.specs.Leads.{leads_of, object_page, space_leads}
use Rattle.server_state.specs.Shows.{Shows}
use Rattle.server_state.specs.Step.{IsTidy}
use Rattle.server_state.specs.Tables.{page_tables_among}
use Rattle.server_state.specs.declared.state.State.{State}
use Rattle.user_memory.specs.Changes.{HasPins}
use Rattle.user_memory.specs.Memory.{Memory, access_pins, is_pinned, rows_of, table_pins}
use Rattle.hwpt_device.proofs.FilledInTurn.{Leads}
use Rattle.hwpt_device.proofs.Gained.{same_tables, table_gained}
use Rattle.hwpt_device.specs.Making.{IsRoomy, made_object, with_table}
use Rattle.hwpt_device.specs.Pinning.{newly_translated}

-- pins come: what was pinned still is
stays_pinned : (more : ℕ → ℕ) (old new : Memory) → HasPins more old new → (page : ObjectPage)
    → is_pinned old page ≡ true → is_pinned new page ≡ true
stays_pinned more old new has page is =
    let parts = and_true (list_any (λ (row : MemoryObject). eqb page.memory row.number && ltb page.index row.count)
    (rows_of old)) (ltb 0 (table_pins old page.memory) || ltb 0 (access_pins old page)) is in
    let pins = has.pins page.memory in
    both_true _ _ (ap (list_any (λ (row : MemoryObject). eqb page.memory row.number && ltb page.index row.count))
    has.rows ∙ parts.0)
    (still_some (table_pins old page.memory) (table_pins new page.memory) (access_pins old page)
    (access_pins new page) (omega (arith, pins)) (has.access page) parts.1)

-- the first page table translates the areas of its address space, another no more
pub gained : (objects : List Object) (areas : List Area) (file : FileNo) (ioas id : ObjId) (width : Width)
    (automatic : Bool) (n : ℕ)
    → translated (with_object (made_object file ioas id width automatic) objects) areas n ≡ translated objects areas n
    + over (newly_translated objects file ioas (areas_of areas file ioas)) n
gained objects areas file ioas id width automatic n = by_table (has_hwpt objects file ioas) refl
  where
    by_table : (b : Bool) → has_hwpt objects file ioas ≡ b
        → translated (with_object (made_object file ioas id width automatic) objects) areas n ≡ translated objects areas
        n + over (cond b [] (areas_of areas file ioas)) n
    by_table true had = let same = translated_same objects
        (with_object (made_object file ioas id width automatic) objects) areas
        (same_tables objects areas file ioas id width automatic had) n in omega (arith, same)
    by_table false none = table_gained objects areas file ioas id width automatic none n

in_mapped : (tables : List Hwpt) (h : Hwpt) → IsIn tables h → IsIn (map (λ (h : Hwpt). h.object) tables) h.object
in_mapped [] h within = absurd within
in_mapped (t ∷ tables) h (inl same) = inl (ap (λ (h : Hwpt). h.object) same)
in_mapped (t ∷ tables) h (inr later) = inr (in_mapped tables h later)

module _ {A : Type 0} (at : ℕ) (w : World) (s : State A) (tidy : IsTidy at w) (shows : Shows w s) (file : FileNo)
    (ioas id : ObjId) (width : Width) (automatic : Bool) (roomy : IsRoomy (view w) file ioas width) where
  abbrev object : Object
  object = made_object file ioas id width automatic

  abbrev tables : List Hwpt
  tables = s.page_tables.tables

  -- ---- an unused id

  module _ (fresh : is_fresh w.objects file id ≡ true) where
    -- no page table has it
    pub another : (h : Hwpt) → IsIn tables h → is_object file id h.object ≡ false
    another h within =
        let there : IsIn (page_tables_among w.objects) h.object =
        rw shows.tables.tables at (in_mapped tables h within) in
        each_not (is_object file id) w.objects h.object (unused w.objects file id fresh)
        (in_filter (λ (o : Object). is_hwpt o.kind) w.objects h.object there).0

    pub not_there : hwpt_of tables file id ≡ None
    not_there = nothing (hwpt_of tables file id) (sym (any_found (λ (h : Hwpt). is_object file id h.object) tables)
        ∙ none_of (λ (h : Hwpt). is_object file id h.object) tables another)
      where
        nothing : {X : Type 0} (o : Option X) → is_some o ≡ false → o ≡ None
        nothing None none = refl
        nothing (Some x) none = cc

    -- and who holds an access pin stays attached
    pub holders_yet : HoldersStay w.objects (with_object object w.objects) w.access_pins
    holders_yet = (more_accesses w object fresh refl).holders

  -- ---- with the pins

  module _ (after : Memory) (pool : FramePool)
      (more : ArePinnedMore (newly_translated w.objects file ioas (areas_of w.areas file ioas)) s.memory
      after s.pool pool) where
    pub users_pinned : UsersShown w.user_pages after.pages
    users_pinned = record {
      pages = λ u page. shows.users.pages u page
          ∙ ap (λ (rows : List UserPage). frame_at rows u page) (sym more.settles.pages);
      counts = λ test. shows.users.counts test ∙ ap (count_by test) (sym more.settles.pages);
    }

    pub pins_pinned : is_fresh w.objects file id ≡ true
        → PinsShown (with_table w object).objects (with_table w object).areas (with_table w object).memory
        (with_table w object).pins (with_table w object).access_pins after
    unfolding settle
    pins_pinned fresh =
        let next : ArePinned (at + 1) (with_table w object) =
        table_pinned at w file ioas id width automatic roomy.present fresh tidy.pins in
        pins_follow at (at + 1) w (with_table w object) s.memory after s.pool pool tidy.pins next shows.pins refl
        (λ u page. shows.users.pages u page ∙ ap (λ (rows : List UserPage). frame_at rows u page)
        (sym more.settles.pages))
        (shows.pins.rows ∙ sym more.pins.rows)
        (λ n. more.pins.areas n ∙ shows.pins.areas n)
        (λ n. more.pins.pins n ∙ ap (λ k. k + over (newly_translated w.objects file ioas (areas_of w.areas file ioas))
        n) (shows.pins.tables n) ∙ sym (gained w.objects w.areas file ioas id width automatic n))
        (λ page there. more.pins.access page ∙ shows.pins.access page there
        ∙ sym (covered_still w (with_object object w.objects) tidy.pins (holders_yet fresh) page there))
        more.settles

    pub frames_pinned : FramesShown w.settings.pool w.writes w.table_frames after pool
    frames_pinned = frames_follow w.settings.pool w.writes w.table_frames s.memory after s.pool pool shows.frames
        more.settles.holds more.settles.bytes
        (λ f named. settles_named s.memory after s.pool pool shows.pins.invariant.rising more.settles f named)

    -- the same frames are free
    pub free_pinned : AreAlike pool.holds s.pool.holds
    free_pinned =
        free_alike s.memory after s.pool pool w.settings.pool w.writes w.table_frames shows.pins.invariant
        (only_kept at w s.memory tidy.pins shows.pins)
        (stays_pinned (over (newly_translated w.objects file ioas (areas_of w.areas file ioas))) s.memory after
        more.pins) more.settles shows.frames frames_pinned

    -- ---- page tables

    stand_before : AllStand pool w.table_frames (leads_of w) tables
    stand_before =
        tables_follow w.settings.pool w.writes w.writes w.table_frames (leads_of w) tables s.memory after s.pool pool
        shows.tables.stand shows.frames frames_pinned
        (λ f held named. settles_named s.memory after s.pool pool shows.pins.invariant.rising more.settles f named)
        (λ f held none. ap (λ (all : List (List ℕ)). get_or all f []) more.settles.bytes)

    pages_stay : is_fresh w.objects file id ≡ true → (f : FileNo) (i : ObjId) (page : ℕ)
        → has_hwpt w.objects f i ≡ true
        → space_leads (with_table w object).pins (with_table w object).areas f i
        page ≡ space_leads w.pins w.areas f i page
    unfolding settle
    pages_stay fresh f i page has =
        leads_alike w (with_table w object) f i page refl
        (λ a found.
        let counted = is_translated w.objects w.areas f i page a has found in
        let was = shows.pins.tables a.memory in
        let now = more.pins.pins a.memory in
        let some : 0 < table_pins s.memory a.memory = omega (arith, counted, was) in
        let still : 0 < table_pins after a.memory = omega (arith, some, now) in
        pin_stays at w (with_table w object) s.memory after s.pool pool tidy.pins shows.pins (pins_pinned fresh)
        more.settles (object_page page a)
        (ap (λ (rows : List MemoryObject). has_page rows (object_page page a)) more.pins.rows) some still)

    -- those that are there lead where they lead in the world with the new one
    pub stand_pinned : is_fresh w.objects file id ≡ true
        → AllStand pool w.table_frames (leads_of (with_table w object)) tables
    stand_pinned fresh = spaces_alike w (with_table w object) w.objects tables pool w.table_frames
        shows.tables.tables (pages_stay fresh) stand_before

    -- and the new one nowhere yet
    abbrev pub leads_yet : Leads
    leads_yet o page = cond (is_object file id o) None (leads_of (with_table w object) o page)

    pub stand_yet : is_fresh w.objects file id ≡ true → AllStand pool w.table_frames leads_yet tables
    stand_yet fresh = stand_alike pool w.table_frames (leads_of (with_table w object)) leads_yet tables
        (λ h within page. rw (another fresh h within) refl) (stand_pinned fresh)
