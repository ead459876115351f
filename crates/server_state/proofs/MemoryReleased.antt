-- Areas that go, or page tables: what they may let go of, and the memory objects, pins and frames that are shown
-- afterwards.
use Rattle.std.proofs.Common.{◌≡◌, ℕ, ◌+◌, ◌<◌, ◌≤◌, Bool, true, false, ◌&&◌, not, eqb, ltb, Some, List, [], get_or}
use Rattle.std.proofs.Common.{map, sym, ◌∙◌}
use Rattle.std.proofs.Common.{ap, refl, arith}
use Rattle.std.specs.List.{count_by, filter}
use Rattle.std.proofs.lemmas.Bool.Decides.{nat_tests}
use Rattle.frame_memory.specs.Pool.{FramePool}
use Rattle.iofd_rows.proofs.Bools.{and_true}
use Rattle.iofd_rows.proofs.ListTests.{alike, any-filter, any_weaker}
use Rattle.iofd_rows.specs.Pinned.{ArePinned}
use Rattle.iofd_runs.proofs.Accessed.{of_areas}
use Rattle.iofd_runs.proofs.HoldersStay.{NoPinGoes}
use Rattle.iofd_words.specs.Areas.{areas_of}
use Rattle.iofd_words.specs.Frames.{FrameWrite, frame_at}
use Rattle.iofd_words.specs.Settings.{Settings}
use Rattle.iofd_words.specs.Objects.{has_hwpt}
use Rattle.iofd_words.specs.Pins as pin
use Rattle.iofd_words.specs.Pins.{ObjectPage, pinned_pages, settled}
use Rattle.iofd_words.specs.World.{World}
use Rattle.iofd_words.specs.declared.numbers.FileNo.{FileNo}
use Rattle.iofd_words.specs.declared.numbers.ObjId.{ObjId}
use Rattle.iofd_words.specs.declared.numbers.UserNo.{UserNo}
use Rattle.iofd_words.specs.declared.rows.AccessPin.{AccessPin}
use Rattle.iofd_words.specs.declared.rows.Area.{Area}
use Rattle.iofd_words.specs.declared.rows.MemoryObject.{MemoryObject}
use Rattle.iofd_words.specs.declared.rows.Object.{Object}
use Rattle.iofd_words.specs.declared.rows.Pin.{Pin}
use Rattle.iofd_words.specs.declared.rows.TableFrame.{TableFrame}
use Rattle.iofd_words.specs.declared.rows.UserPage.{UserPage}
use Rattle.iofd_rows.proofs.ObjectPages.{listed_fewer, listed_is}
use Rattle.user_memory_rows.proofs.AccessCounts.{counted_fewer, none_counted, unlisted_unpinned}
use Rattle.user_memory_rows.proofs.AccessStays.{CoveredAlike}
use Rattle.user_memory_rows.proofs.Counts.{count_map}
use Rattle.user_memory_rows.proofs.FramesFollow as frames
use Rattle.user_memory_rows.proofs.Gone.{few_translated, rows_left}
use Rattle.page_table_set.specs.PageTables.{AllStand, Hwpt}
use Rattle.user_memory_rows.proofs.Named.{settles_named}
use Rattle.user_memory_rows.proofs.PinsFollow.{only_kept, pins_follow}
use Rattle.user_memory_rows.specs.Moves.{IsReleased, MayRelease}
use Rattle.user_memory_rows.specs.Shown.{accessed, FramesShown, PinsShown, UsersShown, has_page, over, translated}
use Rattle.user_memory.specs.Changes.{HasLess}
use Rattle.user_memory.specs.Memory.{Memory, access_pins, areas_over, rows_of, table_pins}
use Rattle.server_state.proofs.LeadsStay.{is_translated, lead_alike, pin_stays, spaces_alike}
use Rattle.server_state.proofs.TablesFollow.{tables_follow}
use Rattle.server_state.specs.Leads.{leads_of, live_area_at, object_page, space_leads}
use Rattle.server_state.specs.Shows.{Shows}
use Rattle.server_state.specs.Step.{IsTidy}
use Rattle.server_state.specs.Tables.{page_tables_among}
use Rattle.server_state.specs.declared.state.State.{State}

-- so many areas less lie over each memory object, and of so many less page tables translate it
pub record AreFewer (areas pins : ℕ → ℕ) (w : World) (objects : List Object) (left : List Area) : Type 0 where
  pub over_left : (n : ℕ) → over left n + areas n ≡ over w.areas n
  pub translated_left : (n : ℕ) → translated objects left n + pins n ≡ translated w.objects w.areas n
  -- no access pin covers a page of a memory object over which none is left
  pub uncovered : (page : ObjectPage) → has_page w.memory page ≡ true → over left page.memory ≡ 0
      → accessed w.objects w.areas w.access_pins page ≡ 0

-- what is shown afterwards of memory objects, users' pages and frames
pub record AreShown (new : World) (writes : List FrameWrite) (tables : List TableFrame) (user_pages : List UserPage)
    (settings : Settings) (after : Memory) (pool : FramePool) : Type 0 where
  pub limits : after.limits ≡ settings.users
  pub users : UsersShown user_pages after.pages
  pub pins : PinsShown new.objects new.areas new.memory new.pins new.access_pins after
  pub frames : FramesShown settings.pool writes tables after pool

-- no access pin covers a page of a memory object of which all areas go, where none meets an area that goes
pub gone_uncovered : {at : ℕ} → (w : World) (goes : Area → Bool) → ArePinned at w → NoPinGoes w goes
    → (page : ObjectPage) → has_page w.memory page ≡ true
    → over (filter (λ (a : Area). not (goes a)) w.areas) page.memory ≡ 0
    → accessed w.objects w.areas w.access_pins page ≡ 0
gone_uncovered w goes p free page there none =
    sym (counted_fewer w.objects goes w.areas w.access_pins page
    (of_areas w.memory w.areas page p.numbers p.sizes (listed_is w.memory page ∙ there)) free)
    ∙ none_counted w.objects (filter (λ (a : Area). not (goes a)) w.areas) w.access_pins page none

-- a memory object over which an area is left has the pages that it had
page_left : (areas pins : ℕ → ℕ) (old after : Memory) → HasLess areas pins old after → (page : ObjectPage)
    → 0 < areas_over after page.memory → has_page (rows_of after) page ≡ has_page (rows_of old) page
page_left areas pins old after less page some =
    ap (λ (rows : List MemoryObject). has_page rows page) less.rows
    ∙ any-filter test (λ (row : MemoryObject). not (eqb (areas_over after row.number) 0)) (rows_of old)
    ∙ alike _ _
    (λ any. any_weaker (λ (row : MemoryObject). not (eqb (areas_over after row.number) 0) && test row) test
    (rows_of old) (λ row both. (and_true _ _ both).1) any)
    (λ any. any_weaker test (λ (row : MemoryObject). not (eqb (areas_over after row.number) 0) && test row)
    (rows_of old) stays any)
  where
    test : MemoryObject → Bool
    test = λ (row : MemoryObject). eqb page.memory row.number && ltb page.index row.count

    stays : (row : MemoryObject) → (eqb page.memory row.number && ltb page.index row.count) ≡ true
        → (not (eqb (areas_over after row.number) 0) && (eqb page.memory row.number && ltb page.index row.count)) ≡ true
    stays row is =
        let named = (and_true (eqb page.memory row.number) (ltb page.index row.count) is).0 in
        let same : page.memory ≡ row.number = grind (arith, nat_tests) in
        let here : 0 < areas_over after row.number = rw same at some in
        let kept : not (eqb (areas_over after row.number) 0) ≡ true = search (here, arith, nat_tests) in
        rw kept is

module _ {A : Type 0} (at : ℕ) (w : World) (s : State A) (tidy : IsTidy at w) (shows : Shows w s) where
  -- where page tables have these rows, and the frames of others were given back before
  module _ (rows : List TableFrame) (before : FramePool)
      (shown : FramesShown w.settings.pool w.writes rows s.memory before) (areas pins : ℕ
      → ℕ) (objects : List Object) (left : List Area) (fewer : AreFewer areas pins w objects left) where
    -- they may let go
    pub may_release_over : MayRelease areas pins s.memory before.holds
    may_release_over = record {
      pins = λ n. let sum = fewer.translated_left n in let same = shows.pins.tables n in omega (arith, sum, same);
      areas = λ n. let first = fewer.over_left n in
          let second = fewer.translated_left n in
          let same_pins = shows.pins.tables n in
          let same_areas = shows.pins.areas n in
          let few = few_translated objects left n in
          omega (arith, first, second, same_pins, same_areas, few);
      access = λ page gone. unpinned page gone (has_page w.memory page) refl;
      backed = frames.is_backed w.settings.pool w.writes rows s.memory before shown;
      invariant = shows.pins.invariant;
      only = only_kept at w s.memory tidy.pins shows.pins;
    }
      where
        unpinned : (page : ObjectPage) → areas_over s.memory page.memory ≤ areas page.memory → (b : Bool)
            → has_page w.memory page ≡ b → access_pins s.memory page ≡ 0
        unpinned page gone true there =
            let few = fewer.over_left page.memory in
            let same = shows.pins.areas page.memory in
            shows.pins.access page there ∙ fewer.uncovered page there (omega (arith, gone, few, same))
        unpinned page gone false none =
            unlisted_unpinned s.memory page shows.pins.invariant
            (ap (λ (rows : List MemoryObject). has_page rows page) (sym shows.pins.rows) ∙ none)

    -- they have
    module _ (next : ℕ) (new : World) (after : Memory) (pool : FramePool) (pinned : ArePinned next new)
        (same_objects : new.objects ≡ objects) (same_areas : new.areas ≡ left)
        (memory : new.memory ≡ filter (λ (m : MemoryObject). ltb 0 (over left m.number)) w.memory)
        (same_pages : new.user_pages ≡ w.user_pages) (same_accesses : new.access_pins ≡ w.access_pins)
        (covered : CoveredAlike w new)
        (is_settled : new.pins ≡ settled (pinned_pages w.objects w.areas w.memory w.access_pins)
        (pinned_pages new.objects new.areas new.memory new.access_pins) new.memory new.user_pages w.pins)
        (released : IsReleased areas pins s.memory after before pool) where
      counts : (n : ℕ) → areas_over after n ≡ over left n
      counts n = let less = released.less.areas n in
          let was = shows.pins.areas n in
          let few = fewer.over_left n in
          omega (arith, less, was, few)

      tables : (n : ℕ) → table_pins after n ≡ translated objects left n
      tables n = let less = released.less.pins n in
          let was = shows.pins.tables n in
          let few = fewer.translated_left n in
          omega (arith, less, was, few)

      pages_after : (user : UserNo) (page : ℕ) → frame_at w.user_pages user page ≡ frame_at after.pages user page
      pages_after user page =
          shows.users.pages user page ∙ ap (λ l. frame_at l user page) (sym released.settles.pages)

      pins_after : PinsShown new.objects new.areas new.memory new.pins new.access_pins after
      pins_after =
          pins_follow at next w new s.memory after before pool tidy.pins pinned shows.pins is_settled
          (λ user page. ap (λ l. frame_at l user page) same_pages ∙ pages_after user page)
          (memory ∙ rows_left after w.memory (rows_of s.memory) (over left) shows.pins.rows counts
          ∙ sym released.less.rows)
          (λ n. counts n ∙ ap (λ l. over l n) (sym same_areas))
          (λ n. tables n ∙ ap (λ l. translated l left n) (sym same_objects)
          ∙ ap (λ l. translated new.objects l n) (sym same_areas))
          (λ page there. released.less.access page ∙ shows.pins.access page (was_there page there)
          ∙ sym (covered page there)
          ∙ ap (λ (pins : List AccessPin). accessed new.objects new.areas pins page) (sym same_accesses))
          released.settles
        where
          was_there : (page : ObjectPage) → has_page new.memory page ≡ true → has_page w.memory page ≡ true
          was_there page there =
              sym (listed_is w.memory page)
              ∙ listed_fewer (λ (m : MemoryObject). ltb 0 (over left m.number)) w.memory page
              (listed_is _ page ∙ ap (λ (rows : List MemoryObject). has_page rows page) (sym memory) ∙ there)

      frames_after : FramesShown w.settings.pool w.writes rows after pool
      frames_after =
          frames.frames_follow w.settings.pool w.writes rows s.memory after before pool shown
          released.settles.holds released.settles.bytes
          (λ f named. settles_named s.memory after before pool shows.pins.invariant.rising released.settles f named)

      pub shown_over : AreShown new w.writes rows w.user_pages w.settings after pool
      shown_over = record {
        limits = released.settles.limits ∙ shows.limits;
        users = record {
          pages = pages_after;
          counts = λ test. shows.users.counts test
              ∙ ap (count_by test) (sym released.settles.pages);
        };
        pins = pins_after;
        frames = frames_after;
      }

      -- a page of a live area that a page table translates still is pinned where it was
      leads_left : (file : FileNo) (ioas : ObjId) (page : ℕ) → has_hwpt objects file ioas ≡ true
          → space_leads new.pins left file ioas page ≡ space_leads w.pins left file ioas page
      leads_left file ioas page has = lead_alike (pin.pinned_frame w.pins) (pin.pinned_frame new.pins) page
          (live_area_at page (areas_of left file ioas)) each
        where
          each : (a : Area) → live_area_at page (areas_of left file ioas) ≡ Some a
              → pin.pinned_frame new.pins (object_page page a) ≡ pin.pinned_frame w.pins (object_page page a)
          each a found =
              let some : 0 < translated objects left a.memory = is_translated objects left file ioas page a has found in
              let few = few_translated objects left a.memory in
              let more = fewer.translated_left a.memory in
              let pins_old = shows.pins.tables a.memory in
              let pins_new = tables a.memory in
              let areas_new = counts a.memory in
              pin_stays at w new s.memory after before pool tidy.pins shows.pins pins_after
              released.settles (object_page page a)
              (page_left areas pins s.memory after released.less (object_page page a)
              (omega (arith, areas_new, few, some)))
              (omega (arith, pins_old, more, some)) (omega (arith, pins_new, some))

      -- the page tables that are left stand, by where pages led
      pub tables_stand : (kept : List Hwpt) → AllStand before rows (leads_of w) kept
          → AllStand pool rows (leads_of w) kept
      tables_stand kept stand =
          tables_follow w.settings.pool w.writes w.writes rows (leads_of w) kept s.memory after before pool
          stand shown frames_after
          (λ f held named. settles_named s.memory after before pool shows.pins.invariant.rising released.settles f
          named)
          (λ f held none. ap (λ (all : List (List ℕ)). get_or all f []) released.settles.bytes)

      -- and by where they lead now, where the areas that are left lead as all did
      pub tables_lead : (some : FramePool) (others : List TableFrame) (kept : List Hwpt)
          → map (λ (h : Hwpt). h.object) kept ≡ page_tables_among objects
          → ((file : FileNo) (ioas : ObjId) (page : ℕ) → has_hwpt objects file ioas ≡ true
          → space_leads w.pins left file ioas page ≡ space_leads w.pins w.areas file ioas page)
          → AllStand some others (leads_of w) kept → AllStand some others (leads_of new) kept
      tables_lead some others kept are led stand =
          spaces_alike w new objects kept some others are
          (λ file ioas page has. ap (λ (l : List Area). space_leads new.pins l file ioas page) same_areas
          ∙ leads_left file ioas page has ∙ led file ioas page has)
          stand

  -- where all page tables stay
  module _ (areas pins : ℕ → ℕ) (objects : List Object) (left : List Area) (fewer : AreFewer areas pins w objects left)
    where
      pub may_release : MayRelease areas pins s.memory s.pool.holds
      may_release = may_release_over w.table_frames s.pool shows.frames areas pins objects left fewer

      pub shown_after : (next : ℕ) (new : World) (after : Memory) (pool : FramePool) → ArePinned next new
          → new.objects ≡ objects → new.areas ≡ left
          → new.memory ≡ filter (λ (m : MemoryObject). ltb 0 (over left m.number)) w.memory
          → new.user_pages ≡ w.user_pages → new.access_pins ≡ w.access_pins → CoveredAlike w new
          → new.pins ≡ settled (pinned_pages w.objects w.areas w.memory w.access_pins)
          (pinned_pages new.objects new.areas new.memory new.access_pins) new.memory new.user_pages w.pins
          → IsReleased areas pins s.memory after s.pool pool
          → AreShown new w.writes w.table_frames w.user_pages w.settings after pool
      shown_after = shown_over w.table_frames s.pool shows.frames areas pins objects left fewer

-- ---- areas that change keep their memory objects and address spaces

pub over_map : (f : Area → Area) (areas : List Area) → ((area : Area) → (f area).memory ≡ area.memory) → (n : ℕ)
    → over (map f areas) n ≡ over areas n
over_map f areas same n =
    count_map (λ (area : Area). eqb area.memory n) f areas (λ area. ap (λ (k : ℕ). eqb k n) (same area))

pub translated_map : (objects : List Object) (f : Area → Area) (areas : List Area)
    → ((area : Area) → (f area).memory ≡ area.memory) → ((area : Area) → (f area).file ≡ area.file)
    → ((area : Area) → (f area).ioas ≡ area.ioas)
    → (n : ℕ) → translated objects (map f areas) n ≡ translated objects areas n
translated_map objects f areas same_memory same_file same_ioas n =
    count_map (λ (area : Area). eqb area.memory n && has_hwpt objects area.file area.ioas) f areas
    (λ area.
    ap (λ (k : ℕ). eqb k n && has_hwpt objects (f area).file (f area).ioas) (same_memory area)
    ∙ ap (λ (k : FileNo). eqb area.memory n && has_hwpt objects k (f area).ioas) (same_file area)
    ∙ ap (λ (k : ObjId). eqb area.memory n && has_hwpt objects area.file k) (same_ioas area))

-- areas that change keep their memory objects and their page tables
pub pins_changed : (objects : List Object) (areas : List Area) (memory : List MemoryObject) (pins : List Pin)
    (access_pins : List AccessPin) (kept : Memory) (f : Area → Area)
    → ((area : Area) → (f area).memory ≡ area.memory) → ((area : Area) → (f area).file ≡ area.file)
    → ((area : Area) → (f area).ioas ≡ area.ioas)
    → ((page : ObjectPage) → has_page memory page ≡ true
    → accessed objects (map f areas) access_pins page ≡ accessed objects areas access_pins page)
    → PinsShown objects areas memory pins access_pins kept
    → PinsShown objects (map f areas) memory pins access_pins kept
pins_changed objects areas memory pins access_pins kept f same_memory same_file same_ioas same_accessed shown =
    frames.pins_moved objects objects areas (map f areas) memory pins access_pins kept shown
    (over_map f areas same_memory) (translated_map objects f areas same_memory same_file same_ioas) same_accessed
