-- An area comes over a memory object, which is new or was there. Before it is mapped its pages are pinned: what is
-- shown then. The page tables stand as they did.
use Rattle.std.proofs.Common.{◌≡◌, ℕ, ◌*◌, ◌<◌, ◌≤◌, Bool, true, false, cond, ◌&&◌, ◌||◌, eqb, ltb, get_or}
use Rattle.std.proofs.Common.{is_some, Option, Some, None, List, [], ◌∷◌, refl, ◌∙◌, ap, arith}
use Rattle.std.proofs.lemmas.Bool.Decides.{nat_tests}
use Rattle.area_map_rows.specs.Areas as own
use Rattle.frame_memory.specs.Pool.{FramePool}
use Rattle.page_table_set.specs.PageTables.{AllStand}
use Rattle.iofd_rows.proofs.Bools.{and_true, clash}
use Rattle.iofd_rows.proofs.Each.{IsIn, in_filter, in_found}
use Rattle.iofd_rows.proofs.Named.{file_is, id_is}
use Rattle.iofd_steps.specs.After.{mapped_area, settle}
use Rattle.iofd_words.specs.Areas.{areas_meet, areas_of, is_of}
use Rattle.iofd_words.specs.Areas as world
use Rattle.iofd_words.specs.Objects.{has_hwpt}
use Rattle.iofd_words.specs.Pins as pin
use Rattle.iofd_words.specs.Pins.{ObjectPage}
use Rattle.iofd_words.specs.Span.{holds, meets}
use Rattle.iofd_words.specs.TablePlaces.{is_live}
use Rattle.iofd_words.specs.World.{World}
use Rattle.iofd_words.specs.declared.event.MapRequest.{MapRequest}
use Rattle.iofd_words.specs.declared.numbers.FileNo.{FileNo}
use Rattle.iofd_words.specs.declared.numbers.Iova.{Iova}
use Rattle.iofd_words.specs.declared.numbers.ObjId.{ObjId}
use Rattle.iofd_words.specs.declared.rows.Area.{Area}
use Rattle.iofd_words.specs.declared.rows.MemoryObject.{MemoryObject}
use Rattle.event_map.proofs.AreasFiltered.{with_area_other, with_area_own}
use Rattle.server_state.proofs.FreeAlike.{AreAlike, free_alike}
use Rattle.user_memory_rows.proofs.FramesFollow.{frames_follow}
use Rattle.user_memory_rows.proofs.Named.{settles_named}
use Rattle.user_memory_rows.proofs.PinsFollow.{only_kept}
use Rattle.user_memory_rows.specs.Shown.{FramesShown, PinsShown, has_page}
use Rattle.server_state.proofs.LeadsStay.{is_translated, lead_alike, pin_stays}
use Rattle.server_state.proofs.TablesFollow.{tables_follow}
use Rattle.server_state.specs.Leads.{lead_by, leads_in, leads_of, live_area_at, object_page, space_leads}
use Rattle.server_state.specs.Shows.{Shows}
use Rattle.server_state.specs.Spaces.{is_space}
use Rattle.server_state.specs.Step.{IsTidy}
use Rattle.server_state.specs.declared.state.State.{State}
use Rattle.user_memory.specs.Changes.{Settles}
use Rattle.user_memory.specs.Memory as memory
use Rattle.user_memory.specs.Memory.{Memory, is_pinned, rows_of, table_pins}

-- ---- areas

-- a page of the area that comes is its; another is that of the area which had it
pub with_live : (x : Area) (areas : List Area) (page : ℕ) → areas_meet x.span areas ≡ false
    → live_area_at page (own.with_area x areas) ≡ cond (is_live x.phase && holds x.span (page * 4096)) (Some x)
    (live_area_at page areas)
with_live x [] page apart = refl
with_live x (a ∷ areas) page apart =
    by_order (ltb x.span.first a.span.first) (and_none (meets a.span x.span) (areas_meet x.span areas) apart).0
    (with_live x areas page (and_none (meets a.span x.span) (areas_meet x.span areas) apart).1)
  where
    and_none : (p q : Bool) → (p || q) ≡ false → (p ≡ false) × (q ≡ false)
    and_none false false is = (refl, refl)
    and_none false true is = cc
    and_none true q is = cc

    both_hold : (n : ℕ) → holds a.span n ≡ true → holds x.span n ≡ true → meets a.span x.span ≡ true
    both_hold n first second = grind (arith, nat_tests)

    by_tests : (p q l m : Bool) → is_live a.phase ≡ p → holds a.span (page * 4096) ≡ q → is_live x.phase ≡ l
        → holds x.span (page * 4096) ≡ m → meets a.span x.span ≡ false
        → cond (p && q) (Some a) (cond (l && m) (Some x) (live_area_at page areas)) ≡ cond (l && m) (Some x)
        (cond (p && q) (Some a) (live_area_at page areas))
    by_tests true true true true a_lives a_holds x_lives x_holds apart =
        absurd (clash _ apart (both_hold (page * 4096) a_holds x_holds))
    by_tests true true true false a_lives a_holds x_lives x_holds apart = refl
    by_tests true true false m a_lives a_holds x_lives x_holds apart = refl
    by_tests true false l m a_lives a_holds x_lives x_holds apart = refl
    by_tests false q l m a_lives a_holds x_lives x_holds apart = refl

    by_order : (b : Bool) → meets a.span x.span ≡ false
        → live_area_at page (own.with_area x areas) ≡ cond (is_live x.phase && holds x.span (page * 4096)) (Some x)
        (live_area_at page areas)
        → live_area_at page (cond b (x ∷ a ∷ areas) (a ∷ own.with_area x areas)) ≡ cond (is_live x.phase
        && holds x.span (page * 4096)) (Some x) (live_area_at page (a ∷ areas))
    by_order true apart rest = refl
    by_order false apart rest =
        ap (λ (o : Option Area). cond (is_live a.phase && holds a.span (page * 4096)) (Some a) o) rest
        ∙ by_tests (is_live a.phase) (holds a.span (page * 4096)) (is_live x.phase) (holds x.span (page * 4096))
        refl refl refl refl apart

-- ---- the pins

-- the world with the area, over these memory objects
abbrev pub world_with : World → Area → List MemoryObject → World
world_with w area objects = settle w (record w { memory = objects; areas = world.with_area area w.areas })

-- the area comes: the pins of the world with it are shown, no pin goes, and the areas that were there have their pages
-- still
pub record Comes {A : Type 0} (w : World) (s : State A) (area : Area) (objects : List MemoryObject) (after : Memory)
    (pool : FramePool) : Type 0 where
  pub pins : PinsShown w.objects (world.with_area area w.areas) objects (world_with w area objects).pins
      w.access_pins after
  pub settles : Settles s.memory after s.pool pool
  pub stays : (page : ObjectPage) → is_pinned s.memory page ≡ true → is_pinned after page ≡ true
  pub grows : (number : ℕ) → table_pins s.memory number ≤ table_pins after number
  pub same : (a : Area) → IsIn w.areas a → (page : ℕ)
      → has_page (rows_of after) (object_page page a) ≡ has_page (rows_of s.memory) (object_page page a)

module _ {A : Type 0} (at : ℕ) (w : World) (s : State A) (tidy : IsTidy at w) (shows : Shows w s) (number : ℕ)
    (file : FileNo) (request : MapRequest) (iova : Iova) (objects : List MemoryObject)
    (after : Memory) (pool : FramePool)
    (comes : Comes w s (mapped_area number file request iova) objects after pool) where
  abbrev new_area : Area
  new_area = mapped_area number file request iova

  abbrev left : World
  left = world_with w new_area objects

  pub frames_mapped : FramesShown w.settings.pool w.writes w.table_frames after pool
  frames_mapped =
      frames_follow w.settings.pool w.writes w.table_frames s.memory after s.pool pool shows.frames
      comes.settles.holds comes.settles.bytes
      (λ f named. settles_named s.memory after s.pool pool shows.pins.invariant.rising comes.settles f named)

  -- the same frames are free
  pub free_mapped : AreAlike pool.holds s.pool.holds
  free_mapped =
      free_alike s.memory after s.pool pool w.settings.pool w.writes w.table_frames shows.pins.invariant
      (only_kept at w s.memory tidy.pins shows.pins) comes.stays comes.settles shows.frames frames_mapped

  -- ---- page tables

  pub stand_pinned : AllStand pool w.table_frames (leads_of w) s.page_tables.tables
  stand_pinned =
      tables_follow w.settings.pool w.writes w.writes w.table_frames (leads_of w) s.page_tables.tables s.memory after
      s.pool pool shows.tables.stand shows.frames frames_mapped
      (λ f held named. settles_named s.memory after s.pool pool shows.pins.invariant.rising comes.settles f named)
      (λ f held none. ap (λ (all : List (List ℕ)). get_or all f []) comes.settles.bytes)

  -- the pages of the areas that were there stay pinned where they were
  old_pins : (f : FileNo) (i : ObjId) (page : ℕ) → has_hwpt w.objects f i ≡ true → (a : Area)
      → live_area_at page (areas_of w.areas f i) ≡ Some a
      → pin.pinned_frame left.pins (object_page page a) ≡ pin.pinned_frame w.pins (object_page page a)
  unfolding settle
  old_pins f i page hwpt a found =
      let of = in_filter (is_of f i) w.areas a (in_found _ (areas_of w.areas f i) a found).0 in
      let counted = is_translated w.objects w.areas f i page a hwpt found in
      let was = shows.pins.tables a.memory in
      let now = comes.grows a.memory in
      let some : 0 < table_pins s.memory a.memory = omega (arith, counted, was) in
      let still : 0 < table_pins after a.memory = omega (arith, some, now) in
      pin_stays at w left s.memory after s.pool pool tidy.pins shows.pins comes.pins comes.settles (object_page page a)
      (comes.same a of.0 page) some still

  -- ---- where pages lead

  -- the pages of its address space that aren't the area's, and those of another, lead where they did
  pub page_leads : areas_meet new_area.span (areas_of w.areas file request.ioas) ≡ false
      → (f : FileNo) (i : ObjId) (page : ℕ) → has_hwpt w.objects f i ≡ true
      → space_leads left.pins (world.with_area new_area w.areas) f i page ≡ cond (is_space file request.ioas f i
      && is_some (live_area_at page (new_area ∷ []))) (leads_in (memory.pinned_frame after) (new_area ∷ [])
      page) (space_leads w.pins w.areas f i page)
  page_leads apart f i page hwpt = by_space (is_space file request.ioas f i) refl
    where
      old_leads : live_area_at page (areas_of w.areas f i) ≡ live_area_at page (areas_of w.areas f i)
          → lead_by (pin.pinned_frame left.pins) page (live_area_at page (areas_of w.areas f i))
          ≡ space_leads w.pins w.areas f i page
      old_leads same = lead_alike (pin.pinned_frame w.pins) (pin.pinned_frame left.pins) page
          (live_area_at page (areas_of w.areas f i)) (old_pins f i page hwpt)

      own_lead : lead_by (pin.pinned_frame left.pins) page (Some new_area) ≡ lead_by
          (memory.pinned_frame after) page (Some new_area)
      own_lead = lead_alike (memory.pinned_frame after) (pin.pinned_frame left.pins) page (Some new_area)
          (λ x same. comes.pins.frames (object_page page x))

      by_page : (b : Bool) → lead_by (pin.pinned_frame left.pins) page
          (cond b (Some new_area) (live_area_at page (areas_of w.areas f i)))
          ≡ cond (is_some (cond b (Some new_area) None))
          (lead_by (memory.pinned_frame after) page (cond b (Some new_area) None))
          (space_leads w.pins w.areas f i page)
      by_page true = own_lead
      by_page false = old_leads refl

      by_space : (b : Bool) → is_space file request.ioas f i ≡ b
          → space_leads left.pins (world.with_area new_area w.areas) f i page ≡ cond (b
          && is_some (live_area_at page (new_area ∷ []))) (leads_in (memory.pinned_frame after) (new_area ∷ [])
          page) (space_leads w.pins w.areas f i page)
      by_space true is =
          let names = and_true (eqb f.0 file.0) (eqb i.0 request.ioas.0) is in
          let of_file = file_is f file names.0 in
          let of_id = id_is i request.ioas names.1 in
          let areas : areas_of (world.with_area new_area w.areas) f i ≡ own.with_area new_area (areas_of w.areas f i) =
          rw (of_file, of_id) (with_area_own new_area w.areas) in
          let clear : areas_meet new_area.span (areas_of w.areas f i) ≡ false = rw (of_file, of_id) apart in
          ap (λ (l : List Area). lead_by (pin.pinned_frame left.pins) page (live_area_at page l)) areas
          ∙ ap (lead_by (pin.pinned_frame left.pins) page) (with_live new_area (areas_of w.areas f i) page clear)
          ∙ by_page (holds new_area.span (page * 4096))
      by_space false is =
          ap (λ (l : List Area). lead_by (pin.pinned_frame left.pins) page (live_area_at page l))
          (with_area_other new_area w.areas f i (apart_from is))
          ∙ old_leads refl
        where
          apart_from : is_space file request.ioas f i ≡ false → is_of f i new_area ≡ false
          apart_from other = grind (arith, nat_tests)
