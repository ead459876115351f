-- A pin comes: its runs may be pinned, and what is kept then shows the world with it. Where memory is wanting, what is
-- kept shows the world that it showed.
use Rattle.std.proofs.Common.{◌≡◌, ℕ, ◌+◌, ◌<◌, ◌≤◌, ◌^◌, Bool, true, false, ◌&&◌, ◌||◌, not, eqb, leb, ltb}
use Rattle.std.proofs.Common.{Option, Some, None, is_none, List, [], ◌∷◌, ◌++◌, length, refl, ap, subst, sym}
use Rattle.std.proofs.Common.{◌∙◌, inl, inr, arith}
use Rattle.std.specs.List.{filter, list_all, list_any}
use Rattle.std.proofs.lemmas.Bool.Decides.{nat_tests}
use Rattle.std.proofs.lemmas.List.{append-nil}
use Rattle.std.proofs.lemmas.List.Sums.{sum_by_push}
use Rattle.access_pages.specs.Runs.{ArePinned as RunsPinned, MayPin, are_own, meeting, run_in}
use Rattle.access_pages.specs.Runs.{runs_in, times_in}
use Rattle.access_pins.proofs.AskedPins.{pin_areas, pin_attached}
use Rattle.access_pins.proofs.KeptPins.{shown_more, sum_without}
use Rattle.access_pins.proofs.NewAccessed.{new_accessed}
use Rattle.access_pins.proofs.PinnedRuns.{runs_lie, times_covered, unlisted_none}
use Rattle.access_pins.proofs.SettledShown.{settled_shown, with_access_pins}
use Rattle.area_map_rows.specs.Areas.{AreApart}
use Rattle.frame_memory.specs.Pool.{FramePool}
use Rattle.held_pins.specs.HeldPins.{HasOneMore}
use Rattle.held_pins.specs.declared.pin.HeldPin.{HeldPin}
use Rattle.iofd_rows.proofs.Bools.{and_true, both_true}
use Rattle.iofd_rows.proofs.Each.{IsIn, in_filter, in_map, of_all, of_any, of_each}
use Rattle.iofd_rows.proofs.InSpaces.{attached_kind}
use Rattle.iofd_rows.proofs.ListTests.{false_else, filter_all}
use Rattle.iofd_rows.proofs.Named.{file_is}
use Rattle.iofd_rows.proofs.PageCounts.{count_weaker}
use Rattle.iofd_rows.proofs.PageLists.{page_itself}
use Rattle.iofd_rows.specs.Pinned.{ArePinned}
use Rattle.iofd_runs.proofs.Accessed.{each_held, some_in}
use Rattle.iofd_runs.proofs.AccessPins.{pin_fits}
use Rattle.iofd_runs.proofs.AccessesPassed.{AccessPinPassed, access_pin_passed}
use Rattle.iofd_runs.proofs.CoveredFew.{covered_few}
use Rattle.iofd_runs.proofs.KeepsPins.{keeps_pins, later_pinned}
use Rattle.iofd_runs.specs.Owned.{is_of_files_user, is_over_own}
use Rattle.iofd_runs.specs.PinsFit.{is_fitting_pin}
use Rattle.iofd_words.specs.Accesses.{newly_accessed, pin_of, pinned_span}
use Rattle.iofd_steps.specs.After.{access_pinned, changed, settle}
use Rattle.iofd_steps.specs.Answers.{Answers}
use Rattle.iofd_words.specs.Areas.{areas_of, is_of}
use Rattle.iofd_words.specs.Bounds.{Bounds}
use Rattle.iofd_refusals.specs.Checks.{access_pin_checks, passes_limit}
use Rattle.iofd_words.specs.Files.{is_user, user_of}
use Rattle.iofd_words.specs.FirstTrue.{first_true}
use Rattle.iofd_words.specs.Objects.{access_ioas_of, is_access_to}
use Rattle.iofd_words.specs.Pins.{ObjectPage, covers_page, is_held, is_page, is_pin_in, page_of_pin}
use Rattle.iofd_words.specs.Pins.{pinned_pages, settled}
use Rattle.iofd_words.specs.Settings.{Settings}
use Rattle.iofd_words.specs.Span.{is_whole_pages, meets}
use Rattle.iofd_words.specs.View.{View, view}
use Rattle.iofd_words.specs.World.{World}
use Rattle.iofd_words.specs.declared.event.Event.TheVariants as event
use Rattle.iofd_words.specs.declared.event.PinRequest.{PinRequest}
use Rattle.iofd_words.specs.declared.numbers.FileNo.{FileNo}
use Rattle.iofd_words.specs.declared.numbers.ObjId.{ObjId}
use Rattle.iofd_words.specs.declared.numbers.UserNo.{UserNo}
use Rattle.iofd_words.specs.declared.reply.Reply.TheVariants as reply
use Rattle.iofd_words.specs.declared.rows.AccessPin.{AccessPin}
use Rattle.iofd_words.specs.declared.rows.Area.{Area}
use Rattle.iofd_words.specs.declared.rows.MemoryObject.{MemoryObject}
use Rattle.iofd_words.specs.declared.rows.ObjectKind.{ObjectKind}
use Rattle.iofd_words.specs.declared.rows.Pin.{Pin}
use Rattle.iofd_words.specs.declared.rows.UserPage.{UserPage}
use Rattle.memory_objects.specs.Runs.{covers}
use Rattle.memory_objects.specs.declared.run.PageRun.{PageRun}
use Rattle.server_state.proofs.Limits.{room_there}
use Rattle.server_state.proofs.ViewShown.{same_view}
use Rattle.server_state.specs.AccessPins.{row_of}
use Rattle.server_state.specs.Held.{areas_at, objects_in}
use Rattle.server_state.specs.Seen.{seen}
use Rattle.server_state.specs.Shows.{Shows}
use Rattle.server_state.specs.Step.{IsTidy}
use Rattle.server_state.specs.declared.state.State.{State}
use Rattle.user_memory.specs.Memory.{Memory, access_pins, frame_now, is_in_runs, new_in_runs, rows_of}
use Rattle.user_memory_rows.proofs.CountBy.{any_count}
use Rattle.user_memory_rows.proofs.FramesFollow.{is_backed}
use Rattle.user_memory_rows.proofs.PinsFollow.{only_kept}
use Rattle.user_memory_rows.specs.Shown.{accessed, covered_by, has_page}

-- ---- nothing has changed

-- pins that are those of the pages to be pinned stay as they are
settled_same : (pages : List ObjectPage) (memory : List MemoryObject) (user_pages : List UserPage) (pins : List Pin)
    → list_all (λ (pin : Pin). list_any (is_page (page_of_pin pin)) pages) pins ≡ true
    → settled pages pages memory user_pages pins ≡ pins
settled_same pages memory user_pages pins only =
    rw (
      filter_all (λ (pin : Pin). list_any (is_page (page_of_pin pin)) pages) pins only,
      none_new pages (λ page among. of_any (is_page page) pages page among (page_itself page)),
    ) (append-nil pins)
  where
    none_new : (others : List ObjectPage) → ((page : ObjectPage) → IsIn others page
        → list_any (is_page page) pages ≡ true)
        → filter (λ (page : ObjectPage). not (list_any (is_page page) pages)) others ≡ []
    none_new [] each = refl
    none_new (page ∷ others) each =
        rw (each page (inl refl)) (none_new others (λ p among. each p (inr among)))

module _ {A : Type 0} (at : ℕ) (w : World) (s : State A) (tidy : IsTidy at w) (shows : Shows w s) where
  same_world : with_access_pins w w.access_pins ≡ w
  unfolding settle
  same_world = ap (λ (pins : List Pin). let new : World = record w { pins = pins } in new)
      (settled_same (pinned_pages w.objects w.areas w.memory w.access_pins) w.memory w.user_pages w.pins tidy.pins.only)

  -- no pin has come
  pub unpinned_same : (after : Memory) (pool : FramePool) → RunsPinned [] s.memory after s.pool pool
      → Shows w (record s { memory = after; pool = pool })
  unpinned_same after pool same =
      subst (λ (x : World). Shows x (record s { memory = after; pool = pool })) same_world
      (settled_shown at w s tidy shows w.access_pins s.access_pins after pool
      (subst (ArePinned (at + 1)) (sym same_world) (later_pinned at w tidy.pins))
      same.rows same.areas same.pins
      (λ page there.
      let was = shows.pins.access page there in let is = same.access page in omega (arith, was, is))
      same.settles shows.access_pins)

-- ---- a pin comes

module _ {A : Type 0} (at : ℕ) (w : World) (s : State A) (file : FileNo) (id : ObjId) (request : PinRequest)
    (tidy : IsTidy at w) (shows : Shows w s) (none : first_true (access_pin_checks (view w) file id request) ≡ None)
    (pin : HeldPin) (row : row_of pin ≡ pin_of file id request)
    (attached : access_ioas_of w.objects pin.file pin.access ≡ Some pin.ioas)
    (apart : AreApart (areas_of w.areas pin.file pin.ioas)) where
  abbrev own : List Area
  own = areas_of w.areas pin.file pin.ioas

  abbrev runs : List PageRun
  runs = runs_in pin.span (meeting pin.span own)

  of_file : pin.file ≡ file
  of_file = ap (λ (p : AccessPin). p.file) row

  of_access : pin.access ≡ id
  of_access = ap (λ (p : AccessPin). p.access) row

  of_span : pin.span ≡ pinned_span request
  of_span = ap (λ (p : AccessPin). p.span) row

  passed : AccessPinPassed (view w) file id pin.ioas request
  passed = access_pin_passed (view w) file id pin.ioas request
      (ap (λ (f : FileNo). access_ioas_of w.objects f id) (sym of_file)
      ∙ ap (λ (i : ObjId). access_ioas_of w.objects pin.file i) (sym of_access) ∙ attached) none

  -- the same of what is kept
  passed_here : AccessPinPassed (seen s) file id pin.ioas request
  passed_here = subst (λ (v : View). AccessPinPassed v file id pin.ioas request)
      (sym (same_view w s shows tidy.tabled.owned)) passed

  fits : (is_whole_pages pin.span && leb pin.span.first pin.span.last) ≡ true
  fits = (and_true (is_whole_pages pin.span && leb pin.span.first pin.span.last) (ltb pin.span.last (2 ^ 64))
      (subst (λ (p : AccessPin). is_fitting_pin p ≡ true) (sym row)
      (pin_fits (view w) file id pin.ioas request passed))).0

  pub whole : is_whole_pages pin.span ≡ true
  whole = (and_true (is_whole_pages pin.span) (leb pin.span.first pin.span.last) fits).0

  ordered : pin.span.first ≤ pin.span.last
  ordered =
      let is = (and_true (is_whole_pages pin.span) (leb pin.span.first pin.span.last) fits).1 in
      search (is, arith, nat_tests)

  -- it has room
  pub roomy : (seen s).has_most_pins pin.file pin.access ≡ false
  roomy = ap (λ (f : FileNo). (seen s).has_most_pins f pin.access) of_file
      ∙ ap (λ (i : ObjId). (seen s).has_most_pins file i) of_access ∙ passed_here.roomy

  -- the pages that it pins anew are those of the runs
  pages_new : newly_accessed (seen s) file pin.ioas (pinned_span request) ≡ new_in_runs s.memory runs
  pages_new =
      ap (λ (f : FileNo). newly_accessed (seen s) f pin.ioas (pinned_span request)) (sym of_file)
      ∙ ap (λ (b : Bounds). newly_accessed (seen s) pin.file pin.ioas b) (sym of_span)
      ∙ new_accessed at w s tidy shows pin.file pin.ioas pin.span whole ordered
      (subst AreApart (shows.objects.spaces pin.file pin.ioas) apart)
      ∙ ap (λ (l : List Area). new_in_runs s.memory (runs_in pin.span (meeting pin.span l)))
      (sym (shows.objects.spaces pin.file pin.ioas))

  -- how often access pins cover a page with it
  covered_with : (page : ObjectPage) → has_page w.memory page ≡ true
      → accessed w.objects w.areas (w.access_pins ++ row_of pin ∷ []) page
      ≡ access_pins s.memory page + times_in runs page
  covered_with page there =
      let all = sum_by_push (covered_by w.objects w.areas page) w.access_pins (row_of pin) in
      let one = times_covered at w s tidy shows (row_of pin) pin.ioas attached whole ordered apart page there in
      let was = shows.pins.access page there in
      omega (arith, all, one, was)

  -- it covers a page in areas of one address space
  covered_once : (page : ObjectPage) → covered_by w.objects w.areas page (row_of pin) ≤ 65535
  covered_once page =
      let most = tidy.few.areas pin.file pin.ioas in
      let fewer = count_weaker (λ (area : Area). eqb area.memory page.memory
      && covers_page w.objects page.index (row_of pin) area) (is_of pin.file pin.ioas) w.areas
      (λ area there both. of_space area (and_true (is_pin_in w.objects (row_of pin) area) _
      (and_true (eqb area.memory page.memory) _ both).1).0) in
      omega (arith, most, fewer)
    where
      flipped : (m n : ℕ) → eqb m n ≡ true → eqb n m ≡ true
      flipped m n is = grind (arith, nat_tests)

      of_space : (area : Area) → is_pin_in w.objects (row_of pin) area ≡ true → is_of pin.file pin.ioas area ≡ true
      of_space area in_it =
          let parts = and_true (eqb area.file.0 pin.file.0) _ in_it in
          both_true _ _ parts.0 (flipped pin.ioas.0 area.ioas.0
          (ap (λ (o : Option ObjectKind). elim o [ Some k ↦ is_access_to area.ioas k | None ↦ false ])
          (sym (attached_kind w.objects pin.file pin.access pin.ioas attached)) ∙ parts.1))

  few : (page : ObjectPage) → 0 < times_in runs page → access_pins s.memory page + times_in runs page < 2 ^ 64
  few page some = by_page (has_page w.memory page) refl
    where
      by_page : (b : Bool) → has_page w.memory page ≡ b
          → access_pins s.memory page + times_in runs page < 2 ^ 64
      by_page true there =
          let was = shows.pins.access page there in
          let old = covered_few w tidy.few tidy.pins_fit (each_held w.objects w.areas w.access_pins tidy.pins.held)
          tidy.own page in
          let one = times_covered at w s tidy shows (row_of pin) pin.ioas attached whole ordered apart page there in
          let once = covered_once page in
          omega (arith, was, old, one, once)
      by_page false absent =
          let zero = unlisted_none at w s tidy shows (row_of pin) pin.ioas attached whole ordered apart page absent in
          absurd (omega (arith, zero, some))

  -- its pages can be pinned, for the file's user
  module _ (user : UserNo) (is_its : user_of s.config file ≡ Some user) (known : is_user s.config user ≡ true) where
    its_user : user_of w.settings pin.file ≡ Some user
    its_user = ap (user_of w.settings) of_file
        ∙ ap (λ (settings : Settings). user_of settings file) shows.settings ∙ is_its

    -- the rows of its runs are the user's
    owned : are_own user runs s.memory ≡ true
    owned = of_all (λ (m : MemoryObject). not (list_any (λ (run : PageRun). eqb run.number m.number) runs)
        || eqb m.user.0 user.0) (rows_of s.memory)
        (λ m among. by_run m among (list_any (λ (run : PageRun). eqb run.number m.number) runs) refl)
      where
        of_user : (m : MemoryObject) → is_of_files_user w.settings pin.file m ≡ true → eqb m.user.0 user.0 ≡ true
        of_user m is = turned user.0 m.user.0
            (ap (λ (o : Option UserNo). elim o [ Some u ↦ eqb u.0 m.user.0 | None ↦ false ]) (sym its_user) ∙ is)
          where
            turned : (a b : ℕ) → eqb a b ≡ true → eqb b a ≡ true
            turned a b same = grind (arith, nat_tests)

        by_area : (m : MemoryObject) → IsIn w.memory m → (area : Area) → IsIn w.areas area
            → is_of pin.file pin.ioas area ≡ true → eqb area.memory m.number ≡ true
            → is_of_files_user w.settings pin.file m ≡ true
        by_area m there area among of over =
            let each = of_each (λ (other : MemoryObject). not (eqb other.number area.memory)
            || is_of_files_user w.settings area.file other) w.memory m
            (of_each (is_over_own w.settings w.memory) w.areas area tidy.owned.owned among) there in
            let file_there = file_is area.file pin.file (and_true (eqb area.file.0 pin.file.0) _ of).0 in
            subst (λ (f : FileNo). is_of_files_user w.settings f m ≡ true) file_there
            (owed (eqb m.number area.memory) (is_of_files_user w.settings area.file m)
            (turned area.memory m.number over) each)
          where
            turned : (a b : ℕ) → eqb a b ≡ true → eqb b a ≡ true
            turned a b same = grind (arith, nat_tests)

            owed : (a b : Bool) → a ≡ true → (not a || b) ≡ true → b ≡ true
            owed true b is either = either
            owed false b is either = cc

        by_run : (m : MemoryObject) → IsIn (rows_of s.memory) m → (b : Bool)
            → list_any (λ (run : PageRun). eqb run.number m.number) runs ≡ b
            → (not b || eqb m.user.0 user.0) ≡ true
        by_run m among false is = refl
        by_run m among true is =
            let (run, in_runs, numbered) = some_in (λ (run : PageRun). eqb run.number m.number) runs is in
            let (area, in_met, same) = in_map (run_in pin.span) (meeting pin.span own) run in_runs in
            let (in_own, met) = in_filter (λ (a : Area). meets a.span pin.span) own area in_met in
            let (in_world, of) = in_filter (is_of pin.file pin.ioas) w.areas area in_own in
            of_user m (by_area m (subst (λ (l : List MemoryObject). IsIn l m) (sym shows.pins.rows) among) area in_world
            of (ap (λ (r : PageRun). eqb r.number m.number) same ∙ numbered))

    pub may_pin : MayPin runs s.memory s.pool.holds
    may_pin = record {
      user = user;
      own = owned;
      lies = runs_lie at w s tidy shows (row_of pin) pin.ioas attached whole ordered apart;
      present = ap (list_any (λ (page : ObjectPage). is_none (frame_now s.memory page))) (sym pages_new)
          ∙ passed_here.present;
      room = room_there w s user (length (new_in_runs s.memory runs)) shows known
          (ap (λ (o : Option UserNo). passes_limit (seen s) o (length (new_in_runs s.memory runs))) (sym is_its)
          ∙ ap (λ (l : List ObjectPage). passes_limit (seen s) (user_of s.config file) (length l)) (sym pages_new)
          ∙ passed_here.within_limit);
      few = few;
      backed = is_backed w.settings.pool w.writes w.table_frames s.memory s.pool shows.frames;
      invariant = shows.pins.invariant;
      only = only_kept at w s.memory tidy.pins shows.pins;
    }

  -- an equal one that is held pins all pages of the runs already
  pub pinned_before : is_held w.access_pins (row_of pin) ≡ true → (page : ObjectPage)
      → is_in_runs runs page ≡ true → access_pins s.memory page ≡ 0 → ⊥
  pinned_before held page among unpinned = by_page (has_page w.memory page) refl
    where
      some : 0 < times_in runs page
      some =
          let is = sym (any_count (λ (run : PageRun). covers run page.memory page.index) runs) ∙ among in
          search (is, arith, nat_tests)

      by_page : (b : Bool) → has_page w.memory page ≡ b → ⊥
      by_page true there =
          let was = shows.pins.access page there in
          let all = sum_without (covered_by w.objects w.areas page) (row_of pin) w.access_pins held in
          let one = times_covered at w s tidy shows (row_of pin) pin.ioas attached whole ordered apart page there in
          let counted = some in
          omega (arith, was, all, one, counted, unpinned)
      by_page false absent =
          let zero = unlisted_none at w s tidy shows (row_of pin) pin.ioas attached whole ordered apart page absent in
          let counted = some in
          omega (arith, zero, counted)

  next : ArePinned (at + 1) (access_pinned w file id request reply.Done)
  unfolding changed Answers
  next = keeps_pins {A = ℕ} at w (event.AccessPin file id request) reply.Done none tt tidy.pins

  pub pinned_shown : (kept : List HeldPin) (after : Memory) (pool : FramePool) → HasOneMore s.access_pins kept pin
      → RunsPinned runs s.memory after s.pool pool
      → Shows (access_pinned w file id request reply.Done)
      (record s { access_pins = kept; memory = after; pool = pool })
  pinned_shown kept after pool more pinned =
      subst (λ (p : AccessPin). Shows (with_access_pins w (w.access_pins ++ p ∷ []))
      (record s { access_pins = kept; memory = after; pool = pool })) row
      (settled_shown at w s tidy shows (w.access_pins ++ row_of pin ∷ []) kept after pool
      (subst (λ (p : AccessPin). ArePinned (at + 1) (with_access_pins w (w.access_pins ++ p ∷ []))) (sym row) next)
      pinned.rows pinned.areas pinned.pins
      (λ page there.
      let all = covered_with page there in let is = pinned.access page in omega (arith, all, is))
      pinned.settles
      (shown_more w.objects w.access_pins s.access_pins pin shows.access_pins kept more
      (ap (λ (o : Option ObjId). elim o as (λ _. Bool) [ Some to ↦ eqb to.0 pin.ioas.0 | None ↦ false ]) attached
      ∙ itself pin.ioas.0)))
    where
      itself : (n : ℕ) → eqb n n ≡ true
      itself n = grind (arith, nat_tests)

-- ---- the same of the areas that are kept

module _ {A : Type 0} (at : ℕ) (w : World) (s : State A) (file : FileNo) (id : ObjId) (request : PinRequest)
    (tidy : IsTidy at w) (shows : Shows w s) (none : first_true (access_pin_checks (view w) file id request) ≡ None)
    (ioas : ObjId) (attached : Some ioas ≡ access_ioas_of (objects_in s.objects) file id) (pin : HeldPin)
    (row : row_of pin ≡ pin_of file id request) (space : pin.ioas ≡ ioas) (areas : List Area)
    (there : areas_at s.objects.rows file ioas ≡ areas) (apart : AreApart areas) where
  are : areas_of w.areas pin.file pin.ioas ≡ areas
  are = pin_areas at w s tidy shows file id ioas attached pin request row space areas there

  in_it : access_ioas_of w.objects pin.file pin.access ≡ Some pin.ioas
  in_it = pin_attached at w s tidy shows file id ioas attached pin request row space

  apart_there : AreApart (areas_of w.areas pin.file pin.ioas)
  apart_there = subst AreApart (sym are) apart

  pub whole_pages : is_whole_pages pin.span ≡ true
  whole_pages = whole at w s file id request tidy shows none pin row in_it apart_there

  pub has_room : (seen s).has_most_pins pin.file pin.access ≡ false
  has_room = roomy at w s file id request tidy shows none pin row in_it apart_there

  module _ (met : List Area) (is : met ≡ meeting pin.span areas) where
    met_there : meeting pin.span (areas_of w.areas pin.file pin.ioas) ≡ met
    met_there = ap (λ (l : List Area). meeting pin.span l) are ∙ sym is

    pub may_pin_met : (user : UserNo) → user_of s.config file ≡ Some user → is_user s.config user ≡ true
        → MayPin (runs_in pin.span met) s.memory s.pool.holds
    may_pin_met user is_its known =
        subst (λ (l : List Area). MayPin (runs_in pin.span l) s.memory s.pool.holds) met_there
        (may_pin at w s file id request tidy shows none pin row in_it apart_there user is_its known)

    pub unheld : (page : ObjectPage) × (is_in_runs (runs_in pin.span met) page ≡ true)
        × (access_pins s.memory page ≡ 0) → (seen s).is_held (pin_of file id request) ≡ false
    unheld (page, among, unpinned) = false_else _ (λ held.
        pinned_before at w s file id request tidy shows none pin row in_it apart_there
        (ap (is_held w.access_pins) row
        ∙ ap (λ (v : View). v.is_held (pin_of file id request)) (sym (same_view w s shows tidy.tabled.owned)) ∙ held)
        page (subst (λ (l : List Area). is_in_runs (runs_in pin.span l) page ≡ true) (sym met_there) among) unpinned)

    pub pinned_shown_met : (kept : List HeldPin) (after : Memory) (pool : FramePool) → HasOneMore s.access_pins kept pin
        → RunsPinned (runs_in pin.span met) s.memory after s.pool pool
        → Shows (access_pinned w file id request reply.Done)
        (record s { access_pins = kept; memory = after; pool = pool })
    pinned_shown_met kept after pool more pinned =
        pinned_shown at w s file id request tidy shows none pin row in_it apart_there kept after pool more
        (subst (λ (l : List Area). RunsPinned (runs_in pin.span l) s.memory after s.pool pool) (sym met_there) pinned)
