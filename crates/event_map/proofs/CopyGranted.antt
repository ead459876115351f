-- A COPY that nothing refuses: what it asks of the users' memory, and that its area may be mapped.
use Rattle.std.proofs.Common.{◌≡◌, ℕ, ◌+◌, ◌<◌, ◌≤◌, ◌^◌, Bool, true, false, ◌||◌, not, eqb, Option, Some, None}
use Rattle.std.proofs.Common.{List, [], ◌∷◌, sym, ◌∙◌, ap, subst, arith}
use Rattle.std.specs.Prelude.{if◌then◌else◌}
use Rattle.std.specs.List.{list_all}
use Rattle.std.proofs.lemmas.Bool.Decides.{nat_tests}
use Rattle.frame_memory.specs.Pool.{FramePool, free_count}
use Rattle.iofd_rows.proofs.Each.{of_each}
use Rattle.iofd_runs.proofs.MappedAt.{copy_lies_at}
use Rattle.iofd_runs.proofs.NotRefused.{CopyPassed, PlacePassed, copy_passed, copy_place}
use Rattle.iofd_runs.proofs.SharedFew.{shared_few}
use Rattle.iofd_runs.specs.Owned.{is_of_files_user, is_over_own}
use Rattle.iofd_steps.specs.After.{mapped_area}
use Rattle.iofd_steps.specs.Answers.{IsMappedAt}
use Rattle.iofd_words.specs.Bounds.{Bounds}
use Rattle.iofd_refusals.specs.Checks.{passes_limit, tables_to_map}
use Rattle.iofd_refusals.specs.Checks.{unusable_in}
use Rattle.iofd_words.specs.Copies.{placed_as, source_in}
use Rattle.iofd_words.specs.Files.{is_user, user_of}
use Rattle.iofd_words.specs.Objects.{has_hwpt}
use Rattle.iofd_words.specs.Ranges.{meets_some}
use Rattle.iofd_words.specs.Rights.{is_fixed}
use Rattle.iofd_words.specs.Settings.{Settings}
use Rattle.iofd_words.specs.Span.{is_whole_pages, span_from}
use Rattle.iofd_words.specs.View.{view}
use Rattle.iofd_words.specs.World.{World}
use Rattle.iofd_words.specs.declared.event.CopyRequest.{CopyRequest}
use Rattle.iofd_words.specs.declared.event.Event.TheVariants as event
use Rattle.iofd_words.specs.declared.numbers.FileNo.{FileNo}
use Rattle.iofd_words.specs.declared.numbers.Iova.{Iova}
use Rattle.iofd_words.specs.declared.numbers.UserNo.{UserNo}
use Rattle.iofd_words.specs.declared.rows.Area.{Area}
use Rattle.iofd_words.specs.declared.rows.MemoryObject.{MemoryObject}
use Rattle.event_map.proofs.AreaPlaced.{is_place}
use Rattle.event_map.proofs.Chosen.{is_spanned}
use Rattle.event_map.proofs.Copied.{IsOver, can_copy, is_over}
use Rattle.event_map.proofs.CopyAsks.{lacks_told, limit_told}
use Rattle.event_map.proofs.PlaceAsks.{frames_enough, good_rights, span_usable, span_whole}
use Rattle.event_map.specs.AreaMapped.{CanMapArea}
use Rattle.event_map.specs.Place.{IsPlace}
use Rattle.event_map.specs.Sources.{number_of}
use Rattle.user_memory_rows.proofs.ObjectOf.{area_there, own_of_one}
use Rattle.server_state.proofs.Limits.{room_there}
use Rattle.server_state.proofs.ViewShown.{same_refusal, same_view}
use Rattle.server_state.specs.Held.{areas_at, objects_in}
use Rattle.server_state.specs.Seen.{seen}
use Rattle.server_state.specs.Step.{IsGrantedAt}
use Rattle.server_state.specs.declared.state.State.{State}
use Rattle.user_memory.specs.Changes.{HasShare, Settles}
use Rattle.user_memory.specs.Invariant.{ObjectsTell}
use Rattle.user_memory.specs.Memory.{Memory, are_of, areas_over, has_room, lacks_page, new_pages, rows_at}

module _ {A : Type 0} (at : ℕ) (s : State A) (file : FileNo) (request : CopyRequest)
    (granted : IsGrantedAt at (event.Copy file request) s) where
  abbrev w : World
  w = granted.world

  pub passed : CopyPassed (seen s) file request
  passed = copy_passed (seen s) file request
      (same_refusal granted.world s granted.shows granted.tidy.tabled.owned {E = A} (event.Copy file request)
      ∙ granted.none)

  pub placed : PlacePassed (seen s) file (placed_as request)
  placed = copy_place (seen s) file request
      (same_refusal granted.world s granted.shows granted.tidy.tabled.owned {E = A} (event.Copy file request)
      ∙ granted.none)

  pub over : (number : ℕ) → number_of (source_in (areas_at s.objects.rows file request.src_ioas) request) ≡ Some number
      → IsOver w file request number
  over number named = is_over w file request number granted.none
      (ap (λ (areas : List Area). number_of (source_in areas request))
      (granted.shows.objects.spaces file request.src_ioas) ∙ named)

  -- ---- what is asked of the memory object of this number

  -- one area more can be counted with it
  pub few_over : (number : ℕ) → areas_over s.memory number + 1 < 2 ^ 64
  few_over number =
      let most = shared_few w granted.tidy.few granted.tidy.own granted.tidy.debts number in
      let same = granted.shows.pins.areas number in
      omega (arith, most, same)

  module _ (number : ℕ) (named : number_of (source_in (areas_at s.objects.rows file request.src_ioas) request) ≡ Some
      number) (user : UserNo) (is_user_of : user_of s.config file ≡ Some user) where
    abbrev its : IsOver w file request number
    its = over number named

    pub there : 1 ≤ areas_over s.memory number
    there = subst (λ (n : ℕ). 1 ≤ areas_over s.memory n) its.same
        (area_there at w its.source its.is.within s.memory granted.shows.pins)

    its_user : (settings : Settings) → user_of settings file ≡ Some user → (row : MemoryObject)
        → is_of_files_user settings file row ≡ true → eqb row.user.0 user.0 ≡ true
    its_user settings is row of_user = by_user (user_of settings file) is of_user
      where
        turned : (a b : ℕ) → eqb a b ≡ true → eqb b a ≡ true
        turned a b same = grind (arith, nat_tests)

        by_user : (o : Option UserNo) → o ≡ Some user → elim o [ Some u ↦ eqb u.0 row.user.0 | None ↦ false ] ≡ true
            → eqb row.user.0 user.0 ≡ true
        by_user None found is = cc
        by_user (Some u) found is = let same : u ≡ user = cc in turned user.0 row.user.0 (rw same at is)

    pub own : are_of user (rows_at s.memory (number ∷ [])) ≡ true
    own =
        own_of_one s.memory user number (is_of_files_user w.settings file)
        (its_user w.settings (ap (λ (settings : Settings). user_of settings file) granted.shows.settings
        ∙ is_user_of))
        (ap (list_all (λ (m : MemoryObject). not (eqb m.number number) || is_of_files_user w.settings file m))
        (sym granted.shows.pins.rows) ∙ all)
      where
        of_source : is_over_own w.settings w.memory its.source ≡ true
        of_source = of_each (is_over_own w.settings w.memory) w.areas its.source granted.tidy.owned.owned its.is.within

        all : list_all (λ (m : MemoryObject). not (eqb m.number number)
            || is_of_files_user w.settings file m) w.memory ≡ true
        all =
            subst (λ (n : ℕ). list_all (λ (m : MemoryObject). not (eqb m.number n)
            || is_of_files_user w.settings file m) w.memory ≡ true) its.same
            (subst (λ (f : FileNo). list_all (λ (m : MemoryObject). not (eqb m.number its.source.memory)
            || is_of_files_user w.settings f m) w.memory ≡ true) its.is.of_file of_source)

    module _ (told : ObjectsTell s.memory.objects) (pinned : Bool)
        (pinned_is : pinned ≡ has_hwpt (objects_in s.objects) file request.dst_ioas) (translated : pinned ≡ true) where
      has_table : has_hwpt (seen s).objects file request.dst_ioas ≡ true
      has_table = sym pinned_is ∙ translated

      pub present : lacks_page s.memory number ≡ false
      present = lacks_told s file request number named told has_table ∙ passed.present

      pub room : is_user s.config user ≡ true → has_room s.memory user (new_pages s.memory number) ≡ true
      room known =
          room_there w s user (new_pages s.memory number) granted.shows known
          (ap (λ (o : Option UserNo). passes_limit (seen s) o (new_pages s.memory number)) (sym is_user_of)
          ∙ limit_told s file request number named told has_table ∙ passed.within_limit)

  -- ---- the place

  module _ (span : Bounds) (place : IsPlace (seen s) file (placed_as request) span) where
    abbrev iova : Iova
    iova = record { 0 = span.first }

    spanned : span ≡ span_from span.first request.length
    spanned = is_spanned (seen s) file (placed_as request) span place

    pub at_place : IsMappedAt w file (placed_as request) (is_fixed request.flags) iova
    at_place = (is_place w file (placed_as request) (copy_place (view w) file request granted.none) (seen s)
        (sym (same_view w s granted.shows granted.tidy.tabled.owned)) span place).1

    pub enough_there : (number : ℕ) → tables_to_map (seen s) file request.dst_ioas
        (mapped_area number file (placed_as request) iova).span ≤ free_count s.pool.holds
    enough_there number = subst (λ (x : Bounds). tables_to_map (seen s) file request.dst_ioas x ≤ free_count
        s.pool.holds) spanned (frames_enough s file (placed_as request) placed span place)

    low : span.first < 2 ^ 64
    low =
        let sum = (copy_lies_at w file request iova granted.none at_place).sum in
        let some = passed.some in
        let more : 0 < request.length = search (some, arith, nat_tests) in
        grind (arith, nat_tests)

    pub can_map : (number : ℕ) → number_of (source_in (areas_at s.objects.rows file request.src_ioas) request) ≡ Some
        number → (after : Memory) (pool : FramePool) (pinned : Bool) (room : ℕ)
        → pinned ≡ has_hwpt (objects_in s.objects) file request.dst_ioas
        → HasShare (if pinned then 1 else 0) number s.memory after → Settles s.memory after s.pool pool
        → tables_to_map (seen s) file request.dst_ioas span ≤ room → pinned ≡ true
        → CanMapArea pool s.page_tables.tables after (mapped_area number file (placed_as request) iova) room
    can_map number named after pool pinned room pinned_is has settles roomy =
        can_copy at w s granted.tidy granted.shows file request iova number after pool pinned granted.none at_place
        (over number named) pinned_is has settles (enough_there number) room
        (subst (λ (x : Bounds). tables_to_map (seen s) file request.dst_ioas x ≤ room) spanned roomy)
        (subst (λ (x : Bounds). is_whole_pages x ≡ true) spanned
        (span_whole s file (placed_as request) placed span place))
        (subst (λ (x : Bounds). meets_some (unusable_in (seen s) file request.dst_ioas) x ≡ false) spanned
        (span_usable s file (placed_as request) placed span place))
        low
        (good_rights s file (placed_as request) placed)
