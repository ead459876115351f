-- A MAP that nothing refuses: for the tables that its area lacks there are frames, and once its pages are pinned it may
-- be mapped.
use Rattle.std.proofs.Common.{◌≡◌, ℕ, ◌<◌, ◌≤◌, ◌^◌, Bool, false, true, Some, [], ◌∷◌, ◌++◌, sym, subst, arith}
use Rattle.std.specs.Prelude.{if◌then◌else◌}
use Rattle.std.proofs.lemmas.Bool.Decides.{nat_tests}
use Rattle.frame_memory.specs.Pool.{FramePool, free_count}
use Rattle.iofd_runs.proofs.MappedAt.{lies_at}
use Rattle.iofd_steps.specs.After.{mapped_area, memory_object}
use Rattle.iofd_steps.specs.Answers.{IsMappedAt}
use Rattle.iofd_words.specs.Bounds.{Bounds}
use Rattle.iofd_refusals.specs.Checks.{tables_to_map, unusable_in}
use Rattle.iofd_words.specs.Files.{user_of}
use Rattle.iofd_words.specs.Objects.{has_hwpt}
use Rattle.iofd_words.specs.Ranges.{meets_some}
use Rattle.iofd_words.specs.Rights.{is_fixed}
use Rattle.iofd_words.specs.Span.{is_whole_pages, span_from}
use Rattle.iofd_words.specs.World.{World}
use Rattle.iofd_words.specs.declared.event.Event.TheVariants as event
use Rattle.iofd_words.specs.declared.event.MapRequest.{MapRequest}
use Rattle.iofd_words.specs.declared.numbers.FileNo.{FileNo}
use Rattle.iofd_words.specs.declared.numbers.Iova.{Iova}
use Rattle.iofd_words.specs.declared.numbers.UserNo.{UserNo}
use Rattle.event_map.proofs.Chosen.{is_spanned}
use Rattle.event_map.proofs.MapMemory.{map_comes, new_found, new_pinned}
use Rattle.event_map.proofs.MayMap.{may_map}
use Rattle.event_map.specs.AreaMapped.{CanMapArea}
use Rattle.event_map.specs.Place.{IsPlace}
use Rattle.server_state.proofs.ViewShown.{same_view}
use Rattle.server_state.specs.Held.{objects_in}
use Rattle.server_state.specs.Seen.{seen}
use Rattle.server_state.specs.Step.{IsGrantedAt}
use Rattle.server_state.specs.declared.state.State.{State}
use Rattle.user_memory.specs.Changes.{HasObject, Settles}
use Rattle.user_memory.specs.Memory.{Memory}
use Rattle.iofd_runs.proofs.NotRefused.{PlacePassed, map_place}
use Rattle.iofd_words.specs.View.{view}
use Rattle.event_map.proofs.AreaPlaced.{is_place}
use Rattle.event_map.proofs.MapAsks.{placed, some_length}
use Rattle.event_map.proofs.Mapped.{own_next}
use Rattle.event_map.proofs.PlaceAsks.{frames_enough, good_rights, sized, span_usable, span_whole}

module _ {A : Type 0} (at : ℕ) (s : State A) (file : FileNo) (request : MapRequest) (user : UserNo)
    (granted : IsGrantedAt at (event.Map file request) s) (is_user : user_of s.config file ≡ Some user) (span : Bounds)
    (place : IsPlace (seen s) file request span) where
  abbrev iova : Iova
  iova = record { 0 = span.first }

  abbrev w : World
  w = granted.world

  passed : PlacePassed (seen s) file request
  passed = placed at s file request user granted is_user

  spanned : span ≡ span_from span.first request.length
  spanned = is_spanned (seen s) file request span place

  pub enough_there : tables_to_map (seen s) file request.ioas (mapped_area at file request iova).span
      ≤ free_count s.pool.holds
  enough_there = subst (λ (x : Bounds). tables_to_map (seen s) file request.ioas x ≤ free_count s.pool.holds) spanned
      (frames_enough s file request passed span place)

  at_place : IsMappedAt w file request (is_fixed request.flags) iova
  at_place = (is_place w file request (map_place (view w) file request granted.none) (seen s)
      (sym (same_view w s granted.shows granted.tidy.tabled.owned)) span place).1

  low : span.first < 2 ^ 64
  low =
      let sum = (lies_at w file request iova granted.none at_place).sum in
      let some = some_length at s file request user granted is_user in
      let more : 0 < request.length = search (some, arith, nat_tests) in
      grind (arith, nat_tests)

  pub can_map : (after : Memory) (pool : FramePool) (pinned : Bool) (room : ℕ)
      → pinned ≡ has_hwpt (objects_in s.objects) file request.ioas
      → HasObject (if pinned then 1 else 0) (memory_object at user request) s.memory after
      → Settles s.memory after s.pool pool
      → tables_to_map (seen s) file request.ioas span ≤ room → pinned ≡ true
      → CanMapArea pool s.page_tables.tables after (mapped_area at file request iova) room
  can_map after pool pinned room pinned_is has settles roomy =
      let next =
      own_next at w file request iova user granted.tidy granted.none at_place (rw granted.shows.settings is_user) in
      let coming = map_comes at w s granted.tidy granted.shows file request iova user after pool pinned next
      pinned_is has settles in
      λ translated.
      may_map at w s granted.tidy granted.shows at file request iova (w.memory ++ memory_object at user request ∷ [])
      after pool coming enough_there room
      (subst (λ (x : Bounds). tables_to_map (seen s) file request.ioas x ≤ room) spanned roomy)
      (subst (λ (x : Bounds). is_whole_pages x ≡ true) spanned (span_whole s file request passed span place))
      (subst (λ (x : Bounds). meets_some (unusable_in (seen s) file request.ioas) x ≡ false) spanned
      (span_usable s file request passed span place))
      low
      (new_pinned at w s granted.tidy granted.shows file request iova user after pool pinned next
      pinned_is has settles translated)
      (memory_object at user request)
      (new_found at w s granted.tidy granted.shows file request iova user after pool pinned next pinned_is has settles)
      (sized s file request passed span.first)
      (good_rights s file request passed)
