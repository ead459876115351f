-- The world after a MAP is shown.
use Rattle.std.proofs.Common.{refl, ◌≡◌, ℕ, Bool, Option, Some, None, List, [], ◌∷◌, ◌++◌, length, sym, ◌+◌, ◌≤◌, subst}
use Rattle.iofd_steps.specs.Answers.{Answers, IsMappedAt}
use Rattle.area_map_rows.specs.Areas as own
use Rattle.user_memory_rows.proofs.AccessStays.{PinsNext, pins_next}
use Rattle.iofd_runs.proofs.MappedAt.{lies_at}
use Rattle.iofd_refusals.specs.Checks.{map_checks, tables_to_map}
use Rattle.iofd_steps.specs.After.{changed, map_changes}
use Rattle.iofd_words.specs.Files.{user_of}
use Rattle.iofd_words.specs.Rights.{is_fixed}
use Rattle.iofd_words.specs.FirstTrue.{first_true}
use Rattle.frame_memory.specs.Pool.{FramePool, free_count}
use Rattle.page_table_set.specs.PageTables.{IfAllStand}
use Rattle.iofd_words.specs.Tables.{MovesTables, with_tables}
use Rattle.iofd_words.specs.declared.numbers.FrameNo.{FrameNo}
use Rattle.user_memory.specs.Changes.{HasObject, Settles}
use Rattle.user_memory.specs.Memory.{Memory}
use Rattle.event_map.proofs.AreaTables.{mapped_shows, moves_mapped}
use Rattle.event_map.proofs.MapMemory.{area, map_comes, mapped_world, object}
use Rattle.event_map.specs.AreaMapped.{IsAreaMapped}
use Rattle.std.specs.Prelude.{if◌then◌else◌}
use Rattle.iofd_words.specs.Objects.{has_hwpt}
use Rattle.iofd_words.specs.View.{view}
use Rattle.iofd_words.specs.World.{World}
use Rattle.iofd_words.specs.declared.event.Event.TheVariants as event
use Rattle.iofd_words.specs.declared.event.MapRequest.{MapRequest}
use Rattle.iofd_words.specs.declared.numbers.FileNo.{FileNo}
use Rattle.iofd_words.specs.declared.numbers.Iova.{Iova}
use Rattle.iofd_words.specs.declared.numbers.UserNo.{UserNo}
use Rattle.iofd_words.specs.declared.reply.Reply.TheVariants as reply
use Rattle.server_state.proofs.Orderly.{orderly}
use Rattle.server_state.specs.Choice.{AreFramesChosen}
use Rattle.server_state.specs.Held.{areas_at, objects_in}
use Rattle.server_state.specs.Seen.{seen}
use Rattle.server_state.specs.Shows.{Shows}
use Rattle.server_state.specs.Spaces.{HasAreas, IsOrderly}
use Rattle.server_state.specs.Step.{IsTidy}
use Rattle.server_state.specs.declared.held.Held.{Held}
use Rattle.server_state.specs.declared.state.State.{State}
use Rattle.object_table.specs.Table.{Table}
use Rattle.event_map.proofs.AreaPlaced.{objects_mapped}

-- the pins of the world with the area
pub own_next : (at : ℕ) (w : World) (file : FileNo) (request : MapRequest) (iova : Iova) (user : UserNo) → IsTidy at w
    → first_true (map_checks (view w) file request) ≡ None → IsMappedAt w file request (is_fixed request.flags) iova
    → user_of w.settings file ≡ Some user → PinsNext (at + 1) w (mapped_world at w file request iova user)
unfolding changed Answers
own_next at w file request iova user tidy none place known =
    let next : PinsNext (at + 1) w (map_changes at w file request iova (user_of w.settings file)) =
    pins_next {A = ℕ} at w (event.Map file request) (reply.Iova iova) none place tidy.pins in
    subst (λ (o : Option UserNo). PinsNext (at + 1) w (map_changes at w file request iova o)) known next

module _ {A : Type 0} where
  -- the record of the MAP, and the world after it
  abbrev pub IsMappedAs : ℕ → World → FileNo → MapRequest → Iova → List FrameNo → State A → Type 0
  IsMappedAs at w file request iova taken new =
      MovesTables {A = A} w (changed {A = A} at w (event.Map file request) (reply.Iova iova)) (event.Map file request)
      (reply.Iova iova) taken []
      × AreFramesChosen {A = A} w (changed {A = A} at w (event.Map file request) (reply.Iova iova))
      (event.Map file request) (reply.Iova iova) taken []
      × Shows (with_tables taken [] (changed {A = A} at w (event.Map file request) (reply.Iova iova))) new

  module _ (at : ℕ) (w : World) (s : State A) (tidy : IsTidy at w) (shows : Shows w s) (file : FileNo)
      (request : MapRequest) (iova : Iova) (user : UserNo) (table : Table (Held A)) (after : Memory)
      (pool : FramePool) (pinned : Bool)
      (none : first_true (map_checks (view w) file request) ≡ None)
      (place : IsMappedAt w file request (is_fixed request.flags) iova)
      (is_user : user_of s.config file ≡ Some user)
      (pinned_is : pinned ≡ has_hwpt (objects_in s.objects) file request.ioas)
      (has : HasObject (if pinned then 1 else 0) (object at w file request iova user) s.memory after)
      (settles : Settles s.memory after s.pool pool)
      (enough : tables_to_map (seen s) file request.ioas (area at w file request iova user).span
      ≤ free_count s.pool.holds) where
    pub known : user_of w.settings file ≡ Some user
    known = rw shows.settings is_user

    pub shows_mapped : (made : FramePool) (taken : List FrameNo)
        → IfAllStand pool s.page_tables.tables (IsAreaMapped after (area at w file request iova user)
        s.page_tables.tables pool made [] taken)
        → length made.bytes ≡ length made.holds
        → (IsOrderly s.objects → HasAreas file request.ioas
        (own.with_area (area at w file request iova user) (areas_at s.objects.rows file request.ioas)) s.objects
        table)
        → IsMappedAs at w file request iova taken (record s { objects = table; memory = after; pool = made })
    unfolding changed
    shows_mapped made taken is bytes inserted =
        let next = own_next at w file request iova user tidy none place known in
        let apart = (lies_at w file request iova none place).apart in
        let coming = map_comes at w s tidy shows file request iova user after pool pinned next pinned_is has settles in
        let objects = w.memory ++ object at w file request iova user ∷ [] in
        let moves = moves_mapped at w s tidy shows at file request iova objects after pool coming enough made taken
        is bytes apart {E = A} (event.Map file request) (reply.Iova iova) tidy.tabled.owned (λ t. refl) in
        let P = λ (o : Option UserNo).
        MovesTables {A = A} w (map_changes at w file request iova o) (event.Map file request) (reply.Iova iova) taken []
        × AreFramesChosen {A = A} w (map_changes at w file request iova o) (event.Map file request) (reply.Iova iova)
        taken []
        × Shows (with_tables taken [] (map_changes at w file request iova o))
        (record s { objects = table; memory = after; pool = made }) in
        subst P (sym known) (
          moves.0,
          moves.1,
          mapped_shows at w s tidy shows at file request iova objects after pool coming enough made taken is bytes
              apart table
              (objects_mapped w s (area at w file request iova user) table (orderly at w s tidy shows) shows inserted),
        )
