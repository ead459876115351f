-- The world after a COPY is shown.
use Rattle.std.proofs.Common.{refl, ◌≡◌, ℕ, ◌+◌, ◌<◌, ◌≤◌, ◌^◌, Bool, true, false, Option, Some, None, List, [], length, sym}
use Rattle.std.proofs.Common.{◌∙◌, ap, subst}
use Rattle.std.specs.Prelude.{if◌then◌else◌}
use Rattle.area_map_rows.specs.Areas as own
use Rattle.frame_memory.specs.Pool.{FramePool, free_count}
use Rattle.page_table_set.specs.PageTables.{IfAllStand}
use Rattle.iofd_runs.proofs.CopySource.{IsSource, copy_source, source_area}
use Rattle.user_memory_rows.proofs.AccessStays.{PinsNext, pins_next}
use Rattle.iofd_runs.proofs.MappedAt.{copy_lies_at}
use Rattle.iofd_steps.specs.After.{changed, copy_changes, mapped_area}
use Rattle.iofd_steps.specs.Answers.{IsMappedAt, Answers}
use Rattle.iofd_refusals.specs.Checks.{copy_checks, tables_to_map, unusable_in}
use Rattle.iofd_words.specs.Copies.{placed_as}
use Rattle.iofd_words.specs.FirstTrue.{first_true}
use Rattle.iofd_words.specs.Objects.{has_hwpt}
use Rattle.iofd_words.specs.Ranges.{meets_some}
use Rattle.iofd_words.specs.Rights.{is_fixed}
use Rattle.iofd_words.specs.Span.{is_whole_pages}
use Rattle.iofd_words.specs.Tables.{MovesTables, with_tables}
use Rattle.iofd_words.specs.View.{view}
use Rattle.iofd_words.specs.World.{World}
use Rattle.iofd_words.specs.declared.event.CopyRequest.{CopyRequest}
use Rattle.iofd_words.specs.declared.event.Event.TheVariants as event
use Rattle.iofd_words.specs.declared.numbers.FileNo.{FileNo}
use Rattle.iofd_words.specs.declared.numbers.FrameNo.{FrameNo}
use Rattle.iofd_words.specs.declared.numbers.Iova.{Iova}
use Rattle.iofd_words.specs.declared.reply.Reply.TheVariants as reply
use Rattle.iofd_words.specs.declared.rows.Area.{Area}
use Rattle.event_map.proofs.AreaPlaced.{objects_mapped}
use Rattle.event_map.proofs.AreaTables.{mapped_shows, moves_mapped}
use Rattle.event_map.proofs.CopyMemory.{copy_comes, copy_found, copy_pinned}
use Rattle.event_map.proofs.MayMap.{may_map}
use Rattle.event_map.specs.AreaMapped.{CanMapArea, IsAreaMapped}
use Rattle.event_map.specs.Sources.{number_of}
use Rattle.object_table.specs.Table.{Table}
use Rattle.server_state.proofs.Orderly.{orderly}
use Rattle.server_state.specs.Choice.{AreFramesChosen}
use Rattle.server_state.specs.Held.{areas_at, objects_in}
use Rattle.server_state.specs.Seen.{seen}
use Rattle.server_state.specs.Shows.{Shows}
use Rattle.server_state.specs.Spaces.{HasAreas, IsOrderly}
use Rattle.server_state.specs.Step.{IsTidy}
use Rattle.server_state.specs.declared.held.Held.{Held}
use Rattle.server_state.specs.declared.state.State.{State}
use Rattle.user_memory.specs.Changes.{HasShare, Settles}
use Rattle.user_memory.specs.Memory.{Memory}
use Rattle.iofd_rows.specs.Pinned.{ArePinned}

-- the source of a COPY, over the memory object of this number
pub record IsOver (w : World) (file : FileNo) (request : CopyRequest) (number : ℕ) : Type 0 where
  pub source : Area
  pub found : source_area w file request ≡ Some source
  pub is : IsSource w file request source
  pub same : source.memory ≡ number

pub is_over : (w : World) (file : FileNo) (request : CopyRequest) (number : ℕ)
    → first_true (copy_checks (view w) file request) ≡ None → number_of (source_area w file request) ≡ Some number
    → IsOver w file request number
is_over w file request number none named =
    let (source, found, is) = copy_source w file request none in
    let told : Some source.memory ≡ Some number = sym (ap number_of found) ∙ named in
    record { source = source; found = found; is = is; same = cc }

-- the pins of the world with the area
copied_next : (at : ℕ) (w : World) (file : FileNo) (request : CopyRequest) (iova : Iova) (source : Area)
    → first_true (copy_checks (view w) file request) ≡ None
    → IsMappedAt w file (placed_as request) (is_fixed request.flags) iova → source_area w file request ≡ Some source
    → ArePinned at w → PinsNext (at + 1) w (copy_changes w file request iova (Some source))
unfolding changed Answers
copied_next at w file request iova source none place found p =
    let after : PinsNext (at + 1) w (copy_changes w file request iova (source_area w file request)) =
    pins_next {A = ℕ} at w (event.Copy file request) (reply.Iova iova) none place p in
    subst (λ (o : Option Area). PinsNext (at + 1) w (copy_changes w file request iova o)) found after

module _ {A : Type 0} where
  -- the record of the COPY, and the world after it
  abbrev pub IsCopiedAs : ℕ → World → FileNo → CopyRequest → Iova → List FrameNo → State A → Type 0
  IsCopiedAs at w file request iova taken new =
      MovesTables {A = A} w (changed {A = A} at w (event.Copy file request) (reply.Iova iova)) (event.Copy file request)
      (reply.Iova iova) taken []
      × AreFramesChosen {A = A} w (changed {A = A} at w (event.Copy file request) (reply.Iova iova))
      (event.Copy file request) (reply.Iova iova) taken []
      × Shows (with_tables taken [] (changed {A = A} at w (event.Copy file request) (reply.Iova iova))) new

  module _ (at : ℕ) (w : World) (s : State A) (tidy : IsTidy at w) (shows : Shows w s) (file : FileNo)
      (request : CopyRequest) (iova : Iova) (number : ℕ) (after : Memory) (pool : FramePool) (pinned : Bool)
      (none : first_true (copy_checks (view w) file request) ≡ None)
      (place : IsMappedAt w file (placed_as request) (is_fixed request.flags) iova)
      (over : IsOver w file request number)
      (pinned_is : pinned ≡ has_hwpt (objects_in s.objects) file request.dst_ioas)
      (has : HasShare (if pinned then 1 else 0) number s.memory after)
      (settles : Settles s.memory after s.pool pool)
      (enough : tables_to_map (seen s) file request.dst_ioas (mapped_area number file (placed_as request) iova).span
      ≤ free_count s.pool.holds) where
    abbrev source : Area
    source = over.source

    abbrev new_area : Area
    new_area = mapped_area source.memory file (placed_as request) iova

    next : PinsNext (at + 1) w (copy_changes w file request iova (Some source))
    next = copied_next at w file request iova source none place over.found tidy.pins

    shared : HasShare (if pinned then 1 else 0) source.memory s.memory after
    shared = subst (λ (n : ℕ). HasShare (if pinned then 1 else 0) n s.memory after) (sym over.same) has

    pub can_copy : (room : ℕ) → tables_to_map (seen s) file request.dst_ioas new_area.span ≤ room
        → is_whole_pages new_area.span ≡ true → meets_some (unusable_in (seen s) file request.dst_ioas)
        new_area.span ≡ false → iova.0 < 2 ^ 64
        → (0 < new_area.rights.0) × (new_area.rights.0 < 4) → pinned ≡ true
        → CanMapArea pool s.page_tables.tables after (mapped_area number file (placed_as request) iova) room
    can_copy room roomy whole clear low rights translated =
        let found = copy_found at w s tidy shows file request iova source after pool pinned next pinned_is
        shared settles none over.is in
        subst (λ (n : ℕ). CanMapArea pool s.page_tables.tables after (mapped_area n file (placed_as request) iova) room)
        over.same
        (may_map at w s tidy shows source.memory file (placed_as request) iova w.memory after pool
        (copy_comes at w s tidy shows file request iova source after pool pinned next pinned_is shared settles)
        enough room roomy whole clear low
        (copy_pinned at w s tidy shows file request iova source after pool pinned next pinned_is
        shared settles translated)
        found.object found.found found.size rights)

    pub shows_copied : (table : Table (Held A)) (made : FramePool) (taken : List FrameNo)
        → IfAllStand pool s.page_tables.tables (IsAreaMapped after (mapped_area number file (placed_as request) iova)
        s.page_tables.tables pool made [] taken)
        → length made.bytes ≡ length made.holds
        → (IsOrderly s.objects → HasAreas file request.dst_ioas
        (own.with_area (mapped_area number file (placed_as request) iova)
        (areas_at s.objects.rows file request.dst_ioas)) s.objects table)
        → IsCopiedAs at w file request iova taken (record s { objects = table; memory = after; pool = made })
    unfolding changed
    shows_copied table made taken mapped bytes inserted =
        let coming =
        copy_comes at w s tidy shows file request iova source after pool pinned next pinned_is shared settles in
        let apart = (copy_lies_at w file request iova none place).apart in
        let back = sym over.same in
        let is = subst (λ (n : ℕ). IfAllStand pool s.page_tables.tables
        (IsAreaMapped after (mapped_area n file (placed_as request) iova) s.page_tables.tables pool made
        [] taken)) back mapped in
        let added = subst (λ (n : ℕ). IsOrderly s.objects
        → HasAreas file request.dst_ioas (own.with_area (mapped_area n file (placed_as request) iova)
        (areas_at s.objects.rows file request.dst_ioas)) s.objects table) back inserted in
        let moves = moves_mapped at w s tidy shows source.memory file (placed_as request) iova w.memory after pool
        coming enough made taken is bytes apart {E = A} (event.Copy file request)
        (reply.Iova iova) tidy.tabled.owned (λ t. refl) in
        let P = λ (o : Option Area).
        MovesTables {A = A} w (copy_changes w file request iova o) (event.Copy file request) (reply.Iova iova) taken []
        × AreFramesChosen {A = A} w (copy_changes w file request iova o) (event.Copy file request) (reply.Iova iova)
        taken []
        × Shows (with_tables taken [] (copy_changes w file request iova o))
        (record s { objects = table; memory = after; pool = made }) in
        subst P (sym over.found) (
          moves.0,
          moves.1,
          mapped_shows at w s tidy shows source.memory file (placed_as request) iova w.memory after pool coming enough
              made taken is bytes apart table
              (objects_mapped w s new_area table (orderly at w s tidy shows) shows added),
        )
