-- Once its pages are pinned an area may be mapped: for the tables that are missing there are free frames.
use Rattle.std.proofs.Common.{◌≡◌, ℕ, ◌<◌, ◌≤◌, ◌^◌, ◌*◌, true, false, eqb, Some, List, [], ◌∷◌, map, refl, ◌∙◌, arith}
use Rattle.std.specs.List.{find, list_any}
use Rattle.frame_memory.specs.Pool.{FramePool, free_count}
use Rattle.page_table_set.specs.OverSpans.{hwpts_over, is_over}
use Rattle.page_table_set.specs.PageTables.{Hwpt}
use Rattle.iofd_rows.proofs.Bools.{or_false}
use Rattle.iofd_steps.specs.After.{mapped_area}
use Rattle.iofd_refusals.specs.Checks.{tables_to_map, unusable_in}
use Rattle.iofd_words.specs.Objects.{has_hwpt}
use Rattle.iofd_words.specs.Ranges.{meets_some}
use Rattle.iofd_words.specs.Span.{is_whole_pages, size_of}
use Rattle.iofd_words.specs.World.{World}
use Rattle.iofd_words.specs.declared.event.MapRequest.{MapRequest}
use Rattle.iofd_words.specs.declared.numbers.FileNo.{FileNo}
use Rattle.iofd_words.specs.declared.numbers.Iova.{Iova}
use Rattle.iofd_words.specs.declared.numbers.ObjId.{ObjId}
use Rattle.iofd_words.specs.declared.rows.Area.{Area}
use Rattle.iofd_words.specs.declared.rows.MemoryObject.{MemoryObject}
use Rattle.event_map.proofs.AreaPinned.{Comes, stand_pinned}
use Rattle.event_map.proofs.AreaTables.{frames_there, needed_told}
use Rattle.event_map.specs.AreaMapped.{CanMapArea}
use Rattle.server_state.proofs.PageTables.{has_hwpt_kept, tables_known}
use Rattle.server_state.proofs.TablesToMap.{known_span}
use Rattle.server_state.specs.Held.{objects_in}
use Rattle.server_state.specs.Leads.{leads_of}
use Rattle.server_state.specs.Seen.{seen}
use Rattle.server_state.specs.Shows.{Shows}
use Rattle.server_state.specs.Step.{IsKnown, IsTidy}
use Rattle.server_state.specs.declared.state.State.{State}
use Rattle.user_memory.specs.Memory.{Memory, rows_of, table_pins}

-- ---- where the address space isn't translated

none_over : (file : FileNo) (ioas : ObjId) (tables : List Hwpt)
    → list_any (is_over file ioas) (map (λ (h : Hwpt). h.object) tables) ≡ false → hwpts_over file ioas tables ≡ []
none_over file ioas [] none = refl
none_over file ioas (h ∷ tables) none =
    let parts = or_false (is_over file ioas h.object)
    (list_any (is_over file ioas) (map (λ (x : Hwpt). x.object) tables)) none in
    rw parts.0 (none_over file ioas tables parts.1)

pub no_table_over : {A : Type 0} (s : State A) (file : FileNo) (ioas : ObjId) → IsKnown s
    → has_hwpt (objects_in s.objects) file ioas ≡ false → hwpts_over file ioas s.page_tables.tables ≡ []
no_table_over s file ioas known none =
    none_over file ioas s.page_tables.tables
    (has_hwpt_kept (map (λ (h : Hwpt). h.object) s.page_tables.tables) (objects_in s.objects)
    (tables_known s known) file ioas ∙ none)

-- ---- where it is

module _ {A : Type 0} (at : ℕ) (w : World) (s : State A) (tidy : IsTidy at w) (shows : Shows w s) (number : ℕ)
    (file : FileNo) (request : MapRequest) (iova : Iova) (objects : List MemoryObject)
    (after : Memory) (pool : FramePool)
    (comes : Comes w s (mapped_area number file request iova) objects after pool)
    (enough : tables_to_map (seen s) file request.ioas (mapped_area number file request iova).span
    ≤ free_count s.pool.holds) where
  abbrev new_area : Area
  new_area = mapped_area number file request iova

  pub may_map : (room : ℕ) → tables_to_map (seen s) file request.ioas new_area.span ≤ room
      → is_whole_pages new_area.span ≡ true → meets_some (unusable_in (seen s) file request.ioas) new_area.span ≡ false
      → new_area.span.first < 2 ^ 64
      → 0 < table_pins after number → (object : MemoryObject)
      → find (λ (row : MemoryObject). eqb row.number number) (rows_of after) ≡ Some object
      → object.count * 4096 ≡ size_of new_area.span
      → (0 < new_area.rights.0) × (new_area.rights.0 < 4) → CanMapArea pool s.page_tables.tables after new_area room
  may_map room roomy whole clear low pins object found size rights =
      let told = needed_told at w s new_area tidy shows in
      record {
        can = record {
          frames = w.table_frames;
          leads = leads_of w;
          stand = stand_pinned at w s tidy shows number file request iova objects after pool comes;
          free = frames_there at w s tidy shows number file request iova objects after pool comes enough;
          enough = omega (arith, told, roomy);
        };
        span = known_span s (record { at = at; world = w; tidy = tidy; shows = shows }) file request.ioas
            new_area.span whole clear low;
        whole = whole;
        live = refl;
        pins = pins;
        object = object;
        found = found;
        size = size;
        some_right = rights.0;
        no_other = rights.1;
      }
