-- A COPY's area comes over the memory object of its source: what it makes of the users' memory.
use Rattle.std.proofs.Common.{◌≡◌, ℕ, ◌+◌, ◌<◌, Bool, true, cond, eqb, None, Some, List, sym, ◌∙◌, ap, arith}
use Rattle.std.specs.Prelude.{if◌then◌else◌}
use Rattle.std.specs.List.{find}
use Rattle.frame_memory.specs.Pool.{FramePool}
use Rattle.iofd_runs.proofs.CopySource.{IsSource, copied_size}
use Rattle.user_memory_rows.proofs.AccessStays.{PinsNext}
use Rattle.iofd_steps.specs.After.{copy_changes, mapped_area, settle}
use Rattle.iofd_refusals.specs.Checks.{copy_checks}
use Rattle.iofd_words.specs.Copies.{placed_as}
use Rattle.iofd_words.specs.FirstTrue.{first_true}
use Rattle.iofd_words.specs.Objects.{has_hwpt}
use Rattle.iofd_words.specs.Span.{size_of}
use Rattle.iofd_words.specs.View.{view}
use Rattle.iofd_words.specs.World.{World}
use Rattle.iofd_words.specs.declared.event.CopyRequest.{CopyRequest}
use Rattle.iofd_words.specs.declared.numbers.FileNo.{FileNo}
use Rattle.iofd_words.specs.declared.numbers.Iova.{Iova}
use Rattle.iofd_words.specs.declared.rows.Area.{Area}
use Rattle.iofd_words.specs.declared.rows.MemoryObject.{MemoryObject}
use Rattle.iofd_words.specs.declared.rows.Object.{Object}
use Rattle.event_map.proofs.AreaPinned.{Comes}
use Rattle.user_memory_rows.proofs.AreaComes.{more_pinned, more_pins, more_shared, shared_shown}
use Rattle.user_memory_rows.proofs.ObjectOf.{IsFound, object_under}
use Rattle.server_state.specs.Held.{objects_in}
use Rattle.server_state.specs.Leads.{object_page}
use Rattle.server_state.specs.Shows.{Shows}
use Rattle.server_state.specs.Step.{IsTidy}
use Rattle.server_state.specs.declared.state.State.{State}
use Rattle.user_memory.specs.Changes.{HasShare, Settles}
use Rattle.user_memory.specs.Memory.{Memory, rows_of, table_pins}
use Rattle.user_memory_rows.specs.Shown.{has_page}

module _ {A : Type 0} (at : ℕ) (w : World) (s : State A) (tidy : IsTidy at w) (shows : Shows w s) (file : FileNo)
    (request : CopyRequest) (iova : Iova) (source : Area) (after : Memory) (pool : FramePool) (pinned : Bool)
    (next : PinsNext (at + 1) w (copy_changes w file request iova (Some source)))
    (pinned_is : pinned ≡ has_hwpt (objects_in s.objects) file request.dst_ioas)
    (has : HasShare (if pinned then 1 else 0) source.memory s.memory after)
    (settles : Settles s.memory after s.pool pool) where
  abbrev new_area : Area
  new_area = mapped_area source.memory file (placed_as request) iova

  pub copy_comes : Comes w s new_area w.memory after pool
  unfolding settle
  copy_comes =
      record {
        pins =
            shared_shown at (at + 1) w new_area pinned s.memory after s.pool pool tidy.pins next.pins
            shows.pins next.covered shows.users.pages
            (pinned_is ∙ ap (λ (objects : List Object). has_hwpt objects file request.dst_ioas)
            (sym shows.objects.rows)) has settles;
        settles = settles;
        stays = more_pinned (cond pinned 1 0) source.memory s.memory after
            (more_shared (cond pinned 1 0) source.memory s.memory after has) shows.pins.invariant;
        grows = λ number. let pins = has.pins number in omega (arith, pins);
        same = λ a within page. ap (λ (rows : List MemoryObject). has_page rows (object_page page a)) has.rows;
      }

  -- the object is pinned where a page table translates the new area
  pub copy_pinned : pinned ≡ true → 0 < table_pins after source.memory
  copy_pinned translated =
      let more : table_pins after source.memory ≡ table_pins s.memory source.memory + 1 =
      more_pins (cond pinned 1 0) source.memory s.memory after
      (more_shared (cond pinned 1 0) source.memory s.memory after has)
      ∙ ap (λ (b : Bool). table_pins s.memory source.memory + cond b 1 0) translated in
      omega (arith, more)

  -- it is there, and has the size of the new area
  pub copy_found : first_true (copy_checks (view w) file request) ≡ None → IsSource w file request source
      → IsFound (rows_of after) source.memory (size_of new_area.span)
  copy_found none is =
      let under = object_under at w source is.within tidy.pins in
      record {
        object = under.object;
        found = ap (find (λ (row : MemoryObject). eqb row.number source.memory)) (has.rows ∙ sym shows.pins.rows)
            ∙ under.found;
        size = under.size ∙ copied_size w file request iova source none is;
      }
