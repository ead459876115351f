use Rattle.std.proofs.Common.{◌≡◌, true}
use Rattle.std.specs.Prelude.{is_none}
use Rattle.std.specs.List.{list_all, list_any}
use Rattle.access_pages.specs.Runs.{runs_in}
use Rattle.iofd_words.specs.Pins.{ObjectPage}
use Rattle.iofd_words.specs.Span.{meets}
use Rattle.iofd_words.specs.declared.rows.Area.{Area}
use Rattle.user_memory.specs.Memory.{frame_now, new_in_runs, run_lies}
use Rattle.access_pins.proofs.pin.lacks_page.Given as goal

-- what is lacked is so of the areas that are left
abbrev pub invariant-loop-area : goal.invariant-loop-area
invariant-loop-area g l = record {
  met : list_all (λ (area : Area). meets area.span l.fn.span) l.area-iterator ≡ true;
  lies : list_all (run_lies l.fn.memory) (runs_in l.fn.span l.area-iterator) ≡ true;
  same : list_any (λ (page : ObjectPage). is_none (frame_now l.fn.memory page))
      (new_in_runs l.fn.memory (runs_in l.fn.span l.fn.areas))
      ≡ list_any (λ (page : ObjectPage). is_none (frame_now l.fn.memory page))
      (new_in_runs l.fn.memory (runs_in l.fn.span l.area-iterator));
}
