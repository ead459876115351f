use Rattle.std.proofs.Common.{◌≡◌, true}
use Rattle.std.specs.List.{list_all}
use Rattle.access_pages.specs.Runs.{runs_in}
use Rattle.iofd_words.specs.Span.{meets}
use Rattle.iofd_words.specs.declared.rows.Area.{Area}
use Rattle.user_memory.specs.Memory.{is_in_runs}
use Rattle.access_pins.proofs.account.is_among.Given as goal

-- the page is in a run of all areas just where it is in one of those that are left
abbrev pub invariant-loop-area : goal.invariant-loop-area
invariant-loop-area g l = record {
  met : list_all (λ (area : Area). meets area.span l.fn.span) l.area-iterator ≡ true;
  same : is_in_runs (runs_in l.fn.span l.fn.areas) (record { memory = l.fn.number; index = l.fn.index })
      ≡ is_in_runs (runs_in l.fn.span l.area-iterator) (record { memory = l.fn.number; index = l.fn.index });
}
