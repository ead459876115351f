use Rattle.std.proofs.Common.{◌≡◌, ℕ, ◌+◌, ◌*◌, ◌≤◌, true, length}
use Rattle.std.specs.List.{list_all}
use Rattle.access_pages.specs.Runs.{runs_in}
use Rattle.iofd_words.specs.Span.{meets}
use Rattle.iofd_words.specs.declared.rows.Area.{Area}
use Rattle.user_memory.specs.Memory.{new_in_runs, run_lies}
use Rattle.access_pins.proofs.account.all_pages.Given as goal

-- all have no more that aren't pinned than the count so far and the areas that are left, each of which adds what a word
-- can say
abbrev pub invariant-loop-area : goal.invariant-loop-area
invariant-loop-area g l = record {
  met : list_all (λ (area : Area). meets area.span l.fn.span) l.area-iterator ≡ true;
  lies : list_all (run_lies l.fn.memory) (runs_in l.fn.span l.area-iterator) ≡ true;
  done : ℕ;
  counts : done + length l.area-iterator ≡ length l.fn.areas;
  few : l.count ≤ done * 18446744073709551615;
  most : length (new_in_runs l.fn.memory (runs_in l.fn.span l.fn.areas))
      ≤ l.count + length (new_in_runs l.fn.memory (runs_in l.fn.span l.area-iterator));
}
