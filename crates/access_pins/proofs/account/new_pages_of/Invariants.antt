use Rattle.std.proofs.Common.{◌≡◌, ◌-◌}
use Rattle.access_pages.specs.Runs.{runs_in}
use Rattle.access_pins.proofs.NewOnce.{first_pages, new_beside}
use Rattle.access_pins.proofs.account.new_pages_of.Given as goal

-- the count of the pages so far
abbrev pub invariant-loop-index : goal.invariant-loop-index
invariant-loop-index g l =
    l.count ≡ new_beside l.fn.memory (runs_in l.fn.span l.fn.others) (first_pages l.fn.run (l.index - l.fn.run.first))
