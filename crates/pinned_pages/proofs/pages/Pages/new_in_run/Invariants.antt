use Rattle.std.proofs.Common.{◌≡◌, ◌≤◌}
use Rattle.pinned_pages.specs.Accesses.{run_count}
use Rattle.pinned_pages.proofs.pages.Pages.new_in_run.Given as goal

-- so many before this one aren't pinned
abbrev pub invariant-loop-at : goal.invariant-loop-at
invariant-loop-at g l = record {
  new : l.new ≡ run_count l.self.pages l.first l.at;
  few : l.new ≤ l.at;
}
