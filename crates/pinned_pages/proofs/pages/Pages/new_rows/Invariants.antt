use Rattle.std.proofs.Common.{◌≡◌, ◌≤◌}
use Rattle.pinned_pages.specs.Accesses.{run_rows}
use Rattle.pinned_pages.proofs.pages.Pages.new_rows.Given as goal

-- no access pins so many before this one
abbrev pub invariant-loop-at : goal.invariant-loop-at
invariant-loop-at g l = record {
  new : l.new ≡ run_rows l.self.pages l.first l.at;
  few : l.new ≤ l.at;
}
