use Rattle.std.proofs.Common.{◌≡◌, true}
use Rattle.pinned_pages.specs.Accesses.{run_is_present}
use Rattle.pinned_pages.proofs.pages.Pages.has_run.Given as goal

-- the pages before this one are pinned or there
abbrev pub invariant-loop-at : goal.invariant-loop-at
invariant-loop-at g l = run_is_present l.self.pages l.users.pages l.first l.at ≡ true
