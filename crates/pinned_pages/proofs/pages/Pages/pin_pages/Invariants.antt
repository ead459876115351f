use Rattle.std.proofs.Common.{◌≡◌, ◌≤◌, ◌+◌}
use Rattle.pinned_pages.specs.Accesses.{IsAccessPinned, run_count, run_frames, run_rows}
use Rattle.pinned_pages.specs.Holds.{HasMoreHolds}
use Rattle.pinned_pages.proofs.pages.Pages.pin_pages.Given as goal

-- the pages before this one are pinned
abbrev pub invariant-loop-at : goal.invariant-loop-at
invariant-loop-at g l = record {
  pinned : IsAccessPinned l.first l.at l.users.pages l.initial.self.pages l.self.pages;
  capacity : l.self.capacity ≡ l.initial.self.capacity;
  room : l.initial.self.room ≤ l.self.room + run_rows l.initial.self.pages l.first l.at;
  held : HasMoreHolds l.initial.pool l.pool (run_frames l.initial.self.pages l.users.pages l.first l.at);
  anew : l.new ≡ run_count l.initial.self.pages l.first l.at;
  few : l.new ≤ l.at;
}
