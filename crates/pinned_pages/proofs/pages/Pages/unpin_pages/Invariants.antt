use Rattle.std.proofs.Common.{◌≡◌, ◌≤◌}
use Rattle.pinned_pages.specs.Accesses.{IsAccessReleased, gone_count, gone_frames}
use Rattle.pinned_pages.specs.Holds.{HasMoreHolds}
use Rattle.pinned_pages.proofs.pages.Pages.unpin_pages.Given as goal

-- the pages before this one have a pin less
abbrev pub invariant-loop-at : goal.invariant-loop-at
invariant-loop-at g l = record {
  released : IsAccessReleased l.first l.at l.initial.self.pages l.self.pages;
  capacity : l.self.capacity ≡ l.initial.self.capacity;
  held : HasMoreHolds l.pool l.initial.pool (gone_frames l.initial.self.pages l.first l.at);
  gone : l.gone ≡ gone_count l.initial.self.pages l.first l.at;
  few : l.gone ≤ l.at;
}
