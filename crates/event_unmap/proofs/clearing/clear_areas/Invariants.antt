use Rattle.event_unmap.proofs.PagesCleared.{AreClearing}
use Rattle.event_unmap.proofs.clearing.clear_areas.Given as goal

-- the pages of some of the areas are cleared
abbrev pub invariant-loop-area : goal.invariant-loop-area
invariant-loop-area g l =
    AreClearing l.fn.file l.fn.ioas l.fn.areas l.area-iterator l.initial.page_tables l.page_tables l.initial.pool l.pool
