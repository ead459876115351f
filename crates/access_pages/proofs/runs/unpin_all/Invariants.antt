use Rattle.access_pages.proofs.UnpinSteps.{Releasing}
use Rattle.access_pages.proofs.runs.unpin_all.Given as goal

-- some of the areas have let go, and the others may
abbrev pub invariant-loop-area : goal.invariant-loop-area
invariant-loop-area g l = Releasing l.fn.span l.fn.areas l.area-iterator l.initial.memory l.memory l.initial.pool l.pool
