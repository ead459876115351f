use Rattle.std.proofs.Common.{take}
use Rattle.access_pages.proofs.UnpinSteps.{Releasing}
use Rattle.access_pages.proofs.runs.unpin_first.Given as goal

-- some of the first areas have let go, and as many others as are left may
abbrev pub invariant-loop-area : goal.invariant-loop-area
invariant-loop-area g l =
    Releasing l.fn.span (take l.fn.count l.fn.areas) (take l.left l.area-iterator) l.initial.memory l.memory
    l.initial.pool l.pool
