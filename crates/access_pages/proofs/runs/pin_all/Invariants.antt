use Rattle.access_pages.proofs.PinSteps.{Pinning}
use Rattle.access_pages.proofs.runs.pin_all.Given as goal

-- so many of the areas have their pins, and the others may
abbrev pub invariant-loop-area : goal.invariant-loop-area
invariant-loop-area g l =
    Pinning l.fn.span l.fn.areas l.area-iterator l.count l.initial.memory l.memory l.initial.pool l.pool
