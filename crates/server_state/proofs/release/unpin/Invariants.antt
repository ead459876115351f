use Rattle.user_memory_rows.proofs.AreasGoing.{AreGoing}
use Rattle.user_memory_rows.specs.Shown.{over}
use Rattle.user_memory.specs.Changes.{never}
use Rattle.server_state.proofs.release.unpin.Given as goal

-- some of the areas have let go of their pins, and the others may
abbrev pub invariant-loop-area : goal.invariant-loop-area
invariant-loop-area g l =
    AreGoing (λ areas. never) over l.fn.areas l.area-iterator l.initial.memory l.memory l.initial.pool l.pool
