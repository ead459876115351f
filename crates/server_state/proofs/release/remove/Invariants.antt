use Rattle.user_memory_rows.proofs.AreasGoing.{AreGoing}
use Rattle.user_memory_rows.specs.Moves.{if_translated}
use Rattle.user_memory_rows.specs.Shown.{over}
use Rattle.server_state.proofs.release.remove.Given as goal

-- some of the areas have let go of their memory objects, and the others may
abbrev pub invariant-loop-area : goal.invariant-loop-area
invariant-loop-area g l = AreGoing over (if_translated l.fn.translated) l.fn.areas l.area-iterator l.initial.memory
    l.memory l.initial.pool l.pool
