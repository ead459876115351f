use Rattle.std.proofs.Common.{arith, refl}
use Rattle.frame_memory.proofs.Words.{least}
use Rattle.frame_memory.proofs.free_map.FreeMap.first.Goals as goal

pub returns-clause-some : goal.returns-clause-some
returns-clause-some c =
    rw (← c.self.view_is) (least c.self.inside.words c.self.inside.summary _ c.self.invariant (omega arith)
    (omega arith) refl (omega arith))
