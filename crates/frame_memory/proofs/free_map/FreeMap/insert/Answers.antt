use Rattle.std.proofs.Common.{arith}
use Rattle.frame_memory.proofs.Words.{set_this, set_others, summed-set}
use Rattle.frame_memory.proofs.free_map.FreeMap.insert.Goals as goal

pub invariant_of-self : goal.invariant_of-self
invariant_of-self c =
    summed-set c.self.inside.words c.self.inside.summary c.place-word.result.0 c.place-word.result.1 c.self.invariant
    (omega arith) (omega arith)

pub returns-clause-this : goal.returns-clause-this
returns-clause-this c =
    set_this c.self.inside.words c.args.frame c.place-word.result.0 c.place-word.result.1 c.self.invariant.count
    c.requires c.place-word.ensures.word c.place-word.ensures.bit

pub returns-clause-others : goal.returns-clause-others
returns-clause-others c =
    rw (← c.self.view_is)
    (set_others c.self.inside.words c.args.frame c.place-word.result.0 c.place-word.result.1 c.self.invariant.count
    c.requires c.place-word.ensures.word c.place-word.ensures.bit)
