use Rattle.frame_memory.proofs.Words.{none_there, none_summed}
use Rattle.frame_memory.proofs.free_map.FreeMap.new.Goals as goal

pub invariant_of-result : goal.invariant_of-result
invariant_of-result c = none_summed

pub returns : goal.returns
returns c = λ f. none_there f
