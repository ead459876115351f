use Rattle.std.proofs.Common.{rules}
use Rattle.frame_memory.proofs.pool.Pool.set_word.Goals as goal

pub returns-clause-word : goal.returns-clause-word
returns-clause-word g c = search rules
