use Rattle.std.proofs.Common.{rules}
use Rattle.frame_memory.proofs.content.word_of.Goals as goal

pub returns : goal.returns
returns c = search rules
