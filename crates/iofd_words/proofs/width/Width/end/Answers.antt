use Rattle.std.proofs.Common.{rules}
use Rattle.iofd_words.proofs.width.Width.end.Goals as goal

pub returns-in-Bits39 : goal.returns-in-Bits39
returns-in-Bits39 c = search rules
