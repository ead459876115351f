use Rattle.std.proofs.Common.{rules}
use Rattle.iofd_words.proofs.flags.MapFlags.rights.Goals as goal

pub returns-in-true-false : goal.returns-in-true-false
returns-in-true-false c = search rules
