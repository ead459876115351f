use Rattle.std.proofs.Common.{rules}
use Rattle.iofd_words.proofs.refusal.Cause.errno.Goals as goal

pub returns-in-Narrow : goal.returns-in-Narrow
returns-in-Narrow c = search rules
