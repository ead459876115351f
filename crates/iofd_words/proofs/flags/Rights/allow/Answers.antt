use Rattle.std.proofs.Common.{rules}
use Rattle.iofd_words.proofs.flags.Rights.allow.Goals as goal

pub returns-in-Read : goal.returns-in-Read
returns-in-Read c = search rules
