use Rattle.std.proofs.Common.{rules}
use Rattle.iofd_words.proofs.fault.AccessKind.denied.Goals as goal

pub returns-in-Write : goal.returns-in-Write
returns-in-Write c = search rules
