use Rattle.std.proofs.Common.{rules}
use Rattle.iofd_words.proofs.config.is_between.Goals as goal

pub returns-then-least-number : goal.returns-then-least-number
returns-then-least-number c = search rules
