use Rattle.std.proofs.Common.{rules}
use Rattle.iofd_words.proofs.span.Span.holds.Goals as goal

pub returns-then-self-number : goal.returns-then-self-number
returns-then-self-number c = search rules
