use Rattle.std.proofs.Common.{rules}
use Rattle.iofd_words.proofs.span.Span.meets.Goals as goal

pub returns-then-self-other : goal.returns-then-self-other
returns-then-self-other c = search rules
