use Rattle.std.proofs.Common.{rules}
use Rattle.iofd_words.proofs.span.Span.of_length.Goals as goal

pub returns-clause-value : goal.returns-clause-value
returns-clause-value c = search rules
