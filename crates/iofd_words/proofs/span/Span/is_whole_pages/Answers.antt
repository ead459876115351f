use Rattle.std.proofs.Common.{rules}
use Rattle.iofd_words.proofs.span.Span.is_whole_pages.Goals as goal

pub returns-then-is_multiple_of : goal.returns-then-is_multiple_of
returns-then-is_multiple_of c = search rules
