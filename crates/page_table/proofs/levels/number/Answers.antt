use Rattle.std.proofs.Common.{rules}
use Rattle.iofd_words.specs.Levels.{number_at}
use Rattle.page_table.proofs.levels.number.Goals as goal

pub returns : goal.returns
unfolding number_at
returns c = search rules
