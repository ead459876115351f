use Rattle.page_table_words.specs.Entries.{entry_at}
use Rattle.page_table.proofs.entry.Entry.at.Goals as goal

pub returns : goal.returns
unfolding entry_at
returns g c = c.word.ensures
