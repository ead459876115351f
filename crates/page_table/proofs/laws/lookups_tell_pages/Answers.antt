use Rattle.iofd_words.specs.Levels.{levels_of}
use Rattle.page_table_words.proofs.Tables.{stands_alike}
use Rattle.page_table.proofs.laws.lookups_tell_pages.Goals as goal

pub returns : goal.returns
returns c = λ pool table rows pages others. stands_alike pool (levels_of table.width) table.root rows pages others
