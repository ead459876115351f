use Rattle.iofd_words.specs.Levels.{levels_of}
use Rattle.page_table_words.proofs.Tables.{stands_still}
use Rattle.page_table.proofs.laws.other_frames_leave_tables.Goals as goal

pub returns : goal.returns
returns c = λ old new table rows pages. stands_still old new (levels_of table.width) table.root rows pages
