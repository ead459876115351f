use Rattle.iofd_words.specs.Levels.{levels_of}
use Rattle.page_table_words.proofs.Releasing.{named_held}
use Rattle.page_table.proofs.laws.table_frames_are_held.Goals as goal

pub returns : goal.returns
returns c =
    λ pool table rows pages frame stands. named_held pool (levels_of table.width) table.root rows pages stands frame
