use Rattle.page_table_set.proofs.Kept.{kept_is}
use Rattle.page_table_set.proofs.laws.words_tell_tables.Goals as goal

pub returns : goal.returns
returns c = kept_is
