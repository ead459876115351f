use Rattle.page_table_spans.proofs.Taking.{takes_needed}
use Rattle.page_table_spans.proofs.laws.mapping_takes_what_is_needed.Goals as goal

pub returns : goal.returns
returns c = takes_needed
