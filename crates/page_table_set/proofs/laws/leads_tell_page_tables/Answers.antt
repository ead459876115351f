use Rattle.page_table_set.proofs.Staying.{leads_alike}
use Rattle.page_table_set.proofs.laws.leads_tell_page_tables.Goals as goal

pub returns : goal.returns
returns c = leads_alike
