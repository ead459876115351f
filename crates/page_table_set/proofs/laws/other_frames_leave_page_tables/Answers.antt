use Rattle.page_table_set.proofs.Staying.{stays_standing}
use Rattle.page_table_set.proofs.laws.other_frames_leave_page_tables.Goals as goal

pub returns : goal.returns
returns c = stays_standing
