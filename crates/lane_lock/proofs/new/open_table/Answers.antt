use Rattle.lane_lock.proofs.Starts.{starts}
use Rattle.lane_lock.proofs.new.open_table.Goals as goal

pub new-requires : goal.new-requires
new-requires g c = starts _ _ _ _ _ _ c.requires
