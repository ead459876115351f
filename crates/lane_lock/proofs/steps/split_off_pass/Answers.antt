use Rattle.std.proofs.Common.{rules}
use Rattle.lane_lock.proofs.Moves.{deals}
use Rattle.lane_lock.proofs.steps.split_off_pass.Goals as goal

pub split_seat-requires : goal.split_seat-requires
split_seat-requires g c = (search rules, search rules, deals _ _ _ _ _ _ c.requires.pass.0 c.requires.pass.1)
