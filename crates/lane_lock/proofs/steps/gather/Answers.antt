use Rattle.std.proofs.Common.{rules}
use Rattle.lane_lock.proofs.Moves.{gathers}
use Rattle.lane_lock.proofs.steps.gather.Goals as goal

pub join_seat-requires : goal.join_seat-requires
join_seat-requires g c = let p =
    c.requires.pass in (search rules, search rules, search rules, search rules, gathers _ _ _ _ _ _ _ _ p.0 p.1 p.2)
