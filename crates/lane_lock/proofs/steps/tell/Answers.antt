use Rattle.std.proofs.Common.{rules, ap}
use Rattle.lane_lock.proofs.Moves.{tells, learns_note}
use Rattle.lane_lock.proofs.steps.tell.Goals as goal

pub split_seat-said-requires : goal.split_seat-said-requires
split_seat-said-requires g c = (search rules, search rules, tells _ _ _ _ _ _)

pub join_seat-requires : goal.join_seat-requires
join_seat-requires g c = let said = c.split_seat-said.ensures in (
  search rules,
  search rules,
  search rules,
  search rules,
  learns_note _ _ _ _ _ _ _ _ _ c.requires.pass (ap (λ m. m.0) said.4),
)
