use Rattle.std.proofs.Common.{◌≡◌, ◌≤◌, ◌++◌, vec_capacity}
use Rattle.std.specs.Vec.Iter.{drain_items}
use Rattle.area_map_rows.proofs.row.move_rest.Given as goal

-- the others, and behind them those that are still to come, are the areas from the place on
abbrev pub invariant-loop-area : goal.invariant-loop-area
invariant-loop-area g l = (goal.iterator-loop-area g).can_next l.area-iterator
    × (goal.iterator-loop-area g).is_finite l.area-iterator
    × (l.others.items ++ drain_items l.area-iterator ≡ drain_items l.initial.area-iterator)
    × (vec_capacity l.initial.others ≤ vec_capacity l.others)
