use Rattle.std.proofs.Common.{◌≡◌, ◌≤◌, ◌++◌, take, drop, vec_capacity}
use Rattle.area_map_rows.proofs.row.remove_between.Given as goal

-- those before the place are there, and those behind the second one
abbrev pub invariant-loop-at : goal.invariant-loop-at
invariant-loop-at g l = record {
  rest : l.areas.items ≡ take l.at l.fn.areas.items ++ drop l.to l.fn.areas.items;
  from : l.from ≤ l.at;
  to : l.at ≤ l.to;
  capacity : vec_capacity l.areas ≡ vec_capacity l.fn.areas;
}

abbrev pub decreases-loop-at : goal.decreases-loop-at
decreases-loop-at g l = l.at
