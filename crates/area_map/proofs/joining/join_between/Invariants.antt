use Rattle.std.proofs.Common.{◌-◌, ◌≡◌, ◌≤◌, take, vec_len, vec_capacity}
use Rattle.area_map_rows.specs.Rows.{in_rows, AreRows}
use Rattle.area_map.specs.Kept.{AreJoinedBut}
use Rattle.area_map.proofs.joining.join_between.Given as goal

-- the rows from this one on are joined
abbrev pub invariant-loop-index : goal.invariant-loop-index
invariant-loop-index g l = record {
  order : l.low ≤ l.index;
  areas : in_rows l.rows.items ≡ in_rows l.initial.rows.items;
  rows : AreRows l.rows.items;
  joined : AreJoinedBut l.low l.index l.rows.items;
  len : vec_len l.rows ≤ vec_len l.initial.rows;
  capacity : vec_capacity l.rows ≡ vec_capacity l.initial.rows;
  before : take l.low l.rows.items ≡ take l.low l.initial.rows.items;
  none : vec_len l.initial.rows ≤ vec_len l.rows → l.rows.items ≡ l.initial.rows.items;
}

abbrev pub decreases-loop-index : goal.decreases-loop-index
decreases-loop-index g l = l.index - l.low
