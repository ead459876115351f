use Rattle.std.proofs.Common.{◌≡◌, ◌+◌, ◌++◌, length, map, take, drop}
use Rattle.area_map_rows.specs.Areas.{areas_outside}
use Rattle.area_map_rows.specs.Rows.{in_rows}
use Rattle.area_map.proofs.removal.remove_each.Given as goal

abbrev pub invariant-loop-row : goal.invariant-loop-row
invariant-loop-row g l = record {
  rows : l.rows ≡ map (areas_outside l.span) (take l.row-index l.initial.rows) ++ drop l.row-index l.initial.rows;
  count : l.removed + length (in_rows l.rows) ≡ length (in_rows l.initial.rows);
}
