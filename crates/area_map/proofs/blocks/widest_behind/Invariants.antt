use Rattle.std.proofs.Common.{◌≡◌, max, drop}
use Rattle.area_map_rows.specs.Rows.{in_rows, widest_behind}
use Rattle.area_map.proofs.blocks.widest_behind.Given as goal

abbrev pub invariant-loop-row : goal.invariant-loop-row
invariant-loop-row g l = max l.widest (widest_behind l.end (in_rows (drop l.row-index l.rows)))
    ≡ widest_behind l.last (in_rows l.rows)
