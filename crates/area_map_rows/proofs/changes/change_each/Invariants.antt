use Rattle.std.proofs.Common.{◌≡◌, ◌++◌, map, take, drop}
use Rattle.area_map_rows.specs.Areas.{changed}
use Rattle.area_map_rows.proofs.changes.change_each.Given as goal

abbrev pub invariant-loop-row : goal.invariant-loop-row
invariant-loop-row g l =
    l.rows ≡ map (map (changed l.change l.span)) (take l.row-index l.initial.rows) ++ drop l.row-index l.initial.rows
