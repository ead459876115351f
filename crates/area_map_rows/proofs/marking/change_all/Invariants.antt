use Rattle.std.proofs.Common.{◌≡◌, ◌++◌, map, take, drop}
use Rattle.area_map_rows.specs.Areas.{changed}
use Rattle.area_map_rows.proofs.marking.change_all.Given as goal

abbrev pub invariant-loop-area : goal.invariant-loop-area
invariant-loop-area g l =
    l.area-items ≡ map (changed l.change l.span) (take l.area-index l.initial.area-items)
    ++ drop l.area-index l.initial.area-items
