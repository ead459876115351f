use Rattle.std.proofs.Common.{◌≡◌}
use Rattle.area_map_rows.specs.Areas.{runs_on}
use Rattle.area_map_rows.proofs.lookups.runs_on.Given as goal

abbrev pub invariant-loop-area : goal.invariant-loop-area
invariant-loop-area g l = runs_on l.next l.last l.area-iterator ≡ runs_on l.first l.last l.fn.areas
