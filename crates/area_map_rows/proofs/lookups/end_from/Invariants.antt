use Rattle.std.proofs.Common.{◌≡◌}
use Rattle.area_map_rows.specs.Areas.{end_from}
use Rattle.area_map_rows.proofs.lookups.end_from.Given as goal

-- those that are left say the same
abbrev pub invariant-loop-area : goal.invariant-loop-area
invariant-loop-area g l = end_from l.address l.area-iterator ≡ end_from l.address l.fn.areas
