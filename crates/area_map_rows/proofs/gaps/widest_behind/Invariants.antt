use Rattle.std.proofs.Common.{◌≡◌, max, drop}
use Rattle.area_map_rows.specs.Rows.{widest_behind}
use Rattle.area_map_rows.proofs.gaps.widest_behind.Given as goal

abbrev pub invariant-loop-area : goal.invariant-loop-area
invariant-loop-area l =
    max l.widest (widest_behind l.end (drop l.area-index l.areas)) ≡ widest_behind l.last l.areas
