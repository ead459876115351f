use Rattle.std.proofs.Common.{◌≡◌, ◌≤◌, ◌^◌, drop}
use Rattle.area_map_rows.specs.Rows.{first_free}
use Rattle.area_map_rows.proofs.gaps.free_in.Given as goal

abbrev pub invariant-loop-area : goal.invariant-loop-area
invariant-loop-area l = record {
  bound : l.at ≤ 2 ^ 64;
  left : first_free l.at l.count (drop l.area-index l.areas) ≡ first_free l.from l.count l.areas;
}
