use Rattle.std.proofs.Common.{◌≡◌, ◌≤◌, ◌^◌, drop}
use Rattle.area_map_rows.specs.Rows.{first_free, in_rows}
use Rattle.area_map_rows.proofs.gaps.free_in_rows.Given as goal

abbrev pub invariant-loop-row : goal.invariant-loop-row
invariant-loop-row g l = record {
  bound : l.at ≤ 2 ^ 64;
  left : first_free l.at l.count (in_rows (drop l.row-index l.rows)) ≡ first_free l.start l.count (in_rows l.rows);
}
