use Rattle.std.proofs.Common.{◌≡◌, ◌-◌, ◌*◌, ◌≤◌, ◌^◌, drop, length}
use Rattle.area_map_rows.specs.Rows.{first_free, in_rows}
use Rattle.area_map.proofs.gaps.free_in_blocks.Given as goal

abbrev pub invariant-loop-number : goal.invariant-loop-number
invariant-loop-number g l = record {
  bound : l.at ≤ 2 ^ 64;
  left : first_free l.at l.count (in_rows (drop (32 * l.number) l.rows))
      ≡ first_free l.start l.count (in_rows (drop (32 * l.from) l.rows));
}

abbrev pub decreases-loop-number : goal.decreases-loop-number
decreases-loop-number g l = length l.blocks - l.number
