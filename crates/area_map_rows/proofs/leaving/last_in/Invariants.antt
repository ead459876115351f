use Rattle.std.proofs.Common.{◌≡◌, length}
use Rattle.area_map_rows.specs.Rows.{in_rows, last_leaving}
use Rattle.area_map_rows.proofs.leaving.last_in.Given as goal

-- the rows that were looked at have none
abbrev pub invariant-loop-row : goal.invariant-loop-row
invariant-loop-row g l = last_leaving (in_rows l.rows) ≡ last_leaving (in_rows l.left)

abbrev pub decreases-loop-row : goal.decreases-loop-row
decreases-loop-row g l = length l.left
