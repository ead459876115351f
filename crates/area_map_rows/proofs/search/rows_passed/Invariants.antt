use Rattle.std.proofs.Common.{◌+◌, ◌≤◌, ltb, List, length}
use Rattle.std.specs.List.{prefix_len}
use Rattle.iofd_words.specs.declared.rows.Area.{Area}
use Rattle.area_map_rows.specs.Rows.{end_of}
use Rattle.area_map_rows.proofs.search.rows_passed.Given as goal

-- the rows before the place end below the address, and so many are left behind it
abbrev pub invariant-loop-left : goal.invariant-loop-left
invariant-loop-left g l = record {
  passed : l.place ≤ prefix_len (λ (row : List Area). ltb (end_of row) l.address) l.rows;
  bound : l.place + l.left ≤ length l.rows;
}

abbrev pub decreases-loop-left : goal.decreases-loop-left
decreases-loop-left g l = l.left
