use Rattle.std.proofs.Common.{◌≡◌, ◌++◌, ◌≤◌, drop, length, map, take}
use Rattle.iommufd_c.specs.Exports.{row_of}
use Rattle.iommufd_c.proofs.spans.put_spans.Given as goal

-- as many spans as were passed stand in place of the first rows
abbrev pub invariant-loop-place : goal.invariant-loop-place
invariant-loop-place l = record {
  few : length l.front ≤ length l.rows;
  put : l.rows ≡ map row_of (take l.place l.front) ++ drop l.place l.initial.rows;
}
