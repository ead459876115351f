use Rattle.std.proofs.Common.{◌≡◌, take}
use Rattle.iommufd_c.specs.Configured.{reserved_for}
use Rattle.iommufd_c.proofs.reserving.reserved_for.Given as goal

-- the spans of the rows so far that name the device
abbrev pub invariant-loop-row : goal.invariant-loop-row
invariant-loop-row l = l.spans.items ≡ reserved_for (take l.row-index l.rows) l.device
