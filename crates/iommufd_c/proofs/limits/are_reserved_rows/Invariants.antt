use Rattle.std.proofs.Common.{◌≡◌, take}
use Rattle.std.specs.List.{list_all}
use Rattle.iommufd_c.specs.Configured.{is_reserved_row}
use Rattle.iommufd_c.proofs.limits.are_reserved_rows.Given as goal

-- of the rows so far
abbrev pub invariant-loop-row : goal.invariant-loop-row
invariant-loop-row l = l.all ≡ list_all (is_reserved_row l.devices) (take l.row-index l.rows)
