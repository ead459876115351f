use Rattle.std.proofs.Common.{◌≡◌, take}
use Rattle.iommufd_c.specs.Configured.{devices_of_rows}
use Rattle.iommufd_c.proofs.configuring.devices_of.Given as goal

-- a device of each row so far
abbrev pub invariant-loop-place : goal.invariant-loop-place
invariant-loop-place l = l.devices.items ≡ devices_of_rows l.reserved (take l.place l.rows)
