use Rattle.std.proofs.Common.{◌≡◌, take}
use Rattle.std.specs.List.{list_all}
use Rattle.iofd_words.specs.Settings.{is_device_in_limits}
use Rattle.iommufd_c.specs.Configured.{devices_of_rows}
use Rattle.iommufd_c.proofs.limits.have_spans_in_limits.Given as goal

-- of the devices of the rows so far
abbrev pub invariant-loop-place : goal.invariant-loop-place
invariant-loop-place l = l.all ≡ list_all is_device_in_limits (devices_of_rows l.reserved (take l.place l.rows))
