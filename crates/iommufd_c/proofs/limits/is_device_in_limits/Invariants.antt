use Rattle.std.proofs.Common.{◌≡◌, ◌≤◌, length, take}
use Rattle.std.specs.List.{list_all}
use Rattle.iofd_words.specs.Settings.{is_reserved_span}
use Rattle.iommufd_c.specs.Configured.{rows_for, span_of}
use Rattle.iommufd_c.proofs.limits.is_device_in_limits.Given as goal

-- of the rows so far that name the device
abbrev pub invariant-loop-row : goal.invariant-loop-row
invariant-loop-row l = record {
  few : l.count ≤ l.row-index;
  count : l.count ≡ length (rows_for (take l.row-index l.reserved) l.device);
  whole : l.whole ≡ list_all (λ row. is_reserved_span (span_of row)) (rows_for (take l.row-index l.reserved) l.device);
}
