use Rattle.std.proofs.Common.{◌≡◌, ◌++◌, take}
use Rattle.ioctl_codec.specs.Entries.{AreAddresses, entries_bytes}
use Rattle.ioctl_codec.proofs.entries.put_ranges.Given as goal

-- the ranges so far are written
abbrev pub invariant-loop-range : goal.invariant-loop-range
invariant-loop-range g l = record {
  bytes : l.out.items ≡ l.initial.out.items ++ entries_bytes (take l.range-index l.ranges);
  fits : AreAddresses (take l.range-index l.ranges);
}
