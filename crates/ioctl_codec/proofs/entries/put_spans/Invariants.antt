use Rattle.std.proofs.Common.{◌≡◌, ◌++◌, take}
use Rattle.ioctl_codec.specs.Entries.{entries_bytes}
use Rattle.ioctl_codec.proofs.entries.put_spans.Given as goal

-- the spans so far are written
abbrev pub invariant-loop-span : goal.invariant-loop-span
invariant-loop-span g l = l.out.items ≡ l.initial.out.items ++ entries_bytes (take l.span-index l.spans)
