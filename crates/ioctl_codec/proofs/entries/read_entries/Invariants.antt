use Rattle.std.proofs.Common.{◌≡◌, ◌*◌, drop}
use Rattle.ioctl_codec.specs.Entries.{entries_at}
use Rattle.ioctl_codec.proofs.entries.read_entries.Given as goal

-- the entries so far are read
abbrev pub invariant-loop-index : goal.invariant-loop-index
invariant-loop-index g l = record {
  entries : l.entries.items ≡ entries_at l._index l.bytes;
  rest : l.rest ≡ drop (16 * l._index) l.bytes;
}
