use Rattle.std.proofs.Common.{◌≡◌, length, take, drop}
use Rattle.ioctl_codec.proofs.Rows.{IsReading}
use Rattle.ioctl_codec.specs.Table.{fields_in}
use Rattle.ioctl_codec.proofs.fields.read_fields.Given as goal

-- the fields so far are read
abbrev pub invariant-loop-index : goal.invariant-loop-index
invariant-loop-index l = record {
  reading : IsReading (fields_in l.fields) l.bytes (fields_in (drop l.index l.fields)) l.rest
      (take l.index l.numbers) l.allowed;
  places : length l.numbers ≡ 8;
}
