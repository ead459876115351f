use Rattle.std.proofs.Common.{◌≡◌, length, drop}
use Rattle.ioctl_codec.proofs.Rows.{IsWriting}
use Rattle.ioctl_codec.specs.Table.{structure_in, fields_in}
use Rattle.ioctl_codec.proofs.fields.put_structure.Given as goal

-- the fields so far are written
abbrev pub invariant-loop-index : goal.invariant-loop-index
invariant-loop-index l = record {
  writing : IsWriting (structure_in l.structure) l.numbers (fields_in (drop l.index l.structure.fields.now))
      (drop l.index l.numbers) l.fn.out l.out l.at;
  whole : length l.out ≡ 64;
}
