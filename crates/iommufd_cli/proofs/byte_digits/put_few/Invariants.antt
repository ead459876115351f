use Rattle.std.proofs.Common.{◌≡◌, ◌*◌, ◌++◌, drop, take}
use Rattle.hex.specs.Hex.{encode_lower}
use Rattle.iommufd_cli.proofs.byte_digits.put_few.Given as goal

abbrev pub invariant-loop-i : goal.invariant-loop-i
invariant-loop-i l = take (2 * l.i) l.buffer ++ encode_lower (drop l.i l.bytes) ≡ encode_lower l.bytes
