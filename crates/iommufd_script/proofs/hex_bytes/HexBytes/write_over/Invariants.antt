use Rattle.std.proofs.Common.{◌≡◌, take}
use Rattle.iommufd_script.proofs.hex_bytes.HexBytes.write_over.Given as goal

abbrev pub invariant-loop-i : goal.invariant-loop-i
invariant-loop-i l = take l.i l.buffer ≡ take l.i l.self
