use Rattle.iommufd_cli.proofs.HexDigits.{Written}
use Rattle.iommufd_cli.proofs.digits.put_hex_number.Given as goal

abbrev pub invariant-loop-rest : goal.invariant-loop-rest
invariant-loop-rest l = Written l.number l.start l.rest l.buffer

abbrev pub decreases-loop-rest : goal.decreases-loop-rest
decreases-loop-rest l = l.start
