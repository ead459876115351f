use Rattle.iommufd_cli.proofs.HexDigits.{more_written}
use Rattle.iommufd_cli.proofs.digits.put_hex_number.Goals as goal

pub loop-rest-preserved : goal.loop-rest-preserved
loop-rest-preserved c =
    more_written c.args.number c.loop-rest.start c.loop-rest.rest c.hex_digit.result c.loop-rest.buffer
    c.loop-rest.invariant c.hex_digit.ensures c.if-rest-eq0.false
