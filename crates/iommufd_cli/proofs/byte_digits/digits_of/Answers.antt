use Rattle.iommufd_cli.proofs.ByteDigits.{digits}
use Rattle.iommufd_cli.proofs.byte_digits.digits_of.Goals as goal

pub returns : goal.returns
returns c = digits 16 c.args.values c.fits-values.0 c.requires
