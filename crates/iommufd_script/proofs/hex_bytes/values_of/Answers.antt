use Rattle.iommufd_script.proofs.Strides.{values}
use Rattle.iommufd_script.proofs.hex_bytes.values_of.Goals as goal

pub returns : goal.returns
returns c = values 16 c.args.digits c.fits-digits.0 c.requires
