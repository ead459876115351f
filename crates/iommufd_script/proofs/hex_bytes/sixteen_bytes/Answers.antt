use Rattle.std.proofs.Common.{◌+◌}
use Rattle.iommufd_script.proofs.Strides.{chunk_lower, sixteen}
use Rattle.iommufd_script.proofs.hex_bytes.sixteen_bytes.Goals as goal

pub values_of-front-requires : goal.values_of-front-requires
values_of-front-requires c = chunk_lower c.args.at 16 c.args.digits.now c.requires.lower

pub values_of-back-requires : goal.values_of-back-requires
values_of-back-requires c = chunk_lower (c.args.at + 16) 16 c.args.digits.now c.requires.lower

pub returns : goal.returns
returns c =
    rw (c.values_of-front.ensures, c.values_of-back.ensures)
    (sixteen c.args.digits.now c.args.at c.requires.within c.requires.lower)
