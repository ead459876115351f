use Rattle.iommufd_script.proofs.Beginnings.{bad_is_first}
use Rattle.iommufd_script.proofs.laws.first_bad_lines.Goals as goal

pub returns : goal.returns
returns c = bad_is_first
