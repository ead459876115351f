use Rattle.std.proofs.Common.{arith}
use Rattle.std.proofs.lemmas.Grind.{common_steps}
use Rattle.iommufd_script.specs.Script.{first_bad_line}
use Rattle.iommufd_script.proofs.script.first_bad_line.Goals as goal

pub returns-else-place : goal.returns-else-place
unfolding first_bad_line
returns-else-place c = grind (arith, common_steps)
