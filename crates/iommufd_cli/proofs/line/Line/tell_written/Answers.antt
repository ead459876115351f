use Rattle.std.proofs.Common.{arith}
use Rattle.std.proofs.lemmas.Grind.{common_steps}
use Rattle.iommufd_cli.proofs.line.Line.tell_written.Goals as goal

pub returns : goal.returns
returns c = grind (arith, common_steps)
