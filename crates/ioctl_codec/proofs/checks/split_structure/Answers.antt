use Rattle.std.proofs.Common.{arith}
use Rattle.std.proofs.lemmas.Grind.{common_steps}
use Rattle.ioctl_codec.specs.Refusals.{size_checks}
use Rattle.ioctl_codec.proofs.checks.split_structure.Goals as goal

pub returns-clause-refused : goal.returns-clause-refused
unfolding size_checks
returns-clause-refused c = grind (arith, common_steps)
