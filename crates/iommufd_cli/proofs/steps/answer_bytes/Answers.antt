use Rattle.std.proofs.Common.{rules}
use Rattle.iommufd_cli.proofs.steps.answer_bytes.Goals as goal

pub returns : goal.returns
returns g c = search rules
