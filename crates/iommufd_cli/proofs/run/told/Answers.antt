use Rattle.std.proofs.Common.{rules}
use Rattle.iommufd_cli.proofs.run.told.Goals as goal

pub returns-clause-text : goal.returns-clause-text
returns-clause-text g c = search rules
