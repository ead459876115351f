use Rattle.std.proofs.Common.{rules}
use Rattle.iommufd_cli.proofs.names.name_of_cause.Goals as goal

pub returns-in-InUse-clause-name : goal.returns-in-InUse-clause-name
returns-in-InUse-clause-name c = search rules
