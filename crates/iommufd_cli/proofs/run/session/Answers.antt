use Rattle.std.proofs.Common.{rules}
use Rattle.iommufd_cli.proofs.run.session.Goals as goal

pub returns-clause-fault : goal.returns-clause-fault
returns-clause-fault g c = search rules
