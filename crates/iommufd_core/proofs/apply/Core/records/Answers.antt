use Rattle.std.proofs.Common.{rules}
use Rattle.iommufd_core.proofs.apply.Core.records.Goals as goal

pub returns-clause-value : goal.returns-clause-value
returns-clause-value g c = search rules
