use Rattle.std.proofs.Common.{rules}
use Rattle.iommufd_script.proofs.opening.Head.add.Goals as goal

pub returns-in_ok-push-in-Device : goal.returns-in_ok-push-in-Device
returns-in_ok-push-in-Device g c = search rules
