use Rattle.shared_iommufd.specs.Servers.{IsPassOf}
use Rattle.test_shared_iommufd.proofs.work.one.Given as goal

abbrev pub invariant-loop-number : goal.invariant-loop-number
invariant-loop-number g l = IsPassOf l.server l.pass
