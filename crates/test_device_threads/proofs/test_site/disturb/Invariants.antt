use Rattle.shared_iommufd.specs.Ports.{IsPortOf}
use Rattle.shared_iommufd.specs.Servers.{IsPassOf}
use Rattle.test_device_threads.proofs.test_site.disturb.Given as goal

abbrev pub invariant-loop-round : goal.invariant-loop-round
invariant-loop-round g l = IsPassOf l.server l.pass × IsPortOf l.server l.port
