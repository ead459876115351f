-- A port that stays the same one.
use Rattle.std.proofs.Common.{◌∙◌}
use Rattle.lane_lock.proofs.Retries.{same_then}
use Rattle.guarded_core.specs.Passes.{CoreGhosts}
use Rattle.shared_iommufd.specs.Ports.{CorePort, SamePort}

module _ {A : Type 0} {g : CoreGhosts A} where
  pub port_then : (p q r : CorePort A g) → SamePort p q → SamePort q r → SamePort p r
  port_then p q r a b = record {
    device = b.device ∙ a.device;
    pass = same_then p.pass q.pass r.pass a.pass b.pass;
    most = b.most ∙ a.most;
  }
