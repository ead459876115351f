use Rattle.shared_iommufd.specs.Servers.{IsPassOf}
use Rattle.test_shared_iommufd.proofs.Passes.{left, taken}
use Rattle.test_shared_iommufd.proofs.opened.last_pass.Goals as goal

pub returns-clause-taken : goal.returns-clause-taken
returns-clause-taken c =
    taken (IsPassOf c.args.server.now) c.args.passes.now.items c.pop.new.self.items c.pop.result c.pop.ensures.items
    c.requires

pub returns-clause-left : goal.returns-clause-left
returns-clause-left c =
    left (IsPassOf c.args.server.now) c.args.passes.now.items c.pop.new.self.items c.pop.result c.pop.ensures.items
    c.requires
