use Rattle.std.proofs.Common.{Some}
use Rattle.std.specs.Arc.{arc_value}
use Rattle.shared_iommufd.specs.Servers.{IsPassOf}
use Rattle.iommufd_c.proofs.Given.{left, taken}
use Rattle.iommufd_c.proofs.handle.caller.last_pass.Goals as goal

pub returns-clause-taken : goal.returns-clause-taken
returns-clause-taken c =
    taken (λ i pass. IsPassOf (arc_value c.args.server.now) pass) c.args.spare.now.items c.pop.new.self.items
    (Some c.in-Some.pass) c.in-Some.ensures.items c.requires.owned

pub returns-clause-left : goal.returns-clause-left
returns-clause-left c =
    left (λ i pass. IsPassOf (arc_value c.args.server.now) pass) c.args.spare.now.items c.pop.new.self.items
    (Some c.in-Some.pass) c.in-Some.ensures.items c.requires.owned
