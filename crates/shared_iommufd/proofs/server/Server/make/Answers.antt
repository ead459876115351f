use Rattle.std.proofs.Common.{refl, ◌∙◌}
use Rattle.guarded_core.specs.Opening.{opened_with}
use Rattle.shared_iommufd.specs.Servers.{settings_of}
use Rattle.shared_iommufd.proofs.Shown.{makes}
use Rattle.shared_iommufd.proofs.server.Server.make.Goals as goal

pub returns-in-Ok-clause-made : goal.returns-in-Ok-clause-made
returns-in-Ok-clause-made g c =
    let server = c.args.self.now in
    let k = c.in-Ok.ensures.committed in
    let loop = c.loop.invariant in
    makes (settings_of server) (opened_with server.lock) k.before.core.history k.after.core.history c.args.pass.now
    c.loop.pass c.commit.new.pass c.args.act.now c.in-Ok.stamp k.entry refl server.fresh k.opened loop.same loop.sees
    k.later k.mine k.gives k.seen k.grown k.own k.home (c.commit.ensures.had.reads ∙ loop.had)
