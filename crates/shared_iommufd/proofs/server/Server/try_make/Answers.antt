use Rattle.std.proofs.Common.{refl, rules}
use Rattle.guarded_core.specs.Opening.{opened_with}
use Rattle.shared_iommufd.specs.Servers.{settings_of}
use Rattle.guarded_core.proofs.Guards.{if_ok}
use Rattle.shared_iommufd.proofs.Shown.{makes, same_pass, sees_same}
use Rattle.shared_iommufd.proofs.server.Server.try_make.Goals as goal

pub returns-clause-made : goal.returns-clause-made
returns-clause-made g c =
    let server = c.args.self.now in
    let pass = c.args.pass.now in
    if_ok c.try_commit.result _ _ c.try_commit.ensures.committed (λ stamp k.
    makes (settings_of server) (opened_with server.lock) k.before.core.history k.after.core.history pass pass _
    c.args.act.now stamp k.entry refl server.fresh k.opened (same_pass pass) (sees_same pass)
    k.later k.mine k.gives k.seen k.grown k.own k.home (search rules))
