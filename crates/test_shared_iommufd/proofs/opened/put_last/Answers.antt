use Rattle.std.proofs.Common.{sym, subst, is_ok}
use Rattle.shared_iommufd.specs.Servers.{ArePassesOf, IsPassOf}
use Rattle.test_shared_iommufd.proofs.Passes.{put}
use Rattle.test_shared_iommufd.proofs.opened.put_last.Goals as goal

pub returns : goal.returns
returns c =
    let server = c.args.server.now in
    subst (ArePassesOf server) (sym c.push-put.ensures.items)
    (put (IsPassOf server) c.args.passes.now.items c.args.pass (is_ok c.push-put.result) c.requires.0 c.requires.1)
