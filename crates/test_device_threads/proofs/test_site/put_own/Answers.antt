use Rattle.std.proofs.Common.{sym, subst}
use Rattle.shared_iommufd.specs.Servers.{IsPassOf}
use Rattle.test_device_threads.proofs.test_site.put_own.Goals as goal

pub put_last-requires : goal.put_last-requires
put_last-requires c = (
  c.requires.0,
  subst (IsPassOf c.args.server.now) (sym c.close-key.ensures.pass) c.requires.1.pass,
)
