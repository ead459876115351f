use Rattle.shared_iommufd.specs.Servers.{IsPassOf}
use Rattle.test_device_threads.proofs.Lists.{put}
use Rattle.test_device_threads.proofs.test_site.put_last.Goals as goal

pub returns : goal.returns
returns c =
    put (IsPassOf c.args.server.now) c.args.passes.now.items c.push.new.self.items _ _ c.push.ensures.items
    c.requires.0 c.requires.1
