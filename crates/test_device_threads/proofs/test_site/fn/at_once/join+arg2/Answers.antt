use Rattle.std.proofs.Common.{Vec}
use Rattle.device_threads.specs.Workers.{AllCanRun}
use Rattle.test_device_threads.proofs.Lists.{handed}
use Rattle.test_device_threads.proofs.test_site.fn.at_once.join+arg2.Goals as goal

pub returns : goal.returns
returns g c = (
  c.run.ensures.back,
  handed (λ (workers : Vec _ _). AllCanRun c.captures.server.now workers.items) c.run.result _ c.captures.workers
      c.run.ensures.refused c.requires,
)
