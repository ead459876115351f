use Rattle.shared_iommufd.specs.Ports.{IsPortOf}
use Rattle.device_threads.specs.Workers.{CanRun}
use Rattle.test_device_threads.proofs.Lists.{last, left, put}
use Rattle.test_device_threads.proofs.test_site.TestSiteSite.equip.Goals as goal

pub invariant_of-self : goal.invariant_of-self
invariant_of-self c =
    let self = c.args.self.now in
    let came = c.in-Some.one in
    record {
      of_pass = self.of_pass;
      of_port = self.of_port;
      can = put (CanRun self.server) self.workers.items c.push.new.self.items _ _ c.push.ensures.items self.can
          (record {
            owned = last (λ one. IsPortOf self.server one.port) self.idle.items c.pop.new.self.items came
                c.in-Some.ensures.items self.back;
            few = c.requires;
          });
      back = left (λ one. IsPortOf self.server one.port) self.idle.items c.pop.new.self.items c.pop.result
          c.pop.ensures.items self.back;
    }
