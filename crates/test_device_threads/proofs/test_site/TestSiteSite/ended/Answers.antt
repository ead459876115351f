use Rattle.shared_iommufd.specs.Ports.{IsPortOf}
use Rattle.shared_iommufd.specs.Servers.{IsPassOf}
use Rattle.test_device_threads.proofs.Lists.{last, left, none}
use Rattle.test_device_threads.proofs.test_site.TestSiteSite.ended.Goals as goal

pub put_last-requires : goal.put_last-requires
put_last-requires c = (
  none (IsPassOf c.args.self.server) c.new-passes.result.items c.new-passes.ensures.items,
  c.args.self.of_pass,
)

pub put_own-requires : goal.put_own-requires
put_own-requires c = (c.put_last.ensures, c.args.self.of_port)

pub loop-one-init : goal.loop-one-init
loop-one-init c = record { back = c.args.self.back; passes = c.put_own.ensures }

pub put_own-requires-in-Some : goal.put_own-requires-in-Some
put_own-requires-in-Some c = (
  c.loop-one.invariant.passes,
  last (λ one. IsPortOf c.args.self.server one.port) c.loop-one.idle.items c.pop.new.self.items c.in-Some.one
      c.in-Some.ensures.items c.loop-one.invariant.back,
)

pub loop-one-preserved : goal.loop-one-preserved
loop-one-preserved c = record {
  back = left (λ one. IsPortOf c.args.self.server one.port) c.loop-one.idle.items c.pop.new.self.items c.pop.result
      c.pop.ensures.items c.loop-one.invariant.back;
  passes = c.put_own-in-Some.ensures;
}

pub closed-requires : goal.closed-requires
closed-requires c = c.loop-one.invariant.passes
