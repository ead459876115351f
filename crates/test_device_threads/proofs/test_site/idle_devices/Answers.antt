use Rattle.shared_iommufd.specs.Ports.{IsKeyOf, IsPortOf}
use Rattle.shared_iommufd.specs.Servers.{IsPassOf}
use Rattle.test_device_threads.proofs.Lists.{last, left, put}
use Rattle.test_device_threads.proofs.test_site.idle_devices.Goals as goal

pub port-port-requires-clause-key : goal.port-port-requires-clause-key
port-port-requires-clause-key c =
    last (IsKeyOf c.args.server.now) c.loop-key.keys.items c.pop.new.self.items c.in-Some-Some.key
    c.in-Some-Some.ensures.items c.loop-key.invariant.keys

pub port-port-requires-clause-owned : goal.port-port-requires-clause-owned
port-port-requires-clause-owned c =
    last (IsPassOf c.args.server.now) c.loop-key.passes.items c.pop-in-loop-key.new.self.items c.in-Some-Some.pass
    c.in-Some-Some.ensures'.items c.loop-key.invariant.passes

pub loop-key-preserved : goal.loop-key-preserved
loop-key-preserved c =
    let server = c.args.server.now in
    let loop = c.loop-key in
    record {
      keys = left (IsKeyOf server) loop.keys.items c.pop.new.self.items c.pop.result c.pop.ensures.items
          loop.invariant.keys;
      passes = left (IsPassOf server) loop.passes.items c.pop-in-loop-key.new.self.items c.pop-in-loop-key.result
          c.pop-in-loop-key.ensures.items loop.invariant.passes;
      back = put (λ one. IsPortOf server one.port) loop.idle.items c.push.new.self.items _ _
          c.push.ensures.items loop.invariant.back c.port-port.ensures.owned;
    }
