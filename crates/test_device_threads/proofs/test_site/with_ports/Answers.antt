use Rattle.shared_iommufd.specs.Ports.{IsKeyOf}
use Rattle.shared_iommufd.specs.Servers.{IsPassOf}
use Rattle.test_device_threads.proofs.Lists.{last, left}
use Rattle.test_device_threads.proofs.test_site.with_ports.Goals as goal

pub port-port-requires-clause-key : goal.port-port-requires-clause-key
port-port-requires-clause-key c =
    last (IsKeyOf c.args.server) c.args.keys.items c.pop.new.self.items c.in-Some-Some-Some.key
    c.in-Some-Some-Some.ensures.items c.requires.keys

pub port-port-requires-clause-owned : goal.port-port-requires-clause-owned
port-port-requires-clause-owned c =
    last (IsPassOf c.args.server) c.args.passes.items c.pop-2.new.self.items c.in-Some-Some-Some.own
    c.in-Some-Some-Some.ensures'.items c.requires.passes

pub idle_devices-idle-requires-clause-passes : goal.idle_devices-idle-requires-clause-passes
idle_devices-idle-requires-clause-passes c =
    left (IsPassOf c.args.server) c.pop-2.new.self.items c.pop-3.new.self.items c.pop-3.result c.pop-3.ensures.items
    (left (IsPassOf c.args.server) c.args.passes.items c.pop-2.new.self.items c.pop-2.result c.pop-2.ensures.items
    c.requires.passes)

pub idle_devices-idle-requires-clause-keys : goal.idle_devices-idle-requires-clause-keys
idle_devices-idle-requires-clause-keys c =
    left (IsKeyOf c.args.server) c.args.keys.items c.pop.new.self.items c.pop.result c.pop.ensures.items
    c.requires.keys

pub invariant_of-result-clause-of_pass : goal.invariant_of-result-clause-of_pass
invariant_of-result-clause-of_pass c =
    last (IsPassOf c.args.server) c.pop-2.new.self.items c.pop-3.new.self.items c.in-Some-Some-Some.pass
    c.in-Some-Some-Some.ensures''.items
    (left (IsPassOf c.args.server) c.args.passes.items c.pop-2.new.self.items c.pop-2.result c.pop-2.ensures.items
    c.requires.passes)
