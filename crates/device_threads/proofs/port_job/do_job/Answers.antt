use Rattle.std.proofs.Common.{refl, sym, subst}
use Rattle.lane_lock.specs.Passes.{lanes_of}
use Rattle.shared_iommufd.specs.Servers.{settings_of}
use Rattle.device_threads.specs.Stretches.{EndsAt}
use Rattle.device_threads.proofs.Stretches.{stretch_of}
use Rattle.device_threads.proofs.port_job.do_job.Goals as goal

pub returns-clause-done : goal.returns-clause-done
returns-clause-done g c =
    let a = c.args in
    let settings = settings_of a.server.now in
    let did = c.perform-outcome.ensures in
    let q = c.perform-outcome.new.port in
    let came = c.perform-outcome.result in
    let grows = stretch_of settings (lanes_of a.server.now.lock) a.port.now a.job came q did.comes in
    record {
      device = c.device-device.ensures;
      numbered = refl;
      comes = did.comes;
      stretch = grows.stretch;
      made = grows.made;
      at = subst (EndsAt settings q.pass grows.stretch) (sym c.last.ensures) grows.at;
      last = c.last.ensures;
      same = did.same;
    }
