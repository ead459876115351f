use Rattle.std.proofs.Common.{Err, Ok, arith, refl, rules, subst}
use Rattle.lane_lock.specs.Passes.{lanes_of}
use Rattle.shared_iommufd.specs.PortWrites.{StopsWrite}
use Rattle.shared_iommufd.specs.Ports.{most_of, standing_of}
use Rattle.shared_iommufd.specs.Servers.{settings_of}
use Rattle.shared_iommufd.specs.declared.error.PortCause.{PortCause}
use Rattle.guarded_core.specs.declared.try_error.TryError.{TryError}
use Rattle.shared_iommufd.proofs.PortWrites.{goes_on, none_written, stays_written}
use Rattle.shared_iommufd.proofs.SamePorts.{port_then}
use Rattle.shared_iommufd.proofs.Shown.{same_pass}
use Rattle.shared_iommufd.proofs.port.Port.write.Goals as goal

pub loop-init : goal.loop-init
loop-init g c =
    let a = c.args in record {
      can_next = tt;
      is_finite = tt;
      owned = record { device = c.requires.device; pass = c.requires.pass };
      same = record { device = refl; pass = same_pass a.self.now.pass; most = refl };
      within = omega arith;
      fits = search rules;
      written = none_written (settings_of a.server.now) a.self.now.device (most_of a.self.now) a.iova.0 a.bytes.now
          (standing_of a.self.now);
      idle = λ none. refl;
    }

pub returns-in-Ok-clause-writes : goal.returns-in-Ok-clause-writes
returns-in-Ok-clause-writes g c =
    let a = c.args in
    let loop = c.loop in
    goes_on (settings_of a.server.now) (lanes_of a.server.now.lock) (loop.self.device, most_of loop.self)
    (a.self.now.device, most_of a.self.now) a.iova.0 a.bytes.now (standing_of a.self.now) loop.done
    (standing_of loop.self) (standing_of c.write_on.new.self) loop.self.last
    c.write_on.new.self.last (Ok tt) (λ i. (loop.invariant.same.device i, loop.invariant.same.most i)) loop.invariant.written c.in-Ok.ensures.writes

pub returns-in-Call-clause-writes : goal.returns-in-Call-clause-writes
returns-in-Call-clause-writes g c =
    let a = c.args in
    let loop = c.loop in
    let e = c.in-Err in
    let stops : StopsWrite (settings_of a.server.now) (lanes_of a.server.now.lock) a.self.now.device (most_of a.self.now)
    a.iova.0 a.bytes.now (standing_of a.self.now) e.error (standing_of c.write_on.new.self) c.write_on.new.self.last =
    goes_on (settings_of a.server.now) (lanes_of a.server.now.lock) (loop.self.device, most_of loop.self)
    (a.self.now.device, most_of a.self.now) a.iova.0 a.bytes.now (standing_of a.self.now) loop.done
    (standing_of loop.self) (standing_of c.write_on.new.self) loop.self.last
    c.write_on.new.self.last (Err e.error) (λ i. (loop.invariant.same.device i, loop.invariant.same.most i)) loop.invariant.written e.ensures.writes in
    subst (λ (cause : TryError PortCause). StopsWrite (settings_of a.server.now) (lanes_of a.server.now.lock)
    a.self.now.device (most_of a.self.now) a.iova.0 a.bytes.now (standing_of a.self.now)
    (record { done = e.error.done; cause = cause }) (standing_of c.write_on.new.self) c.write_on.new.self.last) c.in-Call.is stops

pub loop-preserved : goal.loop-preserved
loop-preserved g c =
    let a = c.args in
    let loop = c.loop in
    let inv = loop.invariant in
    let e = c.in-Err in
    let less = e.ensures.within in
    let stops : StopsWrite (settings_of a.server.now) (lanes_of a.server.now.lock) a.self.now.device (most_of a.self.now)
    a.iova.0 a.bytes.now (standing_of a.self.now) e.error (standing_of c.write_on.new.self) c.write_on.new.self.last =
    goes_on (settings_of a.server.now) (lanes_of a.server.now.lock) (loop.self.device, most_of loop.self)
    (a.self.now.device, most_of a.self.now) a.iova.0 a.bytes.now (standing_of a.self.now) loop.done
    (standing_of loop.self) (standing_of c.write_on.new.self) loop.self.last
    c.write_on.new.self.last (Err e.error) (λ i. (inv.same.device i, inv.same.most i)) inv.written e.ensures.writes in
    record {
      can_next = tt;
      is_finite = tt;
      owned = e.ensures.owned;
      same = port_then _ loop.self c.write_on.new.self inv.same e.ensures.same_port;
      within = omega (arith, less);
      fits = e.ensures.fits;
      written = stays_written (settings_of a.server.now) (lanes_of a.server.now.lock)
          (a.self.now.device, most_of a.self.now) (a.self.now.device, most_of a.self.now) a.iova.0 a.bytes.now
          (standing_of a.self.now) e.error _ (standing_of c.write_on.new.self)
          c.write_on.new.self.last c.in-NotNow.is stops;
      idle = λ none. absurd (omega (arith, less, none));
    }
