use Rattle.std.proofs.Common.{◌≡◌, Err, Ok, arith, length, refl, rules, subst, ◌∙◌}
use Rattle.lane_lock.specs.Passes.{view_of}
use Rattle.lane_lock.proofs.Retries.{sees_same, sees_then}
use Rattle.shared_iommufd.specs.PortReads.{StopsRead}
use Rattle.shared_iommufd.specs.Ports.{most_of, standing_of}
use Rattle.shared_iommufd.specs.Servers.{settings_of}
use Rattle.shared_iommufd.specs.declared.error.PortCause.{PortCause}
use Rattle.guarded_core.specs.declared.try_error.TryError.{TryError}
use Rattle.shared_iommufd.proofs.PortReads.{goes_on, none_read, stays_read}
use Rattle.shared_iommufd.proofs.SamePorts.{port_then}
use Rattle.shared_iommufd.proofs.Shown.{same_pass}
use Rattle.shared_iommufd.proofs.port.Port.read.Goals as goal

pub loop-init : goal.loop-init
loop-init g c =
    let a = c.args in record {
      can_next = tt;
      is_finite = tt;
      owned = record { device = c.requires.device; pass = c.requires.pass };
      same = record { device = refl; pass = same_pass a.self.now.pass; most = refl };
      sees = sees_same (view_of a.self.now.pass);
      last = refl;
      within = omega arith;
      fits = search rules;
      read = none_read (settings_of a.server.now) a.self.now.device (most_of a.self.now) a.iova.0 a.buffer.now
          (standing_of a.self.now);
      idle = λ none. refl;
    }

pub returns-in-Ok-clause-reads : goal.returns-in-Ok-clause-reads
returns-in-Ok-clause-reads g c =
    let a = c.args in
    let loop = c.loop in
    goes_on (settings_of a.server.now) (loop.self.device, most_of loop.self) (a.self.now.device, most_of a.self.now) a.iova.0
    a.buffer.now (standing_of a.self.now) loop.done (standing_of loop.self) (standing_of c.read_on.new.self) loop.buffer c.read_on.new.buffer (Ok tt)
    (λ i. (loop.invariant.same.device i, loop.invariant.same.most i))
    loop.invariant.read c.in-Ok.ensures.reads

pub returns-in-Call-clause-reads : goal.returns-in-Call-clause-reads
returns-in-Call-clause-reads g c =
    let a = c.args in
    let loop = c.loop in
    let e = c.in-Err in
    let stops : StopsRead (settings_of a.server.now) a.self.now.device (most_of a.self.now) a.iova.0 a.buffer.now
    (standing_of a.self.now) e.error (standing_of c.read_on.new.self) c.read_on.new.buffer =
    goes_on (settings_of a.server.now) (loop.self.device, most_of loop.self) (a.self.now.device, most_of a.self.now) a.iova.0
    a.buffer.now (standing_of a.self.now) loop.done (standing_of loop.self) (standing_of c.read_on.new.self) loop.buffer c.read_on.new.buffer (Err e.error)
    (λ i. (loop.invariant.same.device i, loop.invariant.same.most i))
    loop.invariant.read e.ensures.reads in
    subst (λ (cause : TryError PortCause). StopsRead (settings_of a.server.now) a.self.now.device (most_of a.self.now) a.iova.0
    a.buffer.now (standing_of a.self.now) (record { done = e.error.done; cause = cause })
    (standing_of c.read_on.new.self) c.read_on.new.buffer) c.in-Call.is
    stops

pub loop-preserved : goal.loop-preserved
loop-preserved g c =
    let a = c.args in
    let loop = c.loop in
    let inv = loop.invariant in
    let e = c.in-Err in
    let less = e.ensures.within in
    let long : length c.read_on.new.buffer ≡ length loop.buffer = search rules in
    let stops : StopsRead (settings_of a.server.now) a.self.now.device (most_of a.self.now) a.iova.0 a.buffer.now
    (standing_of a.self.now) e.error (standing_of c.read_on.new.self) c.read_on.new.buffer =
    goes_on (settings_of a.server.now) (loop.self.device, most_of loop.self) (a.self.now.device, most_of a.self.now) a.iova.0
    a.buffer.now (standing_of a.self.now) loop.done (standing_of loop.self) (standing_of c.read_on.new.self) loop.buffer c.read_on.new.buffer (Err e.error)
    (λ i. (inv.same.device i, inv.same.most i)) inv.read
    e.ensures.reads in
    record {
      can_next = tt;
      is_finite = tt;
      owned = e.ensures.owned;
      same = port_then _ loop.self c.read_on.new.self inv.same e.ensures.same_port;
      sees = sees_then (view_of a.self.now.pass) (view_of loop.self.pass) (view_of c.read_on.new.self.pass) inv.sees
          e.ensures.sees;
      last = e.ensures.last ∙ inv.last;
      within = omega (arith, less, long);
      fits = e.ensures.fits;
      read = stays_read (settings_of a.server.now) (a.self.now.device, most_of a.self.now)
          (a.self.now.device, most_of a.self.now) a.iova.0 a.buffer.now (standing_of a.self.now) e.error _
          (standing_of c.read_on.new.self) c.read_on.new.buffer c.in-NotNow.is stops;
      idle = λ none. absurd (omega (arith, less, long, none));
    }
