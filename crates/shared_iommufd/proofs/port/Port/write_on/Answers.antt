use Rattle.std.proofs.Common.{◌+◌, ◌-◌, arith, ◌∙◌}
use Rattle.lane_lock.specs.Passes.{lanes_of}
use Rattle.shared_iommufd.specs.Ports.{most_of, standing_of}
use Rattle.shared_iommufd.specs.Servers.{settings_of}
use Rattle.shared_iommufd.proofs.MetLanes.{met_then}
use Rattle.shared_iommufd.proofs.PortWrites.{all_written, one_written, write_stops}
use Rattle.shared_iommufd.proofs.SamePorts.{port_then}
use Rattle.shared_iommufd.proofs.port.Port.write_on.Goals as goal

pub returns-in-Err-clause-writes : goal.returns-in-Err-clause-writes
returns-in-Err-clause-writes g c = λ first has.
    let a = c.args in
    let loop = c.loop-done in
    let len = c.piece_len-len.result in
    let e = c.in-Err.ensures in
    write_stops (settings_of a.server.now) a.self.now.device (most_of a.self.now) a.iova.0 a.bytes.now first (lanes_of a.server.now.lock)
    (loop.self.device, most_of loop.self) loop.done len (loop.done + len - loop.done) (standing_of loop.self)
    (standing_of c.write_piece.new.self)
    loop.self.last c.write_piece.new.self.last c.in-Err.cause
    (λ i. (loop.invariant.same.device i, loop.invariant.same.most i))
    (loop.invariant.written first has) c.loop-done-test.true c.piece_len-len.ensures.value (omega arith)
    e.same_port.pass e.denied

pub returns-in-Err-clause-told : goal.returns-in-Err-clause-told
returns-in-Err-clause-told g c =
    let a = c.args in
    let loop = c.loop-done in
    met_then a.server.now a.self.now.pass loop.self.pass c.write_piece.new.self.pass c.in-Err.cause c.requires.owned.pass
    loop.invariant.owned.pass loop.invariant.same.pass loop.invariant.met c.in-Err.ensures.told

pub returns-in-Err-clause-idle : goal.returns-in-Err-clause-idle
returns-in-Err-clause-idle g c = λ all. absurd (omega (arith, all))

pub loop-done-preserved : goal.loop-done-preserved
loop-done-preserved g c =
    let a = c.args in
    let loop = c.loop-done in
    let inv = loop.invariant in
    let len = c.piece_len-len.result in
    let e = c.in_default.ensures in
    let low = e.low in
    let most = c.piece_len-len.ensures.most in
    let left = c.piece_len-len.ensures.within in
    let before = c.loop-done-test.true in
    record {
      owned = e.owned;
      same = port_then a.self.now loop.self c.write_piece.new.self inv.same e.same_port;
      met = e.met ∙ inv.met;
      from = omega (arith, inv.from);
      within = omega (arith, left, before);
      fits = omega (arith, low, most);
      written = λ first has.
          one_written (settings_of a.server.now) a.self.now.device (most_of a.self.now) a.iova.0 a.bytes.now first
          (loop.self.device, most_of loop.self) loop.done len (loop.done + len - loop.done) (standing_of loop.self)
          (standing_of c.write_piece.new.self) loop.self.last
          c.write_piece.new.self.last e.written.0 (λ i. (inv.same.device i, inv.same.most i)) (inv.written first has) before
          c.piece_len-len.ensures.value (omega arith) e.same_port.pass e.written.1;
      idle = λ all. absurd (omega (arith, all, inv.from, before));
    }

pub returns-clause-writes : goal.returns-clause-writes
returns-clause-writes g c = λ first has.
    let a = c.args in
    let loop = c.loop-done in
    all_written (settings_of a.server.now) a.self.now.device (most_of a.self.now) a.iova.0 a.bytes.now first loop.done (standing_of loop.self)
    loop.self.last (loop.invariant.written first has) c.loop-done-test.false
