use Rattle.std.proofs.Common.{◌≡◌, ◌+◌, ◌-◌, length, arith, rules, ◌∙◌}
use borrow.Rule.Slice.PartMut.{put_mid}
use Rattle.lane_lock.specs.Passes.{view_of}
use Rattle.lane_lock.proofs.Retries.{sees_then}
use Rattle.shared_iommufd.specs.Ports.{most_of, standing_of}
use Rattle.shared_iommufd.specs.Servers.{settings_of}
use Rattle.shared_iommufd.proofs.PortReads.{all_read, one_read, read_stops}
use Rattle.shared_iommufd.proofs.MetLanes.{met_then}
use Rattle.shared_iommufd.proofs.SamePorts.{port_then}
use Rattle.shared_iommufd.proofs.port.Port.read_on.Goals as goal

pub returns-in-Err-clause-reads : goal.returns-in-Err-clause-reads
returns-in-Err-clause-reads g c = λ old first has.
    let a = c.args in
    let loop = c.loop-done in
    let len = c.piece_len-len.result in
    let e = c.in-Err.ensures in
    read_stops (settings_of a.server.now) a.self.now.device (most_of a.self.now) a.iova.0 old first
    (loop.self.device, most_of loop.self) loop.done len
    (loop.done + len - loop.done) (standing_of loop.self) (standing_of c.read_piece.new.self) loop.buffer c.read_piece.new.piece
    c.in-Err.cause (λ i. (loop.invariant.same.device i, loop.invariant.same.most i)) (loop.invariant.read old first has) c.loop-done-test.true e.kept
    c.piece_len-len.ensures.value (omega arith) e.same_port.pass e.denied

pub returns-in-Err-clause-told : goal.returns-in-Err-clause-told
returns-in-Err-clause-told g c =
    let a = c.args in
    let loop = c.loop-done in
    met_then a.server.now a.self.now.pass loop.self.pass c.read_piece.new.self.pass c.in-Err.cause c.requires.owned.pass
    loop.invariant.owned.pass loop.invariant.same.pass loop.invariant.met c.in-Err.ensures.told

pub returns-in-Err-clause-idle : goal.returns-in-Err-clause-idle
returns-in-Err-clause-idle g c = λ all. absurd (omega (arith, all))

pub loop-done-preserved : goal.loop-done-preserved
loop-done-preserved g c =
    let a = c.args in
    let loop = c.loop-done in
    let inv = loop.invariant in
    let len = c.piece_len-len.result in
    let e = c.in_default.ensures in
    let low = e.low in
    let most = c.piece_len-len.ensures.most in
    let left = c.piece_len-len.ensures.within in
    let before = c.loop-done-test.true in
    let part = loop.done + len - loop.done in
    let long : length (put_mid loop.done part loop.buffer c.read_piece.new.piece) ≡ length loop.buffer = search rules in
    record {
      owned = e.owned;
      same = port_then a.self.now loop.self c.read_piece.new.self inv.same e.same_port;
      sees = sees_then (view_of a.self.now.pass) (view_of loop.self.pass) (view_of c.read_piece.new.self.pass) inv.sees
          e.sees;
      met = e.met ∙ inv.met;
      last = e.last ∙ inv.last;
      from = omega (arith, inv.from);
      within = omega (arith, long, left, before);
      fits = omega (arith, low, most);
      read = λ old first has.
          one_read (settings_of a.server.now) a.self.now.device (most_of a.self.now) a.iova.0 old first
          (loop.self.device, most_of loop.self) loop.done len part (standing_of loop.self)
          (standing_of c.read_piece.new.self) loop.buffer c.read_piece.new.piece
          (λ i. (inv.same.device i, inv.same.most i))
          (inv.read old first has) before (search rules) c.piece_len-len.ensures.value (omega arith) e.same_port.pass e.read;
      idle = λ all. absurd (omega (arith, all, long, inv.from, before));
    }

pub returns-clause-reads : goal.returns-clause-reads
returns-clause-reads g c = λ old first has.
    let a = c.args in
    let loop = c.loop-done in
    all_read (settings_of a.server.now) a.self.now.device (most_of a.self.now) a.iova.0 old first loop.done (standing_of loop.self)
    loop.buffer
    (loop.invariant.read old first has) c.loop-done-test.false
