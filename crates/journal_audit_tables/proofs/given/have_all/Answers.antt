use Rattle.journal_audit_tables.specs.Numbers.{has_number}
use Rattle.journal_audit_world.proofs.RowByRow.{all_but, all_done, all_on}
use Rattle.journal_audit_tables.proofs.given.have_all.Goals as goal

pub loop-frame-preserved : goal.loop-frame-preserved
loop-frame-preserved g c =
    all_on (λ frame. has_number c.args.set.now.keys frame.0) c.args.frames.now c.loop-frame.frame-index _ _ _
    c.loop-frame-test.true c.has.ensures c.if-not-has.false c.loop-frame.invariant

pub returns-then-not-has : goal.returns-then-not-has
returns-then-not-has g c =
    all_but (λ frame. has_number c.args.set.now.keys frame.0) c.args.frames.now c.loop-frame.frame-index _ _ _
    c.loop-frame-test.true c.has.ensures c.if-not-has.true c.loop-frame.invariant

pub returns : goal.returns
returns g c =
    all_done (λ frame. has_number c.args.set.now.keys frame.0) c.args.frames.now c.loop-frame.frame-index _
    c.loop-frame-test.false c.loop-frame.invariant
