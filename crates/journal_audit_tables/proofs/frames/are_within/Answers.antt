use Rattle.std.proofs.Common.{refl}
use Rattle.std.proofs.lemmas.Bool.{le-ltb, lt-ltb}
use Rattle.std.specs.Prelude.{nat_lt}
use Rattle.journal_audit_world.proofs.RowByRow.{all_but, all_done, all_on}
use Rattle.journal_audit_tables.proofs.frames.are_within.Goals as goal

pub loop-frame-preserved : goal.loop-frame-preserved
loop-frame-preserved c =
    all_on (λ frame. nat_lt frame.0 c.args.pool) c.args.frames.now c.loop-frame.frame-index _ _ _
    c.loop-frame-test.true refl (lt-ltb _ _ c.if-frame-pool.false) c.loop-frame.invariant

pub returns-then-frame-pool : goal.returns-then-frame-pool
returns-then-frame-pool c =
    all_but (λ frame. nat_lt frame.0 c.args.pool) c.args.frames.now c.loop-frame.frame-index _ _ _
    c.loop-frame-test.true refl (le-ltb _ _ c.if-frame-pool.true) c.loop-frame.invariant

pub returns : goal.returns
returns c =
    all_done (λ frame. nat_lt frame.0 c.args.pool) c.args.frames.now c.loop-frame.frame-index _
    c.loop-frame-test.false c.loop-frame.invariant
