use Rattle.journal_audit_tables.proofs.Free.{frame_known}
use Rattle.journal_audit_tables.proofs.frames.set_of.Goals as goal

pub loop-frame-preserved : goal.loop-frame-preserved
loop-frame-preserved g c =
    frame_known c.args.frames.now _ _ c.loop-frame.frame-index _ c.loop-frame-test.true c.in_ok-insert.ensures.updates.0
    c.loop-frame.invariant
