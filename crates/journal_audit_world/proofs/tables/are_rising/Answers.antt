use Rattle.std.proofs.Common.{sym}
use Rattle.journal_audit_world.proofs.Rising.{rise_all, rise_on}
use Rattle.journal_audit_world.proofs.tables.are_rising.Goals as goal

pub loop-frame-init : goal.loop-frame-init
loop-frame-init c = sym (rise_all c.args.frames.now)

pub loop-frame-preserved : goal.loop-frame-preserved
loop-frame-preserved c =
    rise_on c.loop-frame.least c.args.frames.now c.loop-frame.frame-index _ c.from.result c.from-least.result _
    c.loop-frame-test.true c.from.ensures c.from-least.ensures c.if-from-least.false c.loop-frame.invariant
