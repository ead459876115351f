use Rattle.journal_audit_events.proofs.Unchanged.{of_clear, of_write}
use Rattle.journal_audit_events.proofs.events.may_answer.Goals as goal

pub returns-in-DeviceWrite : goal.returns-in-DeviceWrite
returns-in-DeviceWrite g c = of_write c.args.world.now _ c.args.reply c.in-DeviceWrite.device c.in-DeviceWrite.iova _ _
    c.in-DeviceWrite.is c.may_answer.ensures

pub returns-in-DirtyClear : goal.returns-in-DirtyClear
returns-in-DirtyClear g c =
    of_clear c.args.world.now _ c.args.reply c.in-DirtyClear.file c.in-DirtyClear.request
    c.may_answer-in-DirtyClear.result c.in-DirtyClear.is c.may_answer-in-DirtyClear.ensures
