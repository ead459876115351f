use Rattle.std.proofs.Common.{ap}
use Rattle.iofd_steps.specs.Answers.{Answers}
use Rattle.iofd_words.specs.World.{World}
use Rattle.journal_audit_events.proofs.Writes.{write_decided}
use Rattle.journal_audit_events.proofs.device_write.may_answer.Goals as goal

pub returns : goal.returns
unfolding Answers
returns g c =
    write_decided c.args.world.now c.args.device c.args.iova.0 c.args.reply _ c.outcomes_of-may.result
    c.tells_pass-passes.result c.tells_fault-faults.result (ap (λ (w : World). w.settings) c.world.view_is)
    c.outcomes_of-may.ensures c.tells_pass-passes.ensures c.tells_fault-faults.ensures
