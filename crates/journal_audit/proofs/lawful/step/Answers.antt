use Rattle.std.proofs.Common.{ap, sym, ◌∙◌}
use Rattle.iofd_words.specs.World.{World}
use Rattle.journal_audit_world.specs.Unwritten.{unwritten}
use Rattle.journal_audit.proofs.Lawfully.{after_refused, not_so, refused, unanswered}
use Rattle.journal_audit.proofs.lawful.step.Goals as goal

pub returns-in-Some-clause-lawful : goal.returns-in-Some-clause-lawful
returns-in-Some-clause-lawful g c =
    refused c.args.at c.args.world.now c.args.record.now c.in-Some.cause c.is_refused.result
    (sym (rw c.event-event.ensures at c.in_ok-cause.ensures) ∙ c.in-Some.is) c.is_refused.ensures

pub returns-in-Some-clause-after : goal.returns-in-Some-clause-after
returns-in-Some-clause-after g c = λ yes.
    sym (ap (λ (w : World). unwritten w)
    (after_refused c.args.at c.args.world.now c.args.record.now c.in-Some.cause
    (sym (rw c.event-event.ensures at c.in_ok-cause.ensures) ∙ c.in-Some.is)))

pub returns-then-not-branch-clause-lawful : goal.returns-then-not-branch-clause-lawful
returns-then-not-branch-clause-lawful g c =
    unanswered c.args.at c.args.world.now c.args.record.now
    (sym (rw c.event-event.ensures at c.in_ok-cause.ensures) ∙ c.in_default.is)
    (not_so _ c.if-not-branch.true (rw (c.event-event.ensures, c.reply.ensures) at c.in_ok-may_answer.ensures))
