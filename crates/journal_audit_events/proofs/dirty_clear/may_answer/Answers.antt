use Rattle.std.proofs.Common.{◌≡◌, List, ℕ, ap, subst, ◌∙◌}
use Rattle.iofd_steps.specs.Answers.{AnswersDirty}
use Rattle.iofd_words.specs.Dirty.{TrackedTable, reported_words}
use Rattle.iofd_words.specs.World.{World}
use Rattle.journal_audit_world.specs.Decides.{Decides}
use Rattle.journal_audit_events.proofs.dirty_clear.may_answer.Goals as goal

pub returns : goal.returns
returns g c =
    let seen : c.deref.result.now ≡ c.args.world.now.tracked =
    c.deref.ensures.value ∙ ap (λ (w : World). w.tracked) c.world.view_is in
    subst (λ (words : List ℕ). Decides c.tells.result (AnswersDirty words c.args.reply))
    (c.in_ok-words.ensures ∙ ap (λ (rows : List TrackedTable). reported_words rows c.args.file c.args.request) seen)
    c.tells.ensures
