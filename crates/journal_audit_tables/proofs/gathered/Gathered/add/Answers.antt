use Rattle.std.proofs.Common.{refl, sym, ◌∙◌}
use Rattle.iofd_rows.proofs.Bools.{not_true}
use Rattle.iofd_runs.proofs.NotRefused.{not_not}
use Rattle.journal_audit_tables.proofs.Adding.{adds_new, adds_old}
use Rattle.journal_audit_tables.proofs.gathered.Gathered.add.Goals as goal

pub returns-in_ok-push : goal.returns-in_ok-push
returns-in_ok-push g c =
    adds_new _ c.args.self.now _ c.args.level c.args.first c.self.view_is refl refl c.in_ok-insert.ensures.updates.0
    (not_true _ (sym c.in_ok-insert.ensures.added ∙ c.if-branch.true)) c.in_ok-push.ensures.items

pub returns-else-branch : goal.returns-else-branch
returns-else-branch g c =
    adds_old _ c.args.self.now _ c.args.level c.args.first c.self.view_is refl refl c.in_ok-insert.ensures.updates.0
    (not_not _ (sym c.in_ok-insert.ensures.added ∙ c.if-branch.false)) refl
