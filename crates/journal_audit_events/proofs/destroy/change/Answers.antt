use Rattle.std.proofs.Common.{refl, ◌∙◌}
use Rattle.std.proofs.lemmas.Result.{IfOk-weaker}
use Rattle.journal_audit_events.proofs.Going.{destroy_done, destroy_pinned, destroy_used}
use Rattle.journal_audit_events.proofs.destroy.change.Goals as goal

pub keep_used-requires : goal.keep_used-requires
keep_used-requires g c =
    destroy_used c.args.at _ c.args.world.now c.args.file c.args.id _ _ _ _ c.world.view_is c.requires.kept
    c.in_ok-asked.ensures c.remove_of.ensures c.deref.ensures.value refl

pub keep_pinned-requires : goal.keep_pinned-requires
keep_pinned-requires g c =
    destroy_pinned c.args.at _ c.args.world.now c.args.file c.args.id _ _ _ _ _ _ c.world.view_is c.requires.kept
    c.requires.granted c.in_ok-asked.ensures c.remove_of.ensures (c.deref-2.ensures.value ∙ c.remove.ensures)
    c.deref-3.ensures.value c.deref-4.ensures.value refl

pub returns : goal.returns
returns g c = IfOk-weaker c.keep_pinned.result _ _
    (λ x is. destroy_done _ c.args.at _ c.args.world.now _ c.args.file c.args.id c.args.reply _ _ _ _ c.world.view_is
    c.requires.kept c.requires.granted c.in-Done.is refl c.stop.ensures c.remove_of.ensures c.deref.ensures.value
    c.in_ok-keep_used.ensures c.remove.ensures c.remove_of-2.ensures c.deref-2.ensures.value c.deref-3.ensures.value
    c.deref-4.ensures.value is) c.keep_pinned.ensures
