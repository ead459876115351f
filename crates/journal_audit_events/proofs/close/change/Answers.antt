use Rattle.std.proofs.Common.{refl, ◌∙◌}
use Rattle.std.proofs.lemmas.Result.{IfOk-weaker}
use Rattle.journal_audit_events.proofs.Going.{close_done, close_pinned, close_used}
use Rattle.journal_audit_events.proofs.close.change.Goals as goal

pub keep_used-requires : goal.keep_used-requires
keep_used-requires g c =
    close_used c.args.at _ c.args.world.now c.args.file _ _ _ _ _ _ c.world.view_is c.requires.kept
    c.new-asked.ensures c.deref.ensures.value c.in_ok-add_of_file.ensures c.remove_of_file.ensures
    c.deref-2.ensures.value refl

pub keep_pinned-requires : goal.keep_pinned-requires
keep_pinned-requires g c =
    close_pinned c.args.at _ c.args.world.now c.args.file _ _ _ _ _ _ _ _ c.world.view_is c.requires.kept
    c.requires.granted c.new-asked.ensures c.deref.ensures.value c.in_ok-add_of_file.ensures c.remove_of_file.ensures
    (c.deref-3.ensures.value ∙ c.remove_of_file-2.ensures) c.deref-4.ensures.value c.deref-5.ensures.value refl

pub returns : goal.returns
returns g c = IfOk-weaker c.keep_pinned.result _ _
    (λ x is. close_done _ c.args.at _ c.args.world.now _ c.args.file c.args.reply _ _ _ _ c.world.view_is
    c.requires.kept c.requires.granted c.in-Done.is refl c.in_ok-push.ensures.items c.stop_file.ensures
    c.remove_of_file.ensures c.deref-2.ensures.value c.in_ok-keep_used.ensures c.remove_of_file-2.ensures
    c.remove_of_file-3.ensures
    c.remove_of_file-4.ensures c.deref-3.ensures.value c.deref-4.ensures.value c.deref-5.ensures.value is)
    c.keep_pinned.ensures
