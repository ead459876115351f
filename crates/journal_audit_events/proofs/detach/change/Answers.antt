use Rattle.std.proofs.Common.{refl, ◌∙◌}
use Rattle.std.proofs.lemmas.Result.{IfOk-weaker}
use Rattle.journal_audit_events.proofs.Going.{detach_done, detach_pinned}
use Rattle.journal_audit_events.proofs.detach.change.Goals as goal

pub keep_pinned-requires : goal.keep_pinned-requires
keep_pinned-requires g c =
    detach_pinned c.args.at _ c.args.world.now c.args.device c.in-Some.attachment c.attachment_of.result
    c.deref.result.now c.has_device_on-is_used.result _ _ _ _ _ _ _ _ _ _ c.world.view_is c.requires.kept
    c.requires.granted c.attachment_of.ensures c.in-Some.is c.deref.ensures.value c.remove.ensures
    c.deref-2.ensures.value c.has_device_on-is_used.ensures refl refl c.in_ok-asked.ensures
    (c.deref-4.ensures.value ∙ c.remove_automatic.ensures) c.pay.ensures c.deref-5.ensures.value
    c.deref-6.ensures.value refl

pub returns : goal.returns
returns g c = IfOk-weaker c.keep_pinned.result _ _
    (λ x is. detach_done _ c.args.at _ c.args.world.now _ c.args.device c.in-Some.attachment c.args.reply
    c.attachment_of.result c.deref.result.now c.has_device_on-is_used.result
    _ _ _ _ _ c.world.view_is c.requires.kept c.requires.granted c.in-Done.is c.attachment_of.ensures c.in-Some.is
    c.deref.ensures.value refl c.deref-3.ensures.value c.stop_left.ensures c.remove.ensures c.deref-2.ensures.value
    c.has_device_on-is_used.ensures c.remove_automatic.ensures c.pay.ensures
    c.deref-4.ensures.value c.deref-5.ensures.value c.deref-6.ensures.value is) c.keep_pinned.ensures
