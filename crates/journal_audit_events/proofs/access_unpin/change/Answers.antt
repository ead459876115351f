use Rattle.std.proofs.Common.{refl}
use Rattle.std.proofs.lemmas.Result.{IfOk-weaker}
use Rattle.journal_audit_events.proofs.Going.{unpin_done}
use Rattle.journal_audit_events.proofs.Unpinned.{never_unattached, unpin_pinned}
use Rattle.journal_audit_events.proofs.access_unpin.change.Goals as goal

pub unreachable-requires : goal.unreachable-requires
unreachable-requires g c =
    never_unattached _ c.args.world.now c.args.file c.args.id c.args.request _ _ c.world.view_is c.requires.granted
    c.deref.ensures.value c.access_ioas_of.ensures c.in_default-access_ioas_of.is

pub keep_pinned-requires : goal.keep_pinned-requires
keep_pinned-requires g c =
    unpin_pinned c.args.at _ c.args.world.now c.args.file c.args.id c.in-Some.ioas c.args.request _ _ _ _ _ _ _ _ _ _ _
    c.world.view_is c.requires.kept c.deref.ensures.value c.access_ioas_of.ensures c.in-Some.is c.new-asked.ensures
    c.last_of-last.ensures c.deref-2.ensures.value c.in_ok-add_meeting.ensures c.remove.ensures c.deref-3.ensures.value
    c.deref-4.ensures.value c.deref-5.ensures.value refl

pub returns : goal.returns
returns g c = IfOk-weaker c.keep_pinned.result _ _
    (λ x is. unpin_done _ c.args.at _ c.args.world.now _ c.args.file c.args.id c.args.request c.args.reply _ _ _
    c.world.view_is c.requires.kept c.in-Done.is refl c.remove.ensures c.deref-3.ensures.value c.deref-4.ensures.value
    c.deref-5.ensures.value is) c.keep_pinned.ensures
