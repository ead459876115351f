use Rattle.std.proofs.Common.{refl, ◌∙◌}
use Rattle.std.proofs.lemmas.Result.{IfOk-weaker}
use Rattle.journal_audit_maps.proofs.Unmapped.{remove_done, touched_pinned, touched_used}
use Rattle.journal_audit_maps.proofs.unmap.remove.Goals as goal

pub keep_used-requires : goal.keep_used-requires
keep_used-requires g c =
    touched_used c.args.at _ c.args.world.now c.args.file c.args.request
    (record { first = c.span.inside.first; last = c.span.inside.last }) _ _ _ _ _ _
    c.world.view_is c.requires.kept c.new-asked.ensures (c.span.view_is ∙ c.unmapped_span-span.ensures) c.deref.ensures.value
    c.in_ok-add_meeting.ensures c.remove_touched.ensures c.deref-2.ensures.value refl

pub keep_pinned-requires : goal.keep_pinned-requires
keep_pinned-requires g c =
    touched_pinned _ c.args.at _ c.args.world.now c.args.file c.args.request c.args.count
    (record { first = c.span.inside.first; last = c.span.inside.last }) _ _ _ _ _ _ _ _ c.world.view_is c.requires.kept c.requires.granted c.requires.answered c.new-asked.ensures
    (c.span.view_is ∙ c.unmapped_span-span.ensures) c.deref.ensures.value c.in_ok-add_meeting.ensures c.remove_touched.ensures
    c.deref-3.ensures.value c.deref-4.ensures.value c.deref-5.ensures.value refl

pub returns : goal.returns
returns g c = IfOk-weaker c.keep_pinned.result _ _
    (λ x is. remove_done _ c.args.at _ c.args.world.now _ c.args.file c.args.request c.args.count _ _ _ _
    c.world.view_is c.requires.kept c.requires.granted c.requires.answered refl c.remove_touched.ensures
    c.deref-2.ensures.value c.in_ok-keep_used.ensures c.deref-3.ensures.value c.deref-4.ensures.value
    c.deref-5.ensures.value is) c.keep_pinned.ensures
