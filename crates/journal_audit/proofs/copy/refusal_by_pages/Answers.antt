use Rattle.std.proofs.Common.{Some, None, List, arith, cond, refl, ap, sym, ◌∙◌}
use Rattle.iofd_rows.specs.Pinned.{has_object}
use Rattle.iofd_words.specs.World.{World}
use Rattle.iofd_words.specs.declared.refusal.Cause.TheVariants as cause
use Rattle.iofd_words.specs.declared.rows.MemoryObject.{MemoryObject}
use Rattle.journal_audit_maps.proofs.AccessPinned.{match_none, match_some}
use Rattle.journal_audit.proofs.Copied.{never_sourceless, source_sized}
use Rattle.journal_audit.proofs.PageRows.{copy_absent, copy_told, some_source, table_over}
use Rattle.journal_audit.proofs.copy.refusal_by_pages.Goals as goal

pub unreachable-requires : goal.unreachable-requires
unreachable-requires g c =
    never_sourceless _ c.args.world.now c.args.file c.args.request _ _ c.world.view_is
    (some_source c.args.world.now c.args.file c.args.request c.requires.sourced) c.deref-2.ensures.value
    c.in_default.ensures refl

pub pins_of_shared-requires-clause-sized : goal.pins_of_shared-requires-clause-sized
pins_of_shared-requires-clause-sized g c =
    ap (λ (rows : List MemoryObject). has_object rows c.in-Some.source.now)
    (c.deref-4.ensures.value ∙ ap (λ (w : World). w.memory) c.world.view_is)
    ∙ (source_sized c.args.at _ c.args.world.now c.args.file c.args.request _ c.in-Some.source.now _ c.world.view_is
    c.requires.kept c.deref-2.ensures.value c.in-Some.ensures refl).1

pub returns-in_default-2 : goal.returns-in_default-2
returns-in_default-2 g c =
    copy_absent c.args.world.now c.args.file c.args.request c.in-Some.source.now
    (source_sized c.args.at _ c.args.world.now c.args.file c.args.request _ c.in-Some.source.now _ c.world.view_is
    c.requires.kept c.deref-2.ensures.value c.in-Some.ensures refl).0
    (table_over _ c.args.world.now c.args.file c.args.request.dst_ioas _ _ c.world.view_is c.deref.ensures.value
    c.has_hwpt.ensures c.if-not-has_hwpt.false) _ _ _
    (c.deref-4.ensures.value ∙ ap (λ (w : World). w.memory) c.world.view_is)
    (c.deref-5.ensures.value ∙ ap (λ (w : World). w.user_pages) c.world.view_is)
    (c.deref-3.ensures.value ∙ ap (λ (w : World). w.pins) c.world.view_is)
    (match_none _ _ _ c.in_default-2.is c.in_ok-pins.ensures)

pub returns-then-passes_limit : goal.returns-then-passes_limit
returns-then-passes_limit g c =
    ap (λ b. cond b (Some cause.Account) None) (sym c.if-passes_limit.true)
    ∙ copy_told c.args.world.now c.args.file c.args.request c.in-Some.source.now
    (source_sized c.args.at _ c.args.world.now c.args.file c.args.request _ c.in-Some.source.now _ c.world.view_is
    c.requires.kept c.deref-2.ensures.value c.in-Some.ensures refl).0
    (table_over _ c.args.world.now c.args.file c.args.request.dst_ioas _ _ c.world.view_is c.deref.ensures.value
    c.has_hwpt.ensures c.if-not-has_hwpt.false) _ _ _
    (c.deref-4.ensures.value ∙ ap (λ (w : World). w.memory) c.world.view_is)
    (c.deref-5.ensures.value ∙ ap (λ (w : World). w.user_pages) c.world.view_is)
    (c.deref-3.ensures.value ∙ ap (λ (w : World). w.pins) c.world.view_is) c.in-Some-2.pins.items c.len.result
    c.passes_limit.result (match_some _ _ _ _ c.in-Some-2.is c.in_ok-pins.ensures)
    (let told = c.len.ensures in let kept = c.in-Some-2.pins.ok in omega (arith, told, kept)) c.passes_limit.ensures

pub returns : goal.returns
returns g c =
    ap (λ b. cond b (Some cause.Account) None) (sym c.if-passes_limit.false)
    ∙ copy_told c.args.world.now c.args.file c.args.request c.in-Some.source.now
    (source_sized c.args.at _ c.args.world.now c.args.file c.args.request _ c.in-Some.source.now _ c.world.view_is
    c.requires.kept c.deref-2.ensures.value c.in-Some.ensures refl).0
    (table_over _ c.args.world.now c.args.file c.args.request.dst_ioas _ _ c.world.view_is c.deref.ensures.value
    c.has_hwpt.ensures c.if-not-has_hwpt.false) _ _ _
    (c.deref-4.ensures.value ∙ ap (λ (w : World). w.memory) c.world.view_is)
    (c.deref-5.ensures.value ∙ ap (λ (w : World). w.user_pages) c.world.view_is)
    (c.deref-3.ensures.value ∙ ap (λ (w : World). w.pins) c.world.view_is) c.in-Some-2.pins.items c.len.result
    c.passes_limit.result (match_some _ _ _ _ c.in-Some-2.is c.in_ok-pins.ensures)
    (let told = c.len.ensures in let kept = c.in-Some-2.pins.ok in omega (arith, told, kept)) c.passes_limit.ensures
