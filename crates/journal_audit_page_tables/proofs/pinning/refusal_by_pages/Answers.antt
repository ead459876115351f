use Rattle.std.proofs.Common.{Some, None, arith, cond, ap, sym, ◌∙◌}
use Rattle.iofd_words.specs.World.{World}
use Rattle.iofd_words.specs.declared.refusal.Cause.TheVariants as cause
use Rattle.journal_audit_maps.proofs.AccessPinned.{match_some}
use Rattle.journal_audit_page_tables.proofs.PagesRefused.{limit_told}
use Rattle.journal_audit_page_tables.proofs.pinning.refusal_by_pages.Goals as goal

pub returns-then-passes_limit : goal.returns-then-passes_limit
returns-then-passes_limit g c =
    ap (λ b. cond b (Some cause.Account) None) (sym c.if-passes_limit.true)
    ∙ limit_told c.args.world.now c.args.file c.args.ioas _ c.in-Some.pins.items c.len.result c.has_hwpt.result
    c.passes_limit.result (c.deref.ensures.value ∙ ap (λ (x : World). x.objects) c.world.view_is) c.has_hwpt.ensures
    c.if-has_hwpt.false (match_some _ _ _ _ c.in-Some.is c.in_ok-pins.ensures)
    (let told = c.len.ensures in let kept = c.in-Some.pins.ok in omega (arith, told, kept)) c.passes_limit.ensures

pub returns : goal.returns
returns g c =
    ap (λ b. cond b (Some cause.Account) None) (sym c.if-passes_limit.false)
    ∙ limit_told c.args.world.now c.args.file c.args.ioas _ c.in-Some.pins.items c.len.result c.has_hwpt.result
    c.passes_limit.result (c.deref.ensures.value ∙ ap (λ (x : World). x.objects) c.world.view_is) c.has_hwpt.ensures
    c.if-has_hwpt.false (match_some _ _ _ _ c.in-Some.is c.in_ok-pins.ensures)
    (let told = c.len.ensures in let kept = c.in-Some.pins.ok in omega (arith, told, kept)) c.passes_limit.ensures
