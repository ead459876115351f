use Rattle.std.proofs.Common.{Some, None, cond, ap, sym, ◌∙◌}
use Rattle.iofd_words.specs.declared.refusal.Cause.TheVariants as cause
use Rattle.journal_audit.proofs.PageRows.{map_absent, map_told}
use Rattle.journal_audit.proofs.map.refusal_by_pages.Goals as goal

pub returns-then-is_none : goal.returns-then-is_none
returns-then-is_none g c =
    map_absent _ c.args.world.now c.args.file c.args.request c.in-Some.user _ c.args.at _ _ c.has_hwpt.result
    c.world.view_is c.deref.ensures.value c.deref-2.ensures.value c.has_hwpt.ensures c.if-not-has_hwpt.false
    (sym c.user_of.ensures ∙ c.in-Some.is) c.object_of-object.ensures _ _ _ c.is_none.ensures c.if-is_none.true
    c.in_ok-pins.ensures

pub returns-then-passes_limit : goal.returns-then-passes_limit
returns-then-passes_limit g c =
    ap (λ b. cond b (Some cause.Account) None) (sym c.if-passes_limit.true)
    ∙ map_told _ c.args.world.now c.args.file c.args.request c.in-Some.user _ c.args.at _ _ c.has_hwpt.result
    c.world.view_is c.deref.ensures.value c.deref-2.ensures.value c.has_hwpt.ensures c.if-not-has_hwpt.false
    (sym c.user_of.ensures ∙ c.in-Some.is) c.object_of-object.ensures c.in_ok-pins.pins (λ x. x.items) _ _
    c.is_none.ensures c.if-is_none.false c.in_ok-pins.ensures c.passes_limit.ensures

pub returns : goal.returns
returns g c =
    ap (λ b. cond b (Some cause.Account) None) (sym c.if-passes_limit.false)
    ∙ map_told _ c.args.world.now c.args.file c.args.request c.in-Some.user _ c.args.at _ _ c.has_hwpt.result
    c.world.view_is c.deref.ensures.value c.deref-2.ensures.value c.has_hwpt.ensures c.if-not-has_hwpt.false
    (sym c.user_of.ensures ∙ c.in-Some.is) c.object_of-object.ensures c.in_ok-pins.pins (λ x. x.items) _ _
    c.is_none.ensures c.if-is_none.false c.in_ok-pins.ensures c.passes_limit.ensures
