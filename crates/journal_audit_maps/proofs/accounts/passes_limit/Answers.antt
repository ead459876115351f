use Rattle.std.proofs.Common.{ℕ, ◌+◌, ltb, refl, sym, ap, ◌∙◌, arith}
use Rattle.journal_audit_maps.proofs.HeldBy.{limit_kept, limit_passed}
use Rattle.journal_audit_maps.proofs.accounts.passes_limit.Goals as goal

pub returns-then-len-count : goal.returns-then-len-count
returns-then-len-count g c =
    let few = c.if-len-count.true in
    let whole = c.from.ensures in
    limit_kept c.args.at _ c.args.world.now c.args.file c.args.count c.in-Some.user c.in-Some-limit_of.limit
    c.len.result c.world.inside.pins.items c.world.view_is c.requires.kept.pins (sym c.user_of.ensures ∙ c.in-Some.is)
    (sym c.limit_of.ensures ∙ c.in-Some-limit_of.is)
    (let told = c.len.ensures in let kept = c.world.inside.pins.ok in omega (arith, told, kept)) refl (omega (arith, few, whole))

pub returns : goal.returns
returns g c =
    limit_passed c.args.at _ c.args.world.now c.args.file c.args.count c.in-Some.user c.in-Some-limit_of.limit
    c.count_of-held.result _ _ _ c.world.view_is c.requires.kept.pins (sym c.user_of.ensures ∙ c.in-Some.is)
    (sym c.limit_of.ensures ∙ c.in-Some-limit_of.is) c.deref.ensures.value c.deref-2.ensures.value
    c.count_of-held.ensures (ap (λ (n : ℕ). ltb n (c.count_of-held.result + c.args.count)) c.from-2.ensures)
