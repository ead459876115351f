use Rattle.std.proofs.Common.{◌&&◌, ◌==◌, None, Some}
use Rattle.journal_audit_world.proofs.RowByRow.{first_here, first_none, first_on}
use Rattle.journal_audit_world.proofs.frames.frame_at.Goals as goal

pub loop-other-preserved : goal.loop-other-preserved
loop-other-preserved c =
    first_on (λ o. elim o [ Some p ↦ Some p.frame | None ↦ None ])
    (λ p. p.user.0 == c.args.user.0 && p.page == c.args.page) c.args.pages.now c.loop-other.other-index _ _ _
    c.loop-other-test.true c.is_page_of.ensures c.if-is_page_of.false c.loop-other.invariant

pub returns-then-is_page_of : goal.returns-then-is_page_of
returns-then-is_page_of c =
    first_here (λ o. elim o [ Some p ↦ Some p.frame | None ↦ None ])
    (λ p. p.user.0 == c.args.user.0 && p.page == c.args.page) c.args.pages.now c.loop-other.other-index _ _ _
    c.loop-other-test.true c.is_page_of.ensures c.if-is_page_of.true c.loop-other.invariant

pub returns : goal.returns
returns c =
    first_none (λ o. elim o [ Some p ↦ Some p.frame | None ↦ None ])
    (λ p. p.user.0 == c.args.user.0 && p.page == c.args.page) c.args.pages.now c.loop-other.other-index _
    c.loop-other-test.false c.loop-other.invariant
