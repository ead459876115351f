use Rattle.journal_audit_tables.specs.Numbers.{has_number}
use Rattle.journal_audit_world.proofs.RowByRow.{any_here, any_none, any_on}
use Rattle.journal_audit_tables.proofs.frames.have_page.Goals as goal

pub loop-page-preserved : goal.loop-page-preserved
loop-page-preserved g c =
    any_on (λ page. has_number c.args.set.now.keys page.frame.0) c.args.pages.now c.loop-page.page-index _ _ _
    c.loop-page-test.true c.has.ensures c.if-has.false c.loop-page.invariant

pub returns-then-has : goal.returns-then-has
returns-then-has g c =
    any_here (λ page. has_number c.args.set.now.keys page.frame.0) c.args.pages.now c.loop-page.page-index _ _ _
    c.loop-page-test.true c.has.ensures c.if-has.true c.loop-page.invariant

pub returns : goal.returns
returns g c =
    any_none (λ page. has_number c.args.set.now.keys page.frame.0) c.args.pages.now c.loop-page.page-index _
    c.loop-page-test.false c.loop-page.invariant
