use Rattle.std.proofs.Common.{◌==◌, refl}
use Rattle.std.proofs.lemmas.Bool.{eq-eqb, ne_eqb}
use Rattle.journal_audit_world.proofs.RowByRow.{any_here, any_none, any_on}
use Rattle.journal_audit_world.proofs.frames.has_page.Goals as goal

pub loop-page-preserved : goal.loop-page-preserved
loop-page-preserved c =
    any_on (λ p. p.frame.0 == c.args.frame) c.args.pages.now c.loop-page.page-index _ _ _ c.loop-page-test.true refl
    (ne_eqb _ _ c.if-page-frame.false) c.loop-page.invariant

pub returns-then-page-frame : goal.returns-then-page-frame
returns-then-page-frame c =
    any_here (λ p. p.frame.0 == c.args.frame) c.args.pages.now c.loop-page.page-index _ _ _ c.loop-page-test.true
    refl (eq-eqb _ _ c.if-page-frame.true) c.loop-page.invariant

pub returns : goal.returns
returns c =
    any_none (λ p. p.frame.0 == c.args.frame) c.args.pages.now c.loop-page.page-index _ c.loop-page-test.false
    c.loop-page.invariant
