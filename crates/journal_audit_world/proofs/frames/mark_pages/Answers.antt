use Rattle.std.proofs.Common.{arith}
use Rattle.iofd_words.specs.declared.rows.UserPage.{UserPage}
use Rattle.journal_audit_world.proofs.Marks.{goes_on, is_done}
use Rattle.journal_audit_world.proofs.frames.mark_pages.Goals as goal

pub loop-page-preserved : goal.loop-page-preserved
loop-page-preserved c =
    λ f within. goes_on (λ (row : UserPage). row.frame.0) c.loop-page.reached c.mark.new.reached c.args.pages.now
    c.loop-page.page-index _ f _ c.loop-page-test.true (c.mark.ensures f (omega (arith, within)))
    (c.loop-page.invariant f within)

pub returns : goal.returns
returns c =
    λ f within. is_done (λ (row : UserPage). row.frame.0) c.loop-page.reached c.args.pages.now
    c.loop-page.page-index f _ c.loop-page-test.false (c.loop-page.invariant f within)
