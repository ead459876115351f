use Rattle.journal_audit_page_tables.proofs.Indexed.{row_added}
use Rattle.journal_audit_page_tables.proofs.page_sets.frames_by_page.Goals as goal

pub loop-page-preserved : goal.loop-page-preserved
loop-page-preserved g c =
    row_added c.args.pages.now c.loop-page.index c.add.new.index c.loop-page.page-index _ c.loop-page-test.true
    c.in_ok-add.ensures c.loop-page.invariant
