use Rattle.journal_audit_tables.proofs.Adding.{page_added, pages_end}
use Rattle.journal_audit_tables.proofs.gathered.Gathered.add_pages.Goals as goal

pub loop-index-preserved : goal.loop-index-preserved
loop-index-preserved g c =
    page_added c.args.level c.args.first c.args.count c.loop-index.index _ _ _ _ c.loop-index-test.true
    c.in_ok-add_page.ensures c.loop-index.invariant

pub returns : goal.returns
returns g c =
    pages_end c.args.level c.args.first c.args.count c.loop-index.index _ _ _ c.loop-index-test.false
    c.loop-index.invariant
