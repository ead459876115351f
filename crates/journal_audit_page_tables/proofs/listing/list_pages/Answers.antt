use Rattle.journal_audit_page_tables.specs.PageSets.{frame_in}
use Rattle.journal_audit_page_tables.specs.Listed.{own_frame}
use Rattle.journal_audit_page_tables.proofs.ListedPages.{page_absent, page_listed, pages_end}
use Rattle.journal_audit_page_tables.proofs.listing.list_pages.Goals as goal

pub loop-index-preserved : goal.loop-index-preserved
loop-index-preserved g c =
    page_listed (own_frame (frame_in c.args.frames.now) c.args.object) c.args.pinned.now.keys c.args.object
    c.loop-index.index c.frame_in-frame.result _ _ _ c.in_ok-list_page.field-0 c.is_pinned-is_pinned.result
    c.loop-index-test.true c.is_pinned-is_pinned.ensures c.frame_in-frame.ensures c.in_ok-list_page.ensures
    c.if-not-branch.false c.loop-index.invariant

pub returns-then-not-branch : goal.returns-then-not-branch
returns-then-not-branch g c =
    page_absent (own_frame (frame_in c.args.frames.now) c.args.object) c.args.pinned.now.keys c.args.object
    c.loop-index.index c.frame_in-frame.result _ _ _ c.in_ok-list_page.field-0 c.is_pinned-is_pinned.result
    c.loop-index-test.true c.is_pinned-is_pinned.ensures c.frame_in-frame.ensures c.in_ok-list_page.ensures
    c.if-not-branch.true c.loop-index.invariant

pub returns : goal.returns
returns g c =
    pages_end (own_frame (frame_in c.args.frames.now) c.args.object) c.args.pinned.now.keys c.args.object
    c.loop-index.index _ _ c.loop-index-test.false c.loop-index.invariant
