use Rattle.journal_audit_page_tables.specs.PageSets.{frame_in}
use Rattle.journal_audit_page_tables.specs.Listed.{own_frame}
use Rattle.journal_audit_page_tables.proofs.ListedPages.{Lists}
use Rattle.journal_audit_page_tables.proofs.listing.list_pages.Given as goal

-- who lists the pages that are left has listed all
abbrev pub invariant-loop-index : goal.invariant-loop-index
invariant-loop-index g l =
    Lists (own_frame (frame_in l.frames) l.object) l.pinned.keys l.object l.index l.pins.items l.fn.pins.items
