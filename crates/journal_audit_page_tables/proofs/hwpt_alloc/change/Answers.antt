use Rattle.journal_audit_page_tables.proofs.Attached.{alloc_fresh, alloc_present}
use Rattle.journal_audit_page_tables.proofs.hwpt_alloc.change.Goals as goal

pub add_page_table-requires-clause-present : goal.add_page_table-requires-clause-present
add_page_table-requires-clause-present g c =
    alloc_present c.args.world.now c.args.file c.args.request c.requires.granted

pub add_page_table-requires-clause-fresh : goal.add_page_table-requires-clause-fresh
add_page_table-requires-clause-fresh g c =
    alloc_fresh _ c.args.world.now c.args.file c.args.request c.args.reply c.in-Id.id c.requires.answered c.in-Id.is
