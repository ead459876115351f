use Rattle.journal_audit_page_tables.specs.PageSets.{frame_in}
use Rattle.journal_audit_page_tables.proofs.ListedObjects.{ListsLeft}
use Rattle.journal_audit_page_tables.proofs.pinning.list_objects.Given as goal

-- who lists the pages of the memory objects that are left has listed all
abbrev pub invariant-loop-object : goal.invariant-loop-object
invariant-loop-object g l =
    ListsLeft (frame_in l.frames) l.numbers l.pinned.keys l.memory l.object-index l.pins.items
