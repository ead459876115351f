use Rattle.std.proofs.Common.{◌≡◌, ◌||◌, drop, is_some}
use Rattle.iofd_words.specs.Pins.{ObjectPage, pinned_frame}
use Rattle.journal_audit_world.specs.Keys.{has_pair}
use Rattle.journal_audit_page_tables.proofs.Indexed.{is_pinned_in}
use Rattle.journal_audit_page_tables.proofs.page_sets.pinned_pages.Given as goal

abbrev pub invariant-loop-pin : goal.invariant-loop-pin
invariant-loop-pin g l = (page : ObjectPage)
    → (has_pair l.set.keys page.memory page.index || is_pinned_in (drop l.pin-index l.pins) page)
    ≡ is_some (pinned_frame l.pins page)
