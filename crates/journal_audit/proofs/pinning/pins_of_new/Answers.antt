use Rattle.iofd_words.specs.Frames.{frame_at}
use Rattle.iofd_words.specs.Pins.{pages_of}
use Rattle.journal_audit_page_tables.specs.Listed.{own_frame}
use Rattle.journal_audit.proofs.ListedPins.{absent_listed, new_listed, whole_listed}
use Rattle.journal_audit.proofs.pinning.pins_of_new.Goals as goal

pub returns-then-not-branch : goal.returns-then-not-branch
returns-then-not-branch g c =
    absent_listed (own_frame (frame_at c.args.user_pages.now) c.args.object) _ _ _ (pages_of c.args.object)
    c.if-not-branch.true
    (new_listed c.in_ok-frames.frames c.args.user_pages.now _ _ _ c.args.object _ _ _ c.new-pinned.ensures.empty
    c.new-found.ensures.items c.in_ok-rows.ensures c.deref.ensures.value c.in_ok-frames.ensures
    c.in_ok-list_pages.ensures)

pub returns : goal.returns
returns g c =
    whole_listed (own_frame (frame_at c.args.user_pages.now) c.args.object) _ _ _ (pages_of c.args.object)
    c.if-not-branch.false
    (new_listed c.in_ok-frames.frames c.args.user_pages.now _ _ _ c.args.object _ _ _ c.new-pinned.ensures.empty
    c.new-found.ensures.items c.in_ok-rows.ensures c.deref.ensures.value c.in_ok-frames.ensures
    c.in_ok-list_pages.ensures)
