use Rattle.std.proofs.Common.{◌∙◌, ap}
use Rattle.frame_memory.specs.UserPages.{UserPages, without_page}
use Rattle.frame_memory.proofs.Listed.{one_removed, rising_pages}
use Rattle.frame_memory.proofs.Rising.{less_by_frame, page_removed}
use Rattle.frame_memory.proofs.page_frames.PageFrames.remove.Goals as goal

pub returns-clause-pages : goal.returns-clause-pages
returns-clause-pages g c =
    one_removed c.self.inside.frames.entries c.remove.new.self.entries c.args.user c.args.page c.self.invariant
    c.remove.ensures.unique c.remove.ensures.updates.0
    ∙ ap (λ (v : UserPages). without_page v.pages c.args.user c.args.page) c.self.view_is

pub returns-clause-less : goal.returns-clause-less
returns-clause-less g c =
    rw (returns-clause-pages g c)
    (less_by_frame c.args.user c.args.page c.args.self.now.pages
    (without_page c.args.self.now.pages c.args.user c.args.page)
    (page_removed c.args.user c.args.page c.args.self.now.pages
    (rw (← c.self.view_is) (rising_pages c.self.inside.frames.entries c.self.invariant))))

pub returns-clause-rising : goal.returns-clause-rising
returns-clause-rising g c = rising_pages c.remove.new.self.entries c.remove.ensures.unique
