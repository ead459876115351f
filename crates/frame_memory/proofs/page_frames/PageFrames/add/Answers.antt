use Rattle.std.proofs.Common.{◌∙◌, ap, sym}
use Rattle.iofd_words.specs.Frames.{frame_at}
use Rattle.frame_memory.specs.UserPages.{UserPages, count_below, user_page, with_page}
use Rattle.frame_memory.proofs.Listed.{frame_of_page, from_ok, not_found, one_added, rising_pages}
use Rattle.frame_memory.proofs.Rising.{one_more}
use Rattle.frame_memory.proofs.page_frames.PageFrames.add.Goals as goal

pub returns-clause-pages : goal.returns-clause-pages
returns-clause-pages g c =
    let es = c.self.inside.frames.entries in
    let at = λ (v : UserPages). frame_at v.pages c.args.user c.args.page in
    let absent =
    sym (frame_of_page es c.self.invariant c.args.user c.args.page) ∙ ap at c.self.view_is ∙ c.requires.absent in
    let room = rw (← c.self.view_is) at c.requires.room in
    let updated = from_ok c.insert.result _ (c.insert.ensures.succeeds room) c.insert.ensures.updates in
    one_added es c.insert.new.self.entries c.args.user c.args.page c.args.frame c.self.invariant
    c.insert.ensures.unique absent updated.0
    ∙ ap (λ (v : UserPages). with_page v.pages c.args.user c.args.page c.args.frame) c.self.view_is

pub returns-clause-more : goal.returns-clause-more
returns-clause-more g c =
    let rows = c.args.self.now.pages in
    let row = user_page c.args.user c.args.page c.args.frame in
    rw (returns-clause-pages g c) (one_more rows (count_below rows c.args.user c.args.page) row
    (not_found rows c.args.user c.args.page c.requires.absent))

pub returns-clause-rising : goal.returns-clause-rising
returns-clause-rising g c = rising_pages c.insert.new.self.entries c.insert.ensures.unique
