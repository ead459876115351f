use Rattle.std.proofs.Common.{◌∙◌, sym, ap}
use Rattle.iofd_words.specs.Frames.{frame_at}
use Rattle.frame_memory.specs.UserPages.{UserPages}
use Rattle.frame_memory.proofs.Listed.{frame_of_page}
use Rattle.frame_memory.proofs.page_frames.PageFrames.get.Goals as goal

pub returns : goal.returns
returns g c =
    c.copied.ensures
    ∙ c.get.ensures.value
    ∙ sym (frame_of_page c.self.inside.frames.entries c.self.invariant c.args.user c.args.page)
    ∙ ap (λ (v : UserPages). frame_at v.pages c.args.user c.args.page) c.self.view_is
