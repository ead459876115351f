use Rattle.std.proofs.Common.{◌∙◌, sym, ap, length}
use Rattle.frame_memory.specs.UserPages.{UserPages}
use Rattle.frame_memory.proofs.Listed.{length_pages}
use Rattle.frame_memory.proofs.page_frames.PageFrames.len.Goals as goal

pub returns : goal.returns
returns g c =
    c.len.ensures.len ∙ sym (length_pages c.self.inside.frames.entries)
    ∙ ap (λ (v : UserPages). length v.pages) c.self.view_is
