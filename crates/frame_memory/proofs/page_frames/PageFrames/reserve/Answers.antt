use Rattle.std.proofs.Common.{◌∙◌, ap}
use Rattle.frame_memory.specs.UserPages.{UserPages}
use Rattle.frame_memory.proofs.Listed.{same_map}
use Rattle.frame_memory.proofs.page_frames.PageFrames.reserve.Goals as goal

pub returns-clause-pages : goal.returns-clause-pages
returns-clause-pages g c =
    same_map c.self.inside.frames.entries c.reserve.new.self.entries c.self.invariant c.reserve.ensures.unique
    c.reserve.ensures.entries.2
    ∙ ap (λ (v : UserPages). v.pages) c.self.view_is
