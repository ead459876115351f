use Rattle.std.proofs.Common.{◌∙◌, ap}
use Rattle.pinned_pages.specs.Pages.{MemoryPages, are_present}
use Rattle.pinned_pages.proofs.pages.Pages.are_present.Goals as goal

pub returns : goal.returns
returns g c =
    c.has_pages.ensures ∙ ap (λ (v : MemoryPages). are_present v.pages c.args.users.now.pages) c.self.view_is
