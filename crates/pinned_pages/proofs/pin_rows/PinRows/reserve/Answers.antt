use Rattle.std.proofs.Common.{◌∙◌, ap}
use Rattle.pinned_pages.specs.Access.{AccessMap}
use Rattle.pinned_pages.proofs.AccessRows.{same_rows}
use Rattle.pinned_pages.proofs.pin_rows.PinRows.reserve.Goals as goal

pub returns-clause-rows : goal.returns-clause-rows
returns-clause-rows g c =
    same_rows c.self.inside.rows.entries c.reserve.new.self.entries c.reserve.ensures.entries.2
    ∙ ap (λ (v : AccessMap). v.rows) c.self.view_is
