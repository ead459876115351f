use Rattle.std.proofs.Common.{◌∙◌, sym, ap}
use Rattle.pinned_pages.specs.Access.{AccessMap, row_at}
use Rattle.pinned_pages.proofs.AccessRows.{row_found}
use Rattle.pinned_pages.proofs.pin_rows.PinRows.get.Goals as goal

pub returns : goal.returns
returns g c =
    c.copied.ensures
    ∙ c.get.ensures.value
    ∙ sym (row_found c.self.inside.rows.entries c.args.index)
    ∙ ap (λ (v : AccessMap). row_at v.rows c.args.index) c.self.view_is
