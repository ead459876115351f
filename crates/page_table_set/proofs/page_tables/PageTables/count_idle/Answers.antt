use Rattle.std.proofs.Common.{◌≡◌, ap, ◌∙◌}
use Rattle.page_table_set.specs.PageTables.{PageTables}
use Rattle.page_table_set.proofs.page_tables.PageTables.count_idle.Goals as goal

pub returns : goal.returns
returns g c =
    let same : c.deref.result.now ≡ c.args.self.now.tables =
    c.deref.ensures.value ∙ ap (λ (p : PageTables). p.tables) c.self.view_is in
    rw same at c.count.ensures
