use Rattle.std.proofs.Common.{◌∙◌, ap}
use Rattle.iofd_words.specs.Objects.{has_hwpt}
use Rattle.page_table_set.proofs.Objects.{has_over_rows}
use Rattle.page_table_set.specs.PageTables.{PageTables, objects_of}
use Rattle.page_table_set.proofs.page_tables.PageTables.has_over.Goals as goal

pub returns : goal.returns
returns g c =
    rw (c.has_over.ensures, c.deref.ensures.value)
    (has_over_rows c.self.inside.tables.items c.args.file c.args.ioas
    ∙ ap (λ (p : PageTables). has_hwpt (objects_of p) c.args.file c.args.ioas) c.self.view_is)
