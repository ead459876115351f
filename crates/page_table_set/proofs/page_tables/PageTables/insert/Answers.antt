use Rattle.std.proofs.Common.{◌∙◌, ap}
use Rattle.page_table_set.proofs.ByFile.{by_file-with}
use Rattle.page_table_set.proofs.Inserted.{inserted}
use Rattle.page_table_set.specs.PageTables.{PageTables, with_hwpt}
use Rattle.page_table_set.proofs.page_tables.PageTables.insert.Goals as goal

pub returns-clause-stand : goal.returns-clause-stand
returns-clause-stand g c =
    inserted c.args.pool.now c.new.new.pool c.args.self.now.tables c.insert.new.tables.items c.args.object c.args.width
    c.in-Ok.table c.new.result
    c.new.ensures.taken c.in-Ok.is c.in-Ok.ensures.table
    (c.insert.ensures.items
    ∙ ap (λ (p : PageTables). with_hwpt (record { object = c.args.object; table = c.in-Ok.table }) p.tables)
    c.self.view_is)

pub invariant_of-self : goal.invariant_of-self
invariant_of-self g c =
    rw c.insert.ensures.items (by_file-with (record { object = c.args.object; table = c.in-Ok.table })
    c.self.inside.tables.items c.self.invariant)
