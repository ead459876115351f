use Rattle.std.proofs.Common.{Some, sym, ap, ◌∙◌}
use Rattle.page_table_set.proofs.Walked.{found_ready, walked}
use Rattle.page_table_set.specs.PageTables.{Hwpt, PageTables, hwpt_of}
use Rattle.page_table_set.proofs.page_tables.PageTables.walk.Goals as goal

pub walk-requires : goal.walk-requires
walk-requires g c =
    found_ready c.args.pool.now c.args.self.now.tables c.args.file c.args.id (record {
      object = c.hwpt.inside.object;
      table = c.hwpt.inside.table;
    }) c.requires
    (ap (λ (p : PageTables). hwpt_of p.tables c.args.file c.args.id) (sym c.self.view_is)
    ∙ rw (c.deref.ensures.value) at (sym c.in-Some.ensures) ∙ ap (λ (h : Hwpt). Some h) (sym c.hwpt.view_is))

pub returns-in-Some : goal.returns-in-Some
returns-in-Some g c =
    walked c.args.pool.now c.args.self.now.tables c.args.file c.args.id (record {
      object = c.hwpt.inside.object;
      table = c.hwpt.inside.table;
    }) c.args.iova c.walk.result
    (ap (λ (p : PageTables). hwpt_of p.tables c.args.file c.args.id) (sym c.self.view_is)
    ∙ rw (c.deref.ensures.value) at (sym c.in-Some.ensures) ∙ ap (λ (h : Hwpt). Some h) (sym c.hwpt.view_is))
    c.walk.ensures
