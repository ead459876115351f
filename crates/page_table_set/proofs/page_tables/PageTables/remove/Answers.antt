use Rattle.std.proofs.Common.{Some, sym, ap, ◌∙◌}
use Rattle.page_table_set.proofs.ByFile.{by_file-without}
use Rattle.page_table_set.proofs.Gone.{can_release, gives_found, gives_none, releases_found, stand_found, stand_none}
use Rattle.page_table_set.specs.PageTables.{Hwpt, PageTables, hwpt_of}
use Rattle.page_table_set.specs.Removed.{without_hwpt}
use Rattle.page_table_set.proofs.page_tables.PageTables.remove.Goals as goal

pub release-requires : goal.release-requires
release-requires g c =
    can_release c.args.pool.now c.args.self.now.tables c.args.file c.args.id (record {
      object = c.hwpt.inside.object;
      table = c.hwpt.inside.table;
    })
    (ap (λ (p : PageTables). hwpt_of p.tables c.args.file c.args.id) (sym c.self.view_is) ∙ sym c.take.ensures.taken
    ∙ c.in-Some.is
    ∙ ap (λ (h : Hwpt). Some h) (sym c.hwpt.view_is))
    _ c.requires

pub returns-in_default-clause-stand : goal.returns-in_default-clause-stand
returns-in_default-clause-stand g c =
    stand_none c.args.pool.now c.args.self.now.tables c.args.file c.args.id
    (ap (λ (p : PageTables). hwpt_of p.tables c.args.file c.args.id) (sym c.self.view_is) ∙ sym c.take.ensures.taken
    ∙ c.in_default.is)
    c.take.new.tables.items
    (c.take.ensures.left ∙ ap (λ (p : PageTables). without_hwpt c.args.file c.args.id p.tables) c.self.view_is)

pub returns-in_default-clause-out : goal.returns-in_default-clause-out
returns-in_default-clause-out g c =
    gives_none c.args.pool.now c.args.self.now.tables c.args.file c.args.id
    (ap (λ (p : PageTables). hwpt_of p.tables c.args.file c.args.id) (sym c.self.view_is) ∙ sym c.take.ensures.taken
    ∙ c.in_default.is)
    c.args.out.now.items

pub returns-clause-stand : goal.returns-clause-stand
returns-clause-stand g c =
    stand_found c.args.pool.now c.args.self.now.tables c.args.file c.args.id (record {
      object = c.hwpt.inside.object;
      table = c.hwpt.inside.table;
    })
    (ap (λ (p : PageTables). hwpt_of p.tables c.args.file c.args.id) (sym c.self.view_is) ∙ sym c.take.ensures.taken
    ∙ c.in-Some.is
    ∙ ap (λ (h : Hwpt). Some h) (sym c.hwpt.view_is))
    c.release.new.pool c.take.new.tables.items
    (c.take.ensures.left ∙ ap (λ (p : PageTables). without_hwpt c.args.file c.args.id p.tables) c.self.view_is)
    c.release.ensures.pool

pub returns-clause-out : goal.returns-clause-out
returns-clause-out g c =
    gives_found c.args.pool.now c.args.self.now.tables c.args.file c.args.id (record {
      object = c.hwpt.inside.object;
      table = c.hwpt.inside.table;
    })
    (ap (λ (p : PageTables). hwpt_of p.tables c.args.file c.args.id) (sym c.self.view_is) ∙ sym c.take.ensures.taken
    ∙ c.in-Some.is
    ∙ ap (λ (h : Hwpt). Some h) (sym c.hwpt.view_is))
    c.args.out.now.items c.release.new.out.items c.release.ensures.out

pub returns-clause-pool : goal.returns-clause-pool
returns-clause-pool g c =
    releases_found c.args.pool.now c.args.self.now.tables c.args.file c.args.id (record {
      object = c.hwpt.inside.object;
      table = c.hwpt.inside.table;
    })
    (ap (λ (p : PageTables). hwpt_of p.tables c.args.file c.args.id) (sym c.self.view_is) ∙ sym c.take.ensures.taken
    ∙ c.in-Some.is
    ∙ ap (λ (h : Hwpt). Some h) (sym c.hwpt.view_is))
    c.release.new.pool c.release.ensures.pool

pub invariant_of-self : goal.invariant_of-self
invariant_of-self g c =
    rw c.take.ensures.left (by_file-without c.args.file c.args.id c.self.inside.tables.items c.self.invariant)

pub invariant_of-self-2 : goal.invariant_of-self-2
invariant_of-self-2 g c =
    rw c.take.ensures.left (by_file-without c.args.file c.args.id c.self.inside.tables.items c.self.invariant)
