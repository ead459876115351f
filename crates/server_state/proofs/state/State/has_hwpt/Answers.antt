use Rattle.std.proofs.Common.{◌∙◌}
use Rattle.page_table_set.specs.PageTables.{objects_of}
use Rattle.server_state.proofs.PageTables.{has_hwpt_kept, tables_known}
use Rattle.server_state.specs.Held.{objects_in}
use Rattle.server_state.proofs.state.State.has_hwpt.Goals as goal

pub returns : goal.returns
returns g c = c.has_over.ensures
    ∙ has_hwpt_kept (objects_of c.args.self.now.page_tables) (objects_in c.args.self.now.objects)
    (tables_known c.args.self.now c.requires) c.args.file c.args.ioas
