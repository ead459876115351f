use Rattle.std.proofs.Common.{◌∙◌, ap}
use Rattle.std.specs.Option.{option_map}
use Rattle.iofd_words.specs.declared.rows.Object.{Object}
use Rattle.page_table_set.specs.PageTables.{objects_of}
use Rattle.server_state.proofs.PageTables.{automatic_kept, tables_known}
use Rattle.server_state.specs.Held.{objects_in}
use Rattle.server_state.proofs.state.State.automatic_hwpt.Goals as goal

pub returns : goal.returns
returns g c = c.automatic_over.ensures
    ∙ ap (option_map (λ (object : Object). object.id))
    (automatic_kept (objects_of c.args.self.now.page_tables) (objects_in c.args.self.now.objects)
    (tables_known c.args.self.now c.requires) c.args.file c.args.ioas c.args.width)
