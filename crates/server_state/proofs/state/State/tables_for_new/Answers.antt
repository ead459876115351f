use Rattle.std.proofs.Common.{sym, ap, ◌∙◌}
use Rattle.std.specs.List.{list_all}
use Rattle.iofd_runs.specs.Fits.{begins_at_page, is_of_pages}
use Rattle.server_state.proofs.NewTables.{known_pages, known_starts, root_alone}
use Rattle.server_state.proofs.Objects.{no_space}
use Rattle.server_state.specs.Held.{areas_at}
use Rattle.server_state.proofs.state.State.tables_for_new.Goals as goal

pub tables_for-requires-clause-pages : goal.tables_for-requires-clause-pages
tables_for-requires-clause-pages g c = ap (list_all is_of_pages) (sym c.in-Some.ensures.1)
    ∙ known_pages c.args.self.now c.args.file c.args.ioas c.requires.known

pub tables_for-requires-clause-starts : goal.tables_for-requires-clause-starts
tables_for-requires-clause-starts g c = ap (list_all begins_at_page) (sym c.in-Some.ensures.1)
    ∙ known_starts c.args.self.now c.args.file c.args.ioas c.requires.known

pub returns-in-None : goal.returns-in-None
returns-in-None g c =
    root_alone c.args.width (areas_at c.args.self.now.objects.rows c.args.file c.args.ioas)
    (no_space c.args.self.now.objects.rows c.args.file c.args.ioas c.in-None.ensures)
