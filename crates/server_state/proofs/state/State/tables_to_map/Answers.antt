use Rattle.std.proofs.Common.{◌∙◌, arith}
use Rattle.server_state.proofs.TablesToMap.{known_few, known_needed, known_span}
use Rattle.server_state.specs.Leads.{leads_of}
use Rattle.server_state.proofs.state.State.tables_to_map.Goals as goal

pub needs-requires-clause-span : goal.needs-requires-clause-span
needs-requires-clause-span g c = known_span c.args.self.now c.requires.known c.args.file c.args.ioas c.args.span
    c.requires.pages c.requires.usable (omega (arith, c.well_formed))

pub needs-requires-clause-few : goal.needs-requires-clause-few
needs-requires-clause-few g c =
    known_few c.args.self.now c.requires.known c.args.file c.args.ioas c.args.span c.facts.ensures

pub returns : goal.returns
returns g c =
    c.needs.ensures c.requires.known.world.table_frames (leads_of c.requires.known.world)
    c.requires.known.shows.tables.stand
    ∙ known_needed c.args.self.now c.requires.known c.args.file c.args.ioas c.args.span
