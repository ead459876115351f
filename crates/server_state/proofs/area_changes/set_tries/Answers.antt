use Rattle.std.proofs.Common.{List, map}
use Rattle.area_map_rows.specs.Areas.{tried}
use Rattle.iofd_words.specs.declared.rows.Area.{Area}
use Rattle.server_state.proofs.AreasHeld.{rewritten}
use Rattle.server_state.proofs.area_changes.set_tries.Goals as goal

pub returns-in-Ok : goal.returns-in-Ok
returns-in-Ok g c = rewritten (λ (areas : List Area). map (tried c.args.span c.args.tries) areas) c.args.table.now
    c.args.file _ c.args.ioas c.in-Ok.held.now c.set_tries_held.new.held c.in-Ok.ensures.ok c.set_tries_held.ensures
