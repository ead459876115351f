use Rattle.area_map_rows.specs.Areas.{areas_outside}
use Rattle.server_state.proofs.AreasHeld.{rewritten}
use Rattle.server_state.proofs.area_changes.remove.Goals as goal

pub returns-in-Ok : goal.returns-in-Ok
returns-in-Ok g c = rewritten (areas_outside c.args.span) c.args.table.now c.args.file _ c.args.ioas c.in-Ok.held.now
    c.remove_held.new.held c.in-Ok.ensures.ok c.remove_held.ensures
