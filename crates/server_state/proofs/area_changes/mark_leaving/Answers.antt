use Rattle.std.proofs.Common.{List, map}
use Rattle.area_map_rows.specs.Areas.{marked}
use Rattle.iofd_words.specs.declared.rows.Area.{Area}
use Rattle.server_state.proofs.AreasHeld.{rewritten}
use Rattle.server_state.proofs.area_changes.mark_leaving.Goals as goal

pub returns-in-Ok : goal.returns-in-Ok
returns-in-Ok g c = rewritten (λ (areas : List Area). map (marked c.args.span c.args.owed.now) areas) c.args.table.now
    c.args.file _ c.args.ioas c.in-Ok.held.now c.mark_held.new.held c.in-Ok.ensures.ok c.mark_held.ensures
