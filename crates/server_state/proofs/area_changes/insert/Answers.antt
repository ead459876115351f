use Rattle.std.proofs.Common.{◌<◌, ℕ, subst}
use Rattle.area_map_rows.specs.Areas.{with_area}
use Rattle.server_state.proofs.AreasHeld.{areas_found, rewritten, space_absent, space_found}
use Rattle.server_state.proofs.RoomHeld.{room_found}
use Rattle.server_state.proofs.area_changes.insert.Goals as goal

pub returns-in-Ok : goal.returns-in-Ok
returns-in-Ok g c = λ orderly has free room.
    let found = c.in-Ok.ensures.ok in
    let space : (n : ℕ) → Type 0 = λ n. 0 < n in
    rewritten (with_area c.args.area) c.args.table.now c.args.file _ c.args.ioas c.in-Ok.held.now
    c.insert_held.new.held found
    (c.insert_held.ensures (space_found c.args.table.now c.args.file _ c.args.ioas c.in-Ok.held.now orderly found has)
    (rw (areas_found c.args.table.now c.args.file _ c.args.ioas c.in-Ok.held.now orderly found) at free)
    (subst space (room_found c.args.table.now c.args.file _ c.args.ioas c.in-Ok.held.now orderly found) room))
    orderly

pub returns-in-Err : goal.returns-in-Err
returns-in-Err g c = λ orderly has free room. absurd
    (space_absent c.args.table.now c.args.file c.args.ioas c.in-Err.ensures.refused.0 has)
