use Rattle.std.proofs.Common.{◌<◌, ℕ, List, subst, sym, ◌∙◌}
use Rattle.std.proofs.lemmas.Result.{on_err_weaker, on_ok_weaker}
use Rattle.iofd_words.specs.declared.rows.Area.{Area}
use Rattle.server_state.proofs.AreasHeld.{rewritten, space_absent, space_found}
use Rattle.server_state.proofs.RoomHeld.{room_found, room_written}
use Rattle.server_state.proofs.area_changes.reserve.Goals as goal

pub returns-in-Ok-clause-areas : goal.returns-in-Ok-clause-areas
returns-in-Ok-clause-areas g c = λ orderly.
    rewritten (λ (areas : List Area). areas) c.args.table.now c.args.file _ c.args.ioas c.in-Ok.held.now
    c.reserve_held.new.held c.in-Ok.ensures.ok c.reserve_held.ensures.areas orderly

pub returns-in-Ok-clause-ok : goal.returns-in-Ok-clause-ok
returns-in-Ok-clause-ok g c =
    on_ok_weaker c.reserve_held.result
    (λ room orderly has.
    let space : (n : ℕ) → Type 0 = λ n. 0 < n in
    subst space (sym (room_written c.args.table.now c.args.file _ c.args.ioas c.in-Ok.held.now c.reserve_held.new.held
    orderly c.in-Ok.ensures.ok))
    (room (space_found c.args.table.now c.args.file _ c.args.ioas c.in-Ok.held.now orderly c.in-Ok.ensures.ok has)))
    c.reserve_held.ensures.ok

pub returns-in-Err-clause-ok : goal.returns-in-Err-clause-ok
returns-in-Err-clause-ok g c =
    λ orderly has. absurd (space_absent c.args.table.now c.args.file c.args.ioas c.in-Err.ensures.refused.0 has)

pub returns-in-Ok-clause-full : goal.returns-in-Ok-clause-full
returns-in-Ok-clause-full g c =
    on_err_weaker c.reserve_held.result
    (λ none orderly. room_found c.args.table.now c.args.file _ c.args.ioas c.in-Ok.held.now orderly c.in-Ok.ensures.ok
    ∙ none)
    c.reserve_held.ensures.full
