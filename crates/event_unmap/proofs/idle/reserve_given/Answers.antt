use Rattle.std.proofs.Common.{arith}
use Rattle.server_state.proofs.Errors.{on_err_same}
use Rattle.event_unmap.proofs.idle.reserve_given.Goals as goal

pub returns-clause-room : goal.returns-clause-room
returns-clause-room g c = λ translated waits frames leads stand needed.
    let count = c.count_idle-count.ensures frames leads stand needed in
    let room = c.in_ok-reserve.ensures.ok in
    omega (arith, count, room)

-- a growth fails only where more places are wanted than there are
pub returns-in_err-reserve-clause-lacking : goal.returns-in_err-reserve-clause-lacking
returns-in_err-reserve-clause-lacking g c =
    on_err_same c.from_residual.result _ (λ frames leads stand needed.
    let count = c.count_idle-count.ensures frames leads stand needed in
    let full = c.in_err-reserve.ensures.full in
    omega (arith, count, full))
