use Rattle.std.proofs.Common.{sym}
use Rattle.area_map_rows.specs.Rows.{in_rows}
use Rattle.area_map_rows.proofs.Found.{exact_none, exact_some}
use Rattle.area_map_rows.proofs.lookups.exact.Goals as goal

pub returns-in_err-area : goal.returns-in_err-area
returns-in_err-area g c =
    rw c.from_residual.ensures (sym (exact_none c.args.span (in_rows c.args.rows.now) c.requires.apart
    (rw c.first.ensures.value at (sym c.in_err-area.ensures))))

pub returns-then-eq : goal.returns-then-eq
returns-then-eq g c =
    let is = exact_some c.args.span (in_rows c.args.rows.now) c.in_ok-area.area.now c.requires.apart
    (rw c.first.ensures.value at (sym c.in_ok-area.ensures)) in
    sym (rw (← c.if-eq.ensures) at is)

pub returns-else-eq : goal.returns-else-eq
returns-else-eq g c =
    let is = exact_some c.args.span (in_rows c.args.rows.now) c.in_ok-area.area.now c.requires.apart
    (rw c.first.ensures.value at (sym c.in_ok-area.ensures)) in
    sym (rw (← c.if-eq.ensures) at is)
