use Rattle.std.proofs.Common.{sym, arith}
use Rattle.std.proofs.lemmas.Bool.Decides.{nat_tests}
use Rattle.area_map_rows.specs.Rows.{in_rows}
use Rattle.area_map_rows.proofs.Found.{at_none, at_some}
use Rattle.area_map_rows.proofs.lookups.at.Goals as goal

pub returns-in_err-area : goal.returns-in_err-area
returns-in_err-area g c = rw c.from_residual.ensures
    (sym (at_none c.args.iova (in_rows c.args.rows.now) c.requires.apart (sym c.in_err-area.ensures)))

pub returns-then-first-iova : goal.returns-then-first-iova
returns-then-first-iova g c =
    let is = at_some c.args.iova (in_rows c.args.rows.now) c.in_ok-area.area.now c.requires.apart
    (sym c.in_ok-area.ensures) in
    grind (arith, nat_tests)

pub returns-else-first-iova : goal.returns-else-first-iova
returns-else-first-iova g c =
    let is = at_some c.args.iova (in_rows c.args.rows.now) c.in_ok-area.area.now c.requires.apart
    (sym c.in_ok-area.ensures) in
    grind (arith, nat_tests)
