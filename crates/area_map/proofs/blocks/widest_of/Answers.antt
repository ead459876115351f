use Rattle.std.proofs.Common.{ℕ, sym, ap, arith}
use Rattle.area_map_rows.specs.Rows.{in_rows, widest_behind}
use Rattle.area_map.proofs.RowsInBlocks.{widest_of-none, widest_of-rows}
use Rattle.area_map.proofs.blocks.widest_of.Goals as goal

pub returns-in-Some : goal.returns-in-Some
returns-in-Some g c =
    let all =
    widest_of-rows c.args.rows.now c.in-Some.row.now c.in-Some.others.now c.requires c.in-Some.ensures.cases.0 in
    let behind = ap (λ (n : ℕ). widest_behind n (in_rows c.in-Some.others.now)) c.end.ensures in
    omega (arith, all, behind, c.max.ensures, c.widest.ensures, c.widest_behind.ensures)

pub returns-in-None : goal.returns-in-None
returns-in-None g c =
    sym (widest_of-none c.args.rows.now c.in-None.ensures.cases)
