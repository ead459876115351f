use Rattle.std.proofs.Common.{None, sym, arith}
use Rattle.area_map_rows.specs.Rows.{in_rows}
use Rattle.area_map_rows.proofs.Found.{cut_first}
use Rattle.area_map_rows.proofs.lookups.cuts.Goals as goal

pub returns-in-None : goal.returns-in-None
returns-in-None g c =
    let found = rw c.first.ensures.value at (sym c.in-None.ensures) in
    sym (cut_first c.args.span (in_rows c.args.rows.now) None c.requires.apart (omega arith) found)
