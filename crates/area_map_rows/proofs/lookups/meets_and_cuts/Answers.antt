use Rattle.std.proofs.Common.{None, sym, arith}
use Rattle.area_map_rows.specs.Rows.{in_rows}
use Rattle.area_map_rows.proofs.Found.{cut_first, meets_none, meets_some}
use Rattle.area_map_rows.proofs.lookups.meets_and_cuts.Goals as goal

pub returns-in-Some-clause-meets : goal.returns-in-Some-clause-meets
returns-in-Some-clause-meets g c =
    let is = meets_some c.args.span (in_rows c.args.rows.now) c.in-Some.area.now c.requires.apart
    (rw c.first.ensures.value at (sym c.in-Some.ensures)) in
    rw (c.first-in-Some.ensures.value, c.last.ensures.value) (sym is)

pub returns-in-None-clause-meets : goal.returns-in-None-clause-meets
returns-in-None-clause-meets g c = sym (meets_none c.args.span (in_rows c.args.rows.now) c.requires.apart
    (rw c.first.ensures.value at (sym c.in-None.ensures)))

pub returns-in-None-clause-cuts : goal.returns-in-None-clause-cuts
returns-in-None-clause-cuts g c =
    let found = rw c.first.ensures.value at (sym c.in-None.ensures) in
    sym (cut_first c.args.span (in_rows c.args.rows.now) None c.requires.apart (omega arith) found)
