use Rattle.std.proofs.Common.{◌<◌, List, ap, arith, ltb}
use Rattle.std.proofs.lemmas.Bool.Decides.{nat_tests}
use Rattle.iofd_words.specs.declared.rows.Area.{Area}
use Rattle.area_map_rows.specs.Rows.{end_of}
use Rattle.area_map_rows.proofs.Rows.{rows-below}
use Rattle.area_map_rows.proofs.Numbers.{one_at_most}
use native.Mathlib.Nat.{le_of_lt}
use Rattle.area_map_rows.proofs.search.ends_below.Goals as goal

pub returns-clause-below : goal.returns-clause-below
returns-clause-below g c = λ some.
    let rows : List (List Area) = c.args.rows.now in
    let row : List Area = c.index-rows-place.result in
    let ends : end_of row < c.args.address = grind (arith, nat_tests) in
    let at = ap end_of c.index-rows-place.is in
    rows-below c.args.address 0 rows c.requires.rows c.requires.apart c.args.place row c.requires.bound
    (omega (arith, at, ends))

pub returns-clause-most : goal.returns-clause-most
returns-clause-most g c = rw c.from.ensures (one_at_most (ltb c.end.result c.args.address))

pub offset_bounds-rows-place : goal.offset_bounds-rows-place
offset_bounds-rows-place g c = le_of_lt c.requires.bound

pub bounds-rows-place : goal.bounds-rows-place
bounds-rows-place g c = c.requires.bound
