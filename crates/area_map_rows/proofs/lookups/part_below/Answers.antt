use Rattle.std.proofs.Common.{◌<◌, List, length, ap, arith}
use Rattle.std.proofs.lemmas.Bool.Decides.{nat_tests}
use Rattle.iofd_words.specs.declared.rows.Area.{Area}
use Rattle.area_map_rows.proofs.Parts.{areas_below}
use Rattle.area_map_rows.proofs.lookups.part_below.Goals as goal

pub returns-in-Some-clause-below : goal.returns-in-Some-clause-below
returns-in-Some-clause-below c = λ some.
    let areas : List Area = c.args.areas.now in
    let area : Area = c.in-Some.area.now in
    let lookup = c.in-Some.ensures.lookup in
    let within : c.args.place < length areas = grind (arith, nat_tests) in
    let ends : area.span.last < c.args.address = grind (arith, nat_tests) in
    let at = ap (λ (a : Area). a.span.last) lookup.1 in
    areas_below c.args.address 0 areas c.requires c.args.place area within (omega (arith, ends, at))
