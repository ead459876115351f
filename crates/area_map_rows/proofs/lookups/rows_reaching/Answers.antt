use Rattle.std.proofs.Common.{◌≡◌, ◌∙◌, ◌<◌, false, ltb, List, length, sym, ap, arith}
use Rattle.std.proofs.lemmas.Bool.Decides.{nat_tests}
use Rattle.iofd_words.specs.declared.rows.Area.{Area}
use Rattle.area_map_rows.specs.Rows.{end_of}
use Rattle.area_map_rows.proofs.Rows.{prefix_len-below}
use Rattle.area_map_rows.proofs.lookups.rows_reaching.Goals as goal

pub returns-in-Some-clause-reach : goal.returns-in-Some-clause-reach
returns-in-Some-clause-reach g c =
    let rows : List (List Area) = c.args.rows.now in
    let row : List Area = c.in-Some.row.now in
    let fails = λ (r : List Area). ltb (end_of r) c.args.address in
    let lookup = c.in-Some.ensures.lookup in
    let within : c.args.place < length rows = grind (arith, nat_tests) in
    let stops : fails row ≡ false = grind (arith, nat_tests) in
    let below = prefix_len-below fails rows c.args.place row (ap fails (sym lookup.1) ∙ stops) in
    omega (arith, below)
