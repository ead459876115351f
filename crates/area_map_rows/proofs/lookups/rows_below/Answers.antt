use Rattle.std.proofs.Common.{ltb, List}
use Rattle.std.proofs.lemmas.List.{take_rest}
use Rattle.iofd_words.specs.declared.rows.Area.{Area}
use Rattle.area_map_rows.specs.Rows.{end_of}
use Rattle.area_map_rows.proofs.Rows.{prefix_len-behind}
use Rattle.area_map_rows.proofs.lookups.rows_below.Goals as goal

pub returns-clause-value : goal.returns-clause-value
returns-clause-value g c =
    let place = c.rows_passed-place in
    rw (c.first_rows_below.ensures.value, take_rest c.args.rows.now place.result)
    (prefix_len-behind (λ (row : List Area). ltb (end_of row) c.args.address) c.args.rows.now
    place.result place.ensures.below)
