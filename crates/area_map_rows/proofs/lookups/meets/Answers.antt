use Rattle.std.specs.List.{prefix_len}
use Rattle.std.proofs.Common.{◌∙◌, ltb, List, ap}
use Rattle.iofd_words.specs.declared.rows.Area.{Area}
use Rattle.area_map_rows.specs.Rows.{end_of}
use Rattle.area_map_rows.proofs.lookups.meets.Goals as goal

pub rows_below-requires-clause-apart : goal.rows_below-requires-clause-apart
rows_below-requires-clause-apart g c = c.requires.apart

pub rows_below-requires-clause-rows : goal.rows_below-requires-clause-rows
rows_below-requires-clause-rows g c = c.requires.rows

pub meets_behind-requires-clause-apart : goal.meets_behind-requires-clause-apart
meets_behind-requires-clause-apart g c = c.requires.apart

pub meets_behind-requires-clause-rows : goal.meets_behind-requires-clause-rows
meets_behind-requires-clause-rows g c = c.requires.rows

pub meets_behind-requires-clause-below : goal.meets_behind-requires-clause-below
meets_behind-requires-clause-below g c =
    c.rows_below.ensures.value
    ∙ ap (λ address. prefix_len (λ (row : List Area). ltb (end_of row) address) c.args.rows.now) c.first.ensures.value

pub meets_behind-requires-clause-bound : goal.meets_behind-requires-clause-bound
meets_behind-requires-clause-bound g c = c.rows_below.ensures.bound

pub returns : goal.returns
returns g c = c.meets_behind.ensures
