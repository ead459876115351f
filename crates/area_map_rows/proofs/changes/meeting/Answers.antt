use Rattle.std.proofs.Common.{arith}
use Rattle.area_map_rows.proofs.changes.meeting.Goals as goal

pub rows_below-from-requires-clause-apart : goal.rows_below-from-requires-clause-apart
rows_below-from-requires-clause-apart g c = c.requires.apart

pub rows_below-from-requires-clause-rows : goal.rows_below-from-requires-clause-rows
rows_below-from-requires-clause-rows g c = c.requires.rows

pub rows_reaching-to-requires-clause-apart : goal.rows_reaching-to-requires-clause-apart
rows_reaching-to-requires-clause-apart g c = c.requires.apart

pub rows_reaching-to-requires-clause-rows : goal.rows_reaching-to-requires-clause-rows
rows_reaching-to-requires-clause-rows g c = c.requires.rows

pub returns-clause-from : goal.returns-clause-from
returns-clause-from g c =
    let value = rw c.first.ensures.value at c.rows_below-from.ensures.value in
    omega (arith, value, c.min.ensures)

pub returns-clause-to : goal.returns-clause-to
returns-clause-to g c = rw c.last.ensures.value at c.rows_reaching-to.ensures.reach

pub returns-clause-order : goal.returns-clause-order
returns-clause-order g c = omega (arith, c.min.ensures)

pub returns-clause-bound : goal.returns-clause-bound
returns-clause-bound g c = c.rows_reaching-to.ensures.bound
