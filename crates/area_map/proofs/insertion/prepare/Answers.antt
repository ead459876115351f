use Rattle.std.proofs.Common.{refl}
use Rattle.std.proofs.lemmas.Result.{on_ok_weaker}
use Rattle.area_map.proofs.insertion.prepare.Goals as goal

pub reserve-requires-clause-spare : goal.reserve-requires-clause-spare
reserve-requires-clause-spare g c = c.requires.spare

pub reserve-requires-clause-blocks : goal.reserve-requires-clause-blocks
reserve-requires-clause-blocks g c = c.requires.blocks

pub reserve-requires-clause-places : goal.reserve-requires-clause-places
reserve-requires-clause-places g c = c.requires.places

pub returns-then-takes_row-clause-rows : goal.returns-then-takes_row-clause-rows
returns-then-takes_row-clause-rows g c = c.reserve.ensures.rows

pub returns-then-takes_row-clause-spare : goal.returns-then-takes_row-clause-spare
returns-then-takes_row-clause-spare g c = c.reserve.ensures.spare

pub returns-then-takes_row-clause-blocks : goal.returns-then-takes_row-clause-blocks
returns-then-takes_row-clause-blocks g c = c.reserve.ensures.blocks

pub returns-then-takes_row-clause-places : goal.returns-then-takes_row-clause-places
returns-then-takes_row-clause-places g c = c.reserve.ensures.places

pub returns-then-takes_row-clause-ok : goal.returns-then-takes_row-clause-ok
returns-then-takes_row-clause-ok g c = on_ok_weaker c.reserve.result (λ some is. some) c.reserve.ensures.ok

pub returns-then-takes_row-clause-err : goal.returns-then-takes_row-clause-err
returns-then-takes_row-clause-err g c = c.reserve.ensures.err

pub returns-then-takes_row-clause-unchanged : goal.returns-then-takes_row-clause-unchanged
returns-then-takes_row-clause-unchanged g c = c.reserve.ensures.unchanged

pub returns-else-takes_row-clause-rows : goal.returns-else-takes_row-clause-rows
returns-else-takes_row-clause-rows g c = refl

pub returns-else-takes_row-clause-spare : goal.returns-else-takes_row-clause-spare
returns-else-takes_row-clause-spare g c = c.requires.spare

pub returns-else-takes_row-clause-blocks : goal.returns-else-takes_row-clause-blocks
returns-else-takes_row-clause-blocks g c = c.requires.blocks

pub returns-else-takes_row-clause-places : goal.returns-else-takes_row-clause-places
returns-else-takes_row-clause-places g c = c.requires.places

pub returns-else-takes_row-clause-ok : goal.returns-else-takes_row-clause-ok
returns-else-takes_row-clause-ok g c = λ is. absurd (cc)

pub returns-else-takes_row-clause-err : goal.returns-else-takes_row-clause-err
returns-else-takes_row-clause-err g c = tt

pub returns-else-takes_row-clause-unchanged : goal.returns-else-takes_row-clause-unchanged
returns-else-takes_row-clause-unchanged g c = tt
