use Rattle.std.proofs.Common.{le_refl, refl, sym}
use Rattle.frame_memory.proofs.Refusals.{none_there, not_taken, taken}
use Rattle.frame_memory.proofs.user_map.UserMap.unmap.Goals as goal

pub returns-in_default-clause-refused : goal.returns-in_default-clause-refused
returns-in_default-clause-refused g c = taken _ _ refl

pub returns-in_default-clause-taken : goal.returns-in_default-clause-taken
returns-in_default-clause-taken g c = none_there _ _ (sym c.in_default.ensures)

pub returns-in_default-clause-pages : goal.returns-in_default-clause-pages
returns-in_default-clause-pages g c = tt

pub returns-in_default-clause-less : goal.returns-in_default-clause-less
returns-in_default-clause-less g c = none_there _ _ (sym c.in_default.ensures)

pub returns-in_default-clause-pool : goal.returns-in_default-clause-pool
returns-in_default-clause-pool g c = none_there _ _ (sym c.in_default.ensures)

pub returns-in_default-clause-room : goal.returns-in_default-clause-room
returns-in_default-clause-room g c = le_refl _

pub returns-in_default-clause-err : goal.returns-in_default-clause-err
returns-in_default-clause-err g c = refl

pub returns-in_default-clause-pool_err : goal.returns-in_default-clause-pool_err
returns-in_default-clause-pool_err g c = refl

pub returns-clause-refused : goal.returns-clause-refused
returns-clause-refused g c = not_taken _ _ c.in-Some.frame (sym c.in-Some.ensures)

pub returns-clause-err : goal.returns-clause-err
returns-clause-err g c = tt

pub returns-clause-pool_err : goal.returns-clause-pool_err
returns-clause-pool_err g c = tt
