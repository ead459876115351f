use Rattle.std.proofs.Common.{◌+◌, ◌<◌, ◌≤◌, ℕ, arith}
use Rattle.area_map.proofs.insertion.reserve.Goals as goal

has_place : (count capacity : ℕ) → count + 1 ≤ capacity → count < capacity
has_place count capacity room = omega (arith, room)

pub returns-clause-spare : goal.returns-clause-spare
returns-clause-spare g c = (c.in_ok-new.ensures, has_place _ _ c.in_ok-reserve.ensures.ok)
