use Rattle.std.proofs.Common.{arith}
use Rattle.std.proofs.lemmas.Grind.{common_steps}
use Rattle.area_map_rows.proofs.lookups.runs_on.Goals as goal

pub returns-then-next-first : goal.returns-then-next-first
returns-then-next-first g c = grind (arith, common_steps)
