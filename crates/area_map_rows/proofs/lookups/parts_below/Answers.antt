use Rattle.std.proofs.Common.{arith}
use Rattle.area_map_rows.proofs.Parts.{passed_within}
use Rattle.area_map_rows.proofs.lookups.parts_below.Goals as goal

pub returns-clause-bound : goal.returns-clause-bound
returns-clause-bound c = let most = passed_within c.args.address c.args.areas.now in grind (arith, most)
