use Rattle.std.proofs.Common.{rules}
use Rattle.area_map_rows.proofs.marking.pay_one.Goals as goal

pub returns-in-Leaving : goal.returns-in-Leaving
returns-in-Leaving c = search rules
