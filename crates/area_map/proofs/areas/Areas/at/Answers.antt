use Rattle.std.proofs.Common.{rules}
use Rattle.area_map.proofs.areas.Areas.at.Goals as goal

pub returns : goal.returns
returns g c = search rules
