use Rattle.std.proofs.Common.{◌≡◌, take}
use Rattle.std.specs.Option.{option_copied}
use Rattle.area_map_rows.specs.Rows.{last_leaving}
use Rattle.area_map_rows.proofs.leaving.last_of.Given as goal

abbrev pub invariant-loop-area : goal.invariant-loop-area
invariant-loop-area l = option_copied l.last ≡ last_leaving (take l.area-index l.areas)
