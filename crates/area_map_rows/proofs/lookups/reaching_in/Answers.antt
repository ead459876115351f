use Rattle.std.proofs.Common.{◌∙◌}
use Rattle.std.proofs.lemmas.List.{take_rest}
use Rattle.area_map_rows.proofs.Parts.{find_behind}
use Rattle.area_map_rows.proofs.lookups.reaching_in.Goals as goal

pub returns : goal.returns
returns c =
    c.first_reaching_of.ensures
    ∙ rw (take_rest c.args.areas.now c.parts_below.result)
    (find_behind c.args.address c.args.areas.now c.parts_below.result c.parts_below.ensures.below)
