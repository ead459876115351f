use Rattle.std.proofs.Common.{◌∙◌, ◌%◌, List, ap}
use Rattle.iofd_words.specs.declared.rows.Area.{Area}
use Rattle.area_map.specs.Blocks.{widest_around}
use Rattle.area_map.proofs.blocks.widest_at.Goals as goal

pub rows_of-requires : goal.rows_of-requires
rows_of-requires g c = c.requires

pub returns : goal.returns
returns g c =
    c.widest_around.ensures
    ∙ ap (λ (rows : List (List Area)). widest_around (c.args.index % 32) rows) c.rows_of.ensures.value
