use Rattle.std.proofs.Common.{◌∙◌, sym}
use Rattle.area_map.proofs.RowsInBlocks.{first_of-none, first_of-rows}
use Rattle.area_map.proofs.blocks.first_of.Goals as goal

pub returns-in-Some : goal.returns-in-Some
returns-in-Some g c =
    c.first-in-Some.ensures
    ∙ sym (first_of-rows c.args.rows.now c.in-Some.row.now c.requires (sym c.in-Some.ensures.value))

pub returns-in-None : goal.returns-in-None
returns-in-None g c = sym (first_of-none c.args.rows.now (sym c.in-None.ensures.value))
