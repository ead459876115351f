use Rattle.std.proofs.Common.{◌∙◌, sym}
use Rattle.area_map_rows.proofs.RowsFound.{end_of-last}
use Rattle.area_map_rows.proofs.row.end_of.Goals as goal

pub returns-in-Some : goal.returns-in-Some
returns-in-Some c =
    c.last-in-Some.ensures.value ∙ sym (end_of-last c.args.areas.now c.in-Some.area.now (sym c.in-Some.ensures.value))
