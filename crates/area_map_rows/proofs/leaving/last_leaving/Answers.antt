use Rattle.std.proofs.Common.{◌∙◌, List}
use Rattle.iofd_words.specs.declared.rows.Area.{Area}
use Rattle.area_map_rows.proofs.LeavingEnds.{alone, last_between}
use Rattle.area_map_rows.proofs.leaving.last_leaving.Goals as goal

pub returns : goal.returns
returns g c =
    let rows : List (List Area) = c.args.rows.now in
    let part = c.meeting-from in
    let without = alone c.args.hull rows part.result.0 part.result.1 c.requires.rows c.requires.apart c.requires.lie
    part.ensures.from part.ensures.to part.ensures.order in
    c.last_in.ensures ∙ last_between rows part.result.0 part.result.1 part.ensures.order without
