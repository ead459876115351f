use Rattle.std.proofs.Common.{◌≡◌, ◌∙◌, List, Some, None, sym, ap}
use Rattle.std.specs.List.{find}
use Rattle.std.specs.Option.{option_copied}
use Rattle.iofd_words.specs.declared.rows.Area.{Area}
use Rattle.area_map_rows.specs.Rows.{has_leaving, leaves}
use Rattle.area_map_rows.proofs.LeavingEnds.{first_none, first_some}
use Rattle.area_map_rows.proofs.leaving.first_in.Goals as goal

pub returns-in-Some : goal.returns-in-Some
returns-in-Some g c =
    let rows : List (List Area) = c.args.rows.now in
    let found : find has_leaving rows ≡ Some c.in-Some.row.now =
    sym c.leaving_row.ensures ∙ ap option_copied c.in-Some.is in
    c.first_of.ensures ∙ ap (find leaves) c.areas.ensures ∙ first_some rows c.in-Some.row.now found

pub returns-in-None : goal.returns-in-None
returns-in-None g c =
    let rows : List (List Area) = c.args.rows.now in
    let found : find has_leaving rows ≡ None = sym c.leaving_row.ensures ∙ ap option_copied c.in-None.is in
    first_none rows found
