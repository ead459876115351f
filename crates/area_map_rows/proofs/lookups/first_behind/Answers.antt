use Rattle.std.proofs.Common.{◌∙◌, ◌∷◌, sym}
use Rattle.std.proofs.lemmas.List.{nil_from_length}
use Rattle.area_map_rows.specs.Rows.{AreRows, in_rows}
use Rattle.area_map_rows.proofs.Rows.{apart_left}
use Rattle.area_map_rows.proofs.RowsFound.{found_in_row, found_nowhere}
use Rattle.area_map_rows.proofs.lookups.first_behind.Goals as goal

pub returns-in_err-row : goal.returns-in_err-row
returns-in_err-row g c =
    let none = nil_from_length c.rows_from.result.now c.in_err-row.ensures.cases in
    rw c.from_residual.ensures (found_nowhere c.args.address c.args.rows.now c.requires.rows c.requires.apart
    (sym (rw c.requires.below at c.rows_from.ensures.value) ∙ none))

pub returns : goal.returns
returns g c =
    let row = c.in_ok-row.row.now in
    let others = c.in_ok-row.field-0-1.now in
    let is = c.in_ok-row.ensures.cases.0 in
    let rest : AreRows (row ∷ others) = rw is at c.rows_from.ensures.rows in
    c.reaching_in.ensures ∙ rw c.areas.ensures
    (found_in_row c.args.address c.args.rows.now others row c.requires.rows c.requires.apart rest
    (sym (rw c.requires.below at c.rows_from.ensures.value) ∙ is))

pub reaching_in-requires : goal.reaching_in-requires
reaching_in-requires g c =
    rw c.areas.ensures (apart_left 0 c.in_ok-row.row.now (in_rows c.in_ok-row.field-0-1.now)
    (rw c.in_ok-row.ensures.cases.0 at c.rows_from.ensures.apart))
