use Rattle.std.proofs.Common.{◌≡◌, ◌∙◌, List, true, false, sym, ap}
use Rattle.iofd_words.specs.declared.rows.Area.{Area}
use Rattle.area_map_rows.specs.Rows.{has_leaving, in_rows, last_leaving}
use Rattle.area_map_rows.proofs.LeavingEnds.{last_before, last_row}
use Rattle.area_map_rows.proofs.leaving.last_in.Goals as goal

pub returns-then-has_leaving : goal.returns-then-has_leaving
returns-then-has_leaving g c =
    let others : List (List Area) = c.in-Some.others.now in
    let row : List Area = c.in-Some.row.now in
    let some : has_leaving row ≡ true = sym c.has_leaving.ensures ∙ c.if-has_leaving.true in
    c.last_of.ensures ∙ ap last_leaving c.areas.ensures ∙ sym (last_row others row some)
    ∙ ap (λ (rows : List (List Area)). last_leaving (in_rows rows)) (sym c.in-Some.ensures.cases.0)
    ∙ sym c.loop-row.invariant

pub loop-row-preserved : goal.loop-row-preserved
loop-row-preserved g c =
    let others : List (List Area) = c.in-Some.others.now in
    let row : List Area = c.in-Some.row.now in
    let none : has_leaving row ≡ false = sym c.has_leaving.ensures ∙ c.if-has_leaving.false in
    c.loop-row.invariant ∙ ap (λ (rows : List (List Area)). last_leaving (in_rows rows)) c.in-Some.ensures.cases.0
    ∙ last_before others row none
