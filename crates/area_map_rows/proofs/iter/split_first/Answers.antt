use Rattle.std.proofs.Common.{◌++◌, List, length, refl, sym, ap, ◌∙◌, arith}
use Rattle.std.proofs.lemmas.List.{nil_from_length}
use Rattle.iofd_words.specs.declared.rows.Area.{Area}
use Rattle.area_map_rows.specs.Rows.{in_rows}
use Rattle.area_map_rows.proofs.iter.split_first.Goals as goal

pub returns-in-Some-clause-parts : goal.returns-in-Some-clause-parts
returns-in-Some-clause-parts g c = ap (λ (row : List Area). row ++ in_rows c.args.rows.now) c.in-Some.ensures.cases.0

pub returns-in-Some-clause-rows : goal.returns-in-Some-clause-rows
returns-in-Some-clause-rows g c = c.requires

pub returns-in_err-next-clause-parts : goal.returns-in_err-next-clause-parts
returns-in_err-next-clause-parts g c =
    let row = nil_from_length c.args.row.now c.in_default.ensures.cases in
    let rows = nil_from_length c.args.rows.now c.in_err-next.ensures.cases in
    rw (c.from_residual.ensures, row, rows) refl

pub returns-in_err-next-clause-rows : goal.returns-in_err-next-clause-rows
returns-in_err-next-clause-rows g c = rw c.from_residual.ensures tt

pub returns-in_err-area-clause-parts : goal.returns-in_err-area-clause-parts
returns-in_err-area-clause-parts g c =
    let each = rw c.in_ok-next.ensures.cases.0 at c.requires in
    absurd (omega (arith, each.0, ap length c.areas.ensures, c.in_err-area.ensures.cases))

pub returns-in_err-area-clause-rows : goal.returns-in_err-area-clause-rows
returns-in_err-area-clause-rows g c = rw c.from_residual-in_err-area.ensures tt

pub returns-clause-parts : goal.returns-clause-parts
returns-clause-parts g c =
    let row = nil_from_length c.args.row.now c.in_default.ensures.cases in
    let next = sym c.areas.ensures ∙ c.in_ok-area.ensures.cases.0 in
    rw (row, c.in_ok-next.ensures.cases.0, next) refl

pub returns-clause-rows : goal.returns-clause-rows
returns-clause-rows g c = (rw c.in_ok-next.ensures.cases.0 at c.requires).2
