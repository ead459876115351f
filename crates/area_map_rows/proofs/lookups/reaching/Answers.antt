use Rattle.std.proofs.Common.{◌∙◌, leb, sym, arith}
use Rattle.std.proofs.lemmas.Bool.Decides.{nat_tests}
use Rattle.std.proofs.lemmas.List.{nil_from_length, take_rest}
use Rattle.iofd_words.specs.declared.rows.Area.{Area}
use Rattle.area_map_rows.specs.Rows.{in_rows}
use Rattle.area_map_rows.proofs.Rows.{apart_left}
use Rattle.area_map_rows.proofs.RowsWithin.{reaching_rows, reaching_none}
use Rattle.area_map_rows.proofs.lookups.reaching.Goals as goal

pub returns-in_default : goal.returns-in_default
returns-in_default g c =
    let none = nil_from_length c.rows_from-rest.result.now c.in_default.ensures.cases in
    c.new.ensures ∙ rw none (reaching_none (λ (a : Area). leb c.args.address a.span.last) c.args.address
    (λ a ordered below. grind (arith, nat_tests)) c.args.rows.now c.requires.rows c.requires.apart
    (sym (rw c.rows_below.ensures.value at c.rows_from-rest.ensures.value) ∙ none))

pub returns : goal.returns
returns g c =
    let row = c.in-Some.row.now in
    let others = c.in-Some.others.now in
    let is = c.in-Some.ensures.cases.0 in
    c.new-2.ensures ∙ rw (
      take_rest c.areas-areas.result.now c.count_below.result,
      c.count_below.ensures.value,
      c.areas-areas.ensures,
    )
    (reaching_rows c.args.address c.args.rows.now others row c.requires.rows c.requires.apart
    (sym (rw c.rows_below.ensures.value at c.rows_from-rest.ensures.value) ∙ is))

pub count_below-requires : goal.count_below-requires
count_below-requires g c =
    rw c.areas-areas.ensures (apart_left 0 c.in-Some.row.now (in_rows c.in-Some.others.now)
    (rw c.in-Some.ensures.cases.0 at c.rows_from-rest.ensures.apart))
