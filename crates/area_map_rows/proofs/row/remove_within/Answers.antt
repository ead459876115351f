use Rattle.std.proofs.Common.{◌∙◌, List}
use Rattle.std.proofs.lemmas.List.{drop-drop, take_rest}
use Rattle.iofd_words.specs.declared.rows.Area.{Area}
use Rattle.area_map_rows.proofs.RowCut.{outside_from}
use Rattle.area_map_rows.proofs.row.remove_within.Goals as goal

pub returns-clause-areas : goal.returns-clause-areas
returns-clause-areas g c =
    let items : List Area = c.args.areas.now.items in
    let k = c.count_before-from.result in
    let n = c.count_until-count.result in
    let from = rw (c.deref.ensures.value, c.first.ensures.value) at c.count_before-from.ensures.value in
    let count = rw (
      take_rest c.deref-2.result.now k,
      c.deref-2.ensures.value,
      c.last.ensures.value,
    ) at c.count_until-count.ensures.value in
    c.remove_between.ensures.rest ∙ rw (
      ← drop-drop n k items,
      count,
    ) (outside_from c.args.span 0 items k c.requires from)
