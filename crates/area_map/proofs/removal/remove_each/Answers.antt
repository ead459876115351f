use Rattle.std.proofs.Common.{◌≡◌, ◌∙◌, ◌<◌, List, [], length, ap, refl, sym, set, arith}
use borrow.Author.Rules.{scaled_Fits}
use borrow.Author.Count.{falls}
use Rattle.std.proofs.lemmas.List.Edits.{map_over_more}
use Rattle.iofd_words.specs.declared.rows.Area.{Area}
use Rattle.area_map_rows.specs.Areas.{areas_outside}
use Rattle.area_map.proofs.RowsRemoved.{length-set_row, row_ahead}
use Rattle.area_map_rows.proofs.Rows.{row-apart, map_over_all}
use Rattle.std.proofs.lemmas.List.{get_or_default}
use Rattle.area_map.proofs.removal.remove_each.Goals as goal

pub overflow_add-removed : goal.overflow_add-removed
overflow_add-removed g c =
    let within : c.loop-row.row-index < length c.loop-row.rows = omega arith in
    let others = length-set_row c.loop-row.rows c.loop-row.row-index [] c.row-item.result within in
    let all = c.loop-row.invariant.count in
    let own = c.remove-removed.ensures.count in
    omega (arith, others, all, own)

pub remove-removed-requires : goal.remove-removed-requires
remove-removed-requires g c =
    let f = areas_outside c.args.span in
    let rows : List (List Area) = c.args.rows.now in
    let i = c.loop-row.row-index in
    let within : i < length rows = omega arith in
    rw (
      c.loop-row.invariant.rows,
      row_ahead f rows i c.row-item.result within,
      get_or_default rows i c.row-item.result [] within,
    )
    (row-apart 0 rows i within c.requires.rows c.requires.kept.apart)

pub loop-row-preserved : goal.loop-row-preserved
loop-row-preserved g c =
    let f = areas_outside c.args.span in
    let rows = c.loop-row.rows in
    let within : c.loop-row.row-index < length c.loop-row.rows = omega arith in
    let step = map_over_more f c.args.rows.now rows c.loop-row.row-index c.row-item.result (omega arith)
    c.loop-row.invariant.rows c.row-item.is in
    let new : c.remove-removed.new.self ≡ f c.row-item.result =
    c.remove-removed.ensures.areas ∙ ap f (sym c.row-item.is) in
    let changed =
    length-set_row c.loop-row.rows c.loop-row.row-index c.remove-removed.new.self c.row-item.result within in
    let all = c.loop-row.invariant.count in
    let own = c.remove-removed.ensures.count in
    record {
      rows = ap (λ (row : List Area). set rows c.loop-row.row-index row) new ∙ step;
      count = omega (arith, changed, all, own);
    }

pub returns-clause-areas : goal.returns-clause-areas
returns-clause-areas g c = map_over_all (areas_outside c.args.span) c.args.rows.now c.loop-row.rows c.loop-row.row-index
    (omega arith) c.loop-row.invariant.rows

pub loop-row-init : goal.loop-row-init
loop-row-init g c = record { rows = refl; count = omega arith }

pub bounds-rows-row-index : goal.bounds-rows-row-index
bounds-rows-row-index g c = rw c.loop-row.auto.rows c.loop-row-test.true

pub loop-row-smaller : goal.loop-row-smaller
loop-row-smaller g c = falls (length c.args.rows.now) c.loop-row.row-index c.loop-row-test.true

pub returns-clause-count : goal.returns-clause-count
returns-clause-count g c = c.loop-row.invariant.count

pub offset_bounds-rows-row-index : goal.offset_bounds-rows-row-index
offset_bounds-rows-row-index g c =
    scaled_Fits c.loop-row.row-index (length c.args.rows.now) _ c.loop-row-test.true c.well_formed.0.1
