use Rattle.std.proofs.Common.{◌≡◌, ◌∙◌, List, ap, sym, set, map, arith, length, refl}
use Rattle.std.proofs.lemmas.List.Edits.{map_over_more}
use Rattle.iofd_words.specs.declared.rows.Area.{Area}
use Rattle.area_map_rows.specs.Areas.{changed}
use Rattle.area_map_rows.proofs.Rows.{map_over_all}
use borrow.Author.Rules.{scaled_Fits}
use Rattle.area_map_rows.proofs.changes.change_each.Goals as goal

pub loop-row-preserved : goal.loop-row-preserved
loop-row-preserved g c =
    let f = map (changed c.args.change.now c.args.span) in
    let rows = c.loop-row.rows in
    let step = map_over_more f c.args.rows.now rows c.loop-row.row-index c.row-item.result (omega arith)
    c.loop-row.invariant c.row-item.is in
    let new : c.change.new.self ≡ f c.row-item.result = c.change.ensures ∙ ap f (sym c.row-item.is) in
    ap (λ (row : List Area). set rows c.loop-row.row-index row) new ∙ step

pub returns : goal.returns
returns g c = map_over_all (map (changed c.args.change.now c.args.span)) c.args.rows.now c.loop-row.rows
    c.loop-row.row-index (omega arith) c.loop-row.invariant

pub loop-row-init : goal.loop-row-init
loop-row-init g c = refl

pub offset_bounds-rows-row-index : goal.offset_bounds-rows-row-index
offset_bounds-rows-row-index g c =
    scaled_Fits c.loop-row.row-index (length c.args.rows.now) _ c.loop-row-test.true c.well_formed.0.1

pub bounds-rows-row-index : goal.bounds-rows-row-index
bounds-rows-row-index g c = omega arith

pub loop-row-smaller : goal.loop-row-smaller
loop-row-smaller g c = omega arith
