use Rattle.std.proofs.Common.{map, length}
use Rattle.area_map_rows.specs.Areas.{changed}
use Rattle.area_map_rows.specs.Rows.{ChangesIn}
use Rattle.area_map_rows.proofs.RowsChanged.{changed_mid, changed_stays, changes_each}
use borrow.Author.Rules.{scaled_fits≤}
use native.Mathlib.Nat.{le_trans}
use Rattle.area_map_rows.proofs.changes.change.Goals as goal

pub returns : goal.returns
returns g c =
    let rows = c.args.rows.now in
    let part = c.meeting-from in
    let change = c.args.change.now in
    changed_mid c.args.span (map (changed change c.args.span)) (ChangesIn change c.args.span)
    (changed_stays change c.args.span) rows c.change_each.new.rows part.result.0 part.result.1
    c.requires.rows c.requires.apart (changes_each change c.args.span rows c.requires.lie) part.ensures.from
    part.ensures.to part.ensures.order c.change_each.ensures

pub meeting-from-requires-clause-apart : goal.meeting-from-requires-clause-apart
meeting-from-requires-clause-apart g c = c.requires.apart

pub meeting-from-requires-clause-rows : goal.meeting-from-requires-clause-rows
meeting-from-requires-clause-rows g c = c.requires.rows

pub offset_bounds-rows-from : goal.offset_bounds-rows-from
offset_bounds-rows-from g c =
    let part = c.meeting-from in
    scaled_fits≤ part.result.0 (length c.args.rows.now) _ (le_trans part.ensures.order part.ensures.bound)
    c.well_formed.0.1

pub slice_bounds-change_each-count : goal.slice_bounds-change_each-count
slice_bounds-change_each-count g c = c.meeting-from.ensures.order

pub slice_bounds-change_each-start : goal.slice_bounds-change_each-start
slice_bounds-change_each-start g c = c.meeting-from.ensures.order

pub slice_bounds-change_each-end : goal.slice_bounds-change_each-end
slice_bounds-change_each-end g c = c.meeting-from.ensures.bound
