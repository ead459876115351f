use borrow.Author.Rules.{scaled_fits≤}
use native.Mathlib.Nat.{le_trans}
use Rattle.std.proofs.Common.{◌≡◌, ◌∙◌, ◌-◌, List, length, drop, ap}
use Rattle.std.specs.List.{between}
use Rattle.std.proofs.lemmas.List.{length-map}
use Rattle.std.proofs.lemmas.List.Edits.{length-between}
use Rattle.iofd_words.specs.declared.rows.Area.{Area}
use Rattle.area_map_rows.proofs.Rows.{AreRows-take, AreRows-drop}
use Rattle.area_map_rows.specs.Areas.{areas_outside}
use Rattle.area_map_rows.proofs.RowsChanged.{changed_mid, outside_between, always}
use Rattle.area_map.proofs.RowsRemoved.{kept_between, count_around, rows_around}
use Rattle.area_map.proofs.RowsSame.{same_mid}
use Rattle.area_map.proofs.removal.remove_within.Goals as goal

pub remove_each-removed-requires-clause-kept : goal.remove_each-removed-requires-clause-kept
remove_each-removed-requires-clause-kept g c =
    let part = c.meeting-from in
    kept_between c.args.rows.now part.result.0 part.result.1 c.requires.rows c.requires.kept part.ensures.order

pub remove_each-removed-requires-clause-rows : goal.remove_each-removed-requires-clause-rows
remove_each-removed-requires-clause-rows g c =
    let part = c.meeting-from in
    AreRows-take (drop part.result.0 c.args.rows.now) (part.result.1 - part.result.0)
    (AreRows-drop c.args.rows.now part.result.0 c.requires.rows)

pub returns-clause-rows : goal.returns-clause-rows
returns-clause-rows g c =
    let rows = c.args.rows.now in
    let part = c.meeting-from in
    changed_mid c.args.span (areas_outside c.args.span) (λ _. Unit {0}) (outside_between c.args.span) rows
    c.remove_each-removed.new.rows part.result.0 part.result.1
    c.requires.rows c.requires.kept.apart (always rows) part.ensures.from part.ensures.to part.ensures.order
    c.remove_each-removed.ensures.areas

pub returns-clause-count : goal.returns-clause-count
returns-clause-count g c =
    let part = c.meeting-from in
    count_around c.args.rows.now c.remove_each-removed.new.rows part.result.0 part.result.1 c.remove_each-removed.result
    part.ensures.order c.remove_each-removed.ensures.count

pub returns-clause-empty : goal.returns-clause-empty
returns-clause-empty g c = λ none.
    let part = c.meeting-from in
    rows_around c.args.span c.args.rows.now c.remove_each-removed.new.rows part.result.0 part.result.1 c.requires.rows
    c.remove_each-removed.ensures.areas (rw c.has_empty.ensures at none)

pub returns-clause-others : goal.returns-clause-others
returns-clause-others g c =
    let rows : List (List Area) = c.args.rows.now in
    let mid : List (List Area) = c.remove_each-removed.new.rows in
    let part = c.meeting-from in
    let from = part.result.0 in
    let to = part.result.1 in
    let long : length mid ≡ to - from =
    ap length c.remove_each-removed.ensures.areas
    ∙ length-map (between from to rows) (areas_outside c.args.span)
    ∙ length-between rows from to part.ensures.bound in
    same_mid rows mid from to part.ensures.order part.ensures.bound long

pub meeting-from-requires-clause-apart : goal.meeting-from-requires-clause-apart
meeting-from-requires-clause-apart g c = c.requires.kept.apart

pub meeting-from-requires-clause-rows : goal.meeting-from-requires-clause-rows
meeting-from-requires-clause-rows g c = c.requires.rows

pub slice_bounds-part-count : goal.slice_bounds-part-count
slice_bounds-part-count g c = c.meeting-from.ensures.order

pub offset_bounds-rows-from : goal.offset_bounds-rows-from
offset_bounds-rows-from g c =
    let part = c.meeting-from in
    scaled_fits≤ part.result.0 (length c.args.rows.now) _ (le_trans part.ensures.order part.ensures.bound)
    c.well_formed.0.1
