use Rattle.std.proofs.Common.{◌≡◌, ◌∙◌, ℕ, ◌-◌, ◌*◌, ◌≤◌, List, take, drop, length, min, ap, arith}
use Rattle.std.proofs.lemmas.List.{drop_min, take_min, take_rest}
use Rattle.iofd_words.specs.declared.rows.Area.{Area}
use Rattle.area_map_rows.proofs.Rows.{AreRows-take, AreRows-drop}
use Rattle.area_map.proofs.blocks.rows_of.Goals as goal

within : (at place count : ℕ) → at ≡ min place count → at ≤ count
within at place count is = omega (arith, is)

pub offset_bounds-rows-begin_of : goal.offset_bounds-rows-begin_of
offset_bounds-rows-begin_of g c =
    within c.begin_of.result (32 * c.args.number) (length c.args.rows.now) c.begin_of.ensures

pub slice_bounds-rest-count : goal.slice_bounds-rest-count
slice_bounds-rest-count g c =
    within c.begin_of.result (32 * c.args.number) (length c.args.rows.now) c.begin_of.ensures

pub returns-clause-value : goal.returns-clause-value
returns-clause-value g c =
    let rows : List (List Area) = c.args.rows.now in
    let from = c.begin_of.result in
    let rest : List (List Area) = take (length rows - from) (drop from rows) in
    let is : rest ≡ drop (32 * c.args.number) rows =
    take_rest rows from ∙ ap (λ (n : ℕ). drop n rows) c.begin_of.ensures ∙ drop_min (32 * c.args.number) rows in
    ap (λ (n : ℕ). take n rest) c.min.ensures ∙ take_min 32 rest ∙ ap (take 32) is

pub returns-clause-rows : goal.returns-clause-rows
returns-clause-rows g c =
    let rows : List (List Area) = c.args.rows.now in
    let from = c.begin_of.result in
    AreRows-take (take (length rows - from) (drop from rows)) c.min.result
    (AreRows-take (drop from rows) (length rows - from) (AreRows-drop rows from c.requires))
