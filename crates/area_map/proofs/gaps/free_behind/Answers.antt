use Rattle.std.proofs.Common.{◌≡◌, ◌∙◌, ℕ, ◌-◌, ◌*◌, ◌≤◌, List, take, drop, sym, ap, arith}
use Rattle.std.proofs.lemmas.List.{drop_min}
use Rattle.iofd_words.specs.declared.rows.Area.{Area}
use Rattle.area_map_rows.specs.Rows.{first_free, in_rows}
use Rattle.area_map_rows.proofs.Rows.{AreRows-take, AreRows-drop, apart-drop}
use Rattle.area_map.proofs.RowsInBlocks.{apart-take, free-own}
use Rattle.area_map.proofs.gaps.free_behind.Goals as goal

pub free_in_rows-at-requires-clause-apart : goal.free_in_rows-at-requires-clause-apart
free_in_rows-at-requires-clause-apart g c =
    let rows : List (List Area) = c.args.rows.now in
    let below = c.rows_below-below.result in
    apart-take 0 (drop below rows) (c.begin_of.result - below)
    (apart-drop 0 rows below c.requires.rows c.requires.apart)

pub free_in_rows-at-requires-clause-rows : goal.free_in_rows-at-requires-clause-rows
free_in_rows-at-requires-clause-rows g c =
    let below = c.rows_below-below.result in
    AreRows-take (drop below c.args.rows.now) (c.begin_of.result - below)
    (AreRows-drop c.args.rows.now below c.requires.rows)

pub returns-clause-value : goal.returns-clause-value
returns-clause-value g c =
    let rows : List (List Area) = c.args.rows.now in
    let below = c.rows_below-below.result in
    let stop = c.begin_of.result in
    let order : below ≤ stop = omega arith in
    let first = c.free_in_rows-at.ensures.value ∙ ap (λ (n : ℕ). first_free n c.args.count
    (in_rows (take (stop - below) (drop below rows)))) c.from.ensures in
    let behind : drop (32 * c.number_from-next.result) rows ≡ drop stop rows =
    sym (ap (λ (n : ℕ). drop n rows) c.begin_of.ensures ∙ drop_min (32 * c.number_from-next.result) rows) in
    c.free_in_blocks.ensures.value
    ∙ ap (λ (rs : List (List Area)). first_free c.free_in_rows-at.result c.args.count (in_rows rs)) behind
    ∙ ap (λ (n : ℕ). first_free n c.args.count (in_rows (drop stop rows))) first
    ∙ free-own c.args.start c.args.count below stop rows c.requires.rows c.requires.apart
    c.rows_below-below.ensures.value order

pub rows_below-below-requires-clause-apart : goal.rows_below-below-requires-clause-apart
rows_below-below-requires-clause-apart g c = c.requires.apart

pub rows_below-below-requires-clause-rows : goal.rows_below-below-requires-clause-rows
rows_below-below-requires-clause-rows g c = c.requires.rows

pub offset_bounds-rows-below : goal.offset_bounds-rows-below
offset_bounds-rows-below g c = c.rows_below-below.ensures.bound

pub free_in_blocks-requires-clause-start : goal.free_in_blocks-requires-clause-start
free_in_blocks-requires-clause-start g c = c.free_in_rows-at.ensures.bound

pub free_in_blocks-requires-clause-apart : goal.free_in_blocks-requires-clause-apart
free_in_blocks-requires-clause-apart g c = c.requires.apart

pub free_in_blocks-requires-clause-rows : goal.free_in_blocks-requires-clause-rows
free_in_blocks-requires-clause-rows g c = c.requires.rows

pub free_in_blocks-requires-clause-blocks : goal.free_in_blocks-requires-clause-blocks
free_in_blocks-requires-clause-blocks g c = c.requires.blocks

pub returns-clause-bound : goal.returns-clause-bound
returns-clause-bound g c = c.free_in_blocks.ensures.bound
