use Rattle.std.proofs.Common.{◌≡◌, ◌∙◌, ℕ, ◌+◌, ◌-◌, ◌*◌, ◌<◌, List, [], take, drop, length, subst, sym, ap}
use Rattle.std.proofs.Common.{arith}
use Rattle.std.proofs.lemmas.List.{drop_min, get_or_default, take_rest}
use Rattle.iofd_words.specs.declared.rows.Area.{Area}
use Rattle.area_map.specs.declared.blocks.Block.{Block}
use Rattle.area_map.specs.Blocks.{IsBlockOf, block_of, rows_of}
use Rattle.area_map_rows.specs.Rows.{first_free, in_rows}
use Rattle.area_map_rows.proofs.Rows.{AreRows-take, AreRows-drop, apart-drop}
use Rattle.area_map.proofs.RowsInBlocks.{apart-take, free-block}
use Rattle.area_map.proofs.gaps.free_in_blocks.Goals as goal

pub free_in_block-at-requires-clause-block : goal.free_in_block-at-requires-clause-block
free_in_block-at-requires-clause-block g c =
    let n = c.loop-number.number in
    let blocks : List Block = c.args.blocks.now in
    let within : n < length blocks = omega arith in
    subst (IsBlockOf (rows_of n c.args.rows.now)) (sym (get_or_default blocks n _ (block_of []) within))
    (c.requires.blocks n within)

pub loop-number-preserved : goal.loop-number-preserved
loop-number-preserved g c =
    let rows : List (List Area) = c.args.rows.now in
    let n = c.loop-number.number in
    record {
      bound = c.free_in_block-at.ensures.bound;
      left = ap (λ (m : ℕ). first_free m c.args.count (in_rows (drop (32 * (n + 1)) rows)))
          c.free_in_block-at.ensures.value
          ∙ free-block c.loop-number.at c.args.count n rows c.requires.rows c.requires.apart
          ∙ c.loop-number.invariant.left;
    }

pub free_in_rows-requires-clause-apart : goal.free_in_rows-requires-clause-apart
free_in_rows-requires-clause-apart g c =
    let rows : List (List Area) = c.args.rows.now in
    let from = c.begin_of.result in
    apart-take 0 (drop from rows) (length rows - from) (apart-drop 0 rows from c.requires.rows c.requires.apart)

pub free_in_rows-requires-clause-rows : goal.free_in_rows-requires-clause-rows
free_in_rows-requires-clause-rows g c =
    let rows : List (List Area) = c.args.rows.now in
    let from = c.begin_of.result in
    AreRows-take (drop from rows) (length rows - from) (AreRows-drop rows from c.requires.rows)

pub returns-clause-value : goal.returns-clause-value
returns-clause-value g c =
    let rows : List (List Area) = c.args.rows.now in
    let from = c.begin_of.result in
    let n = c.loop-number.number in
    let is : take (length rows - from) (drop from rows) ≡ drop (32 * n) rows =
    take_rest rows from ∙ ap (λ (m : ℕ). drop m rows) c.begin_of.ensures ∙ drop_min (32 * n) rows in
    c.free_in_rows.ensures.value
    ∙ ap (λ (rs : List (List Area)). first_free c.loop-number.at c.args.count (in_rows rs)) is
    ∙ c.loop-number.invariant.left
