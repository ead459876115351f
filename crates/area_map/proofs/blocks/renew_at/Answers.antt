use Rattle.std.proofs.Common.{ℕ, ◌+◌, ◌/◌, ◌%◌, ◌<◌, List, [], set, length, ap, arith}
use Rattle.std.proofs.lemmas.List.{get_or_default}
use Rattle.iofd_words.specs.declared.rows.Area.{Area}
use Rattle.area_map.specs.declared.blocks.Block.{Block}
use Rattle.area_map.specs.Blocks.{block_of, rows_of}
use Rattle.area_map.proofs.OneRow.{same_block}
use Rattle.area_map.proofs.RowsInBlocks.{all_renewed, blocks_but, renewed}
use Rattle.area_map.proofs.blocks.renew_at.Goals as goal

pub returns-then-number-blocks : goal.returns-then-number-blocks
returns-then-number-blocks g c = λ before all same.
    let rows : List (List Area) = c.args.rows.now in
    let blocks : List Block = c.args.blocks.now in
    let index = c.args.index in
    let number : ℕ = index / 32 in
    let place : ℕ = index % 32 in
    let within : number < length blocks = omega (arith, c.if-number-blocks.true) in
    let none : Block = record { first = 0; end = 0; widest = 0 } in
    let others = blocks_but blocks before rows index (index + 1) number (number + 1) all same (omega arith)
    (omega arith) in
    let own = same_block before rows index number place (omega arith) (omega arith) same in
    let kept = ap (λ (b : Block). b.widest) (get_or_default blocks number none (block_of []) within) in
    let narrow = (all number within).widest in
    let block = (rw c.rows_of.ensures.value at c.changed_block.ensures) (rows_of number before) own
    (omega (arith, kept, narrow)) in
    all_renewed (set blocks number c.changed_block.result) rows (number + 1) (number + 1)
    (renewed blocks rows number (number + 1) c.changed_block.result others within (omega arith) block) (omega arith)

pub returns-else-number-blocks : goal.returns-else-number-blocks
returns-else-number-blocks g c = λ before all same.
    let rows : List (List Area) = c.args.rows.now in
    let index = c.args.index in
    let number : ℕ = index / 32 in
    let others = blocks_but c.args.blocks.now before rows index (index + 1) number (number + 1) all same (omega arith)
    (omega arith) in
    all_renewed c.args.blocks.now rows number (number + 1) others (omega (arith, c.if-number-blocks.false))
