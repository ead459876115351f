use Rattle.std.proofs.Common.{◌∙◌, ap, arith}
use Rattle.area_map.specs.Blocks.{block_of}
use Rattle.area_map.proofs.RowsInBlocks.{all_renewed, found, renewed}
use Rattle.area_map.proofs.blocks.renew_between.Goals as goal

pub loop-number-init : goal.loop-number-init
loop-number-init g c = λ others. others

pub loop-number-preserved : goal.loop-number-preserved
loop-number-preserved g c = λ others.
    renewed c.loop-number.blocks c.args.rows.now c.loop-number.number c.args.to c.block_of.result
    (c.loop-number.invariant others) (omega arith) (omega arith)
    (found _ c.block_of.result (c.block_of.ensures ∙ ap block_of c.rows_of.ensures.value))

pub returns : goal.returns
returns g c = λ others.
    all_renewed c.loop-number.blocks c.args.rows.now c.loop-number.number c.args.to (c.loop-number.invariant others)
    (omega arith)
