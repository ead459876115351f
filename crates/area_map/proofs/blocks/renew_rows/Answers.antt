use Rattle.std.proofs.Common.{◌+◌, ◌/◌, arith}
use Rattle.area_map.proofs.OneRow.{same_one}
use Rattle.area_map.proofs.RowsInBlocks.{blocks_but}
use Rattle.area_map.proofs.blocks.renew_rows.Goals as goal

pub returns-then-saturating_sub-le1 : goal.returns-then-saturating_sub-le1
returns-then-saturating_sub-le1 g c = λ before all same.
    c.renew_at.ensures before all
    (same_one before c.args.rows.now c.args.from c.args.to
    (omega (arith, c.saturating_sub.ensures, c.if-saturating_sub-le1.true)) same)

pub returns-else-saturating_sub-le1 : goal.returns-else-saturating_sub-le1
returns-else-saturating_sub-le1 g c = λ before all same.
    c.renew_between.ensures
    (blocks_but c.args.blocks.now before c.args.rows.now c.args.from c.args.to (c.args.from / 32) (c.args.to / 32 + 1)
    all same (omega arith) (omega arith))
