use Rattle.std.proofs.Common.{arith}
use Rattle.area_map.proofs.OneRow.{changed_row}
use Rattle.area_map.proofs.RowsInBlocks.{found}
use Rattle.area_map.proofs.blocks.changed_block.Goals as goal

pub returns : goal.returns
returns g c = λ before same narrow.
    let bound = changed_row before c.args.rows.now c.args.place c.args.widest c.requires.rows same narrow in
    record {
      first = c.first_of.ensures;
      end = c.end_of.ensures;
      widest = omega (arith, bound, c.max.ensures, c.widest_around-around.ensures);
    }

pub returns-then-widest-parted : goal.returns-then-widest-parted
returns-then-widest-parted g c = λ before same narrow.
    found c.args.rows.now c.block_of.result c.block_of.ensures
