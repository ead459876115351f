use Rattle.std.proofs.Common.{arith}
use Rattle.dirty_bitmap.proofs.Kept.{joined_bit}
use Rattle.dirty_bitmap.proofs.bits.joined.Goals as goal

pub returns : goal.returns
returns c k within = joined_bit c.args.low c.args.high c.args.shift k (omega arith) c.requires within
