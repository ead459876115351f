use Rattle.dirty_bitmap.proofs.WordBits.{ones_all, ones_some}
use Rattle.dirty_bitmap.proofs.bits.ones.Goals as goal

pub returns-then-many-ge64 : goal.returns-then-many-ge64
returns-then-many-ge64 c k within = ones_all c.args.many k c.if-many-ge64.true within

pub returns : goal.returns
returns c k within = ones_some c.args.many k c.if-many-ge64.false
