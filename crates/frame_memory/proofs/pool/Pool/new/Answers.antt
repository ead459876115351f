use Rattle.frame_memory.proofs.Reached.{none-kept, none-seen}
use Rattle.frame_memory.proofs.pool.Pool.new.Goals as goal

pub returns : goal.returns
returns g c = none-seen c.args.count c.in_ok-frames.frames.items c.in_ok-frames.ensures.items

pub invariant_of-result : goal.invariant_of-result
invariant_of-result g c =
    none-kept c.in_ok-frames.frames.items _ c.args.count c.below.result c.in_ok-frames.ensures.items
    c.in_ok-frames.ensures.capacity c.requires.few c.below.ensures
