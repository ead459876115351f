use Rattle.std.proofs.Common.{◌∙◌}
use Rattle.frame_memory.specs.Kept.{all_frames, seen}
use Rattle.frame_memory.proofs.Holds.{has_free-is}
use Rattle.frame_memory.proofs.pool.Pool.has_free.Goals as goal

pub returns : goal.returns
returns g c =
    let all = all_frames c.self.inside.frames.items c.self.inside.count in
    rw (← c.self.view_is)
    (c.is_some.ensures ∙ has_free-is c.self.inside.free c.self.inside.free_count (seen all).holds
    c.self.invariant.told c.first.result c.first.ensures.some c.first.ensures.none)
