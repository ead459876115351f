use Rattle.std.proofs.Common.{◌≤◌, length, sym}
use Rattle.frame_memory.proofs.Reached.{holds_behind}
use Rattle.frame_memory.proofs.pool.Pool.holds.Goals as goal

pub returns-in-None : goal.returns-in-None
returns-in-None g c =
    let written = c.self.inside.frames.items in
    let f = c.args.frame.0 in
    let behind : length written ≤ f = rw c.deref.ensures.value at c.in-None.ensures.lookup.3 in
    rw (← c.self.view_is) (sym (holds_behind written f c.self.inside.count behind))
