use Rattle.std.proofs.Common.{◌≤◌, length, sym}
use Rattle.frame_memory.specs.Pool.{frame_size}
use Rattle.frame_memory.proofs.Reached.{bytes_behind, in_count}
use Rattle.frame_memory.proofs.pool.Pool.bytes.Goals as goal

pub returns-in-None : goal.returns-in-None
unfolding frame_size
returns-in-None g c =
    let written = c.self.inside.frames.items in
    let f = c.args.frame.0 in
    let count = c.self.inside.count in
    let behind : length written ≤ f = rw c.deref.ensures.value at c.in-None.ensures.lookup.3 in
    let within = in_count written f count c.self.invariant.few (rw (← c.self.view_is) at c.requires) in
    rw (← c.self.view_is) (sym (bytes_behind written f count behind within))
