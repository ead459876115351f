use Rattle.std.proofs.Common.{◌+◌, ap, arith, vec_capacity}
use Rattle.frame_memory.proofs.Reached.{reached}
use Rattle.frame_memory.proofs.Seen.{count_seen, kept-held, kept-same, seen-counted, some-counted}
use Rattle.frame_memory.proofs.pool.Pool.hold.Goals as goal

pub returns-then-held-eq1 : goal.returns-then-held-eq1
returns-then-held-eq1 g c =
    let is = reached c.self.inside.frames.items c.fill_to.new.frames.items c.args.frame.0 c.self.inside.count
    c.self.invariant.few (rw (← c.self.view_is) at c.requires.frame) c.fill_to.ensures.items in
    let x = c.index_mut-held.result.now in
    let read = c.index_mut-held.ensures.value in
    rw (← c.self.view_is) (seen-counted is x read (x.holds + 1) _ (ap (λ k. k + 1) (count_seen is x read)))

pub returns-else-held-eq1 : goal.returns-else-held-eq1
returns-else-held-eq1 g c =
    let is = reached c.self.inside.frames.items c.fill_to.new.frames.items c.args.frame.0 c.self.inside.count
    c.self.invariant.few (rw (← c.self.view_is) at c.requires.frame) c.fill_to.ensures.items in
    let x = c.index_mut-held.result.now in
    let read = c.index_mut-held.ensures.value in
    rw (← c.self.view_is) (seen-counted is x read (x.holds + 1) _ (ap (λ k. k + 1) (count_seen is x read)))

pub overflow_sub-self : goal.overflow_sub-self
overflow_sub-self g c =
    let is = reached c.self.inside.frames.items c.fill_to.new.frames.items c.args.frame.0 c.self.inside.count
    c.self.invariant.few (rw (← c.self.view_is) at c.requires.frame) c.fill_to.ensures.items in
    let x = c.index_mut-held.result.now in
    let read = c.index_mut-held.ensures.value in
    some-counted is x read _ _ c.self.invariant.told (omega (arith, c.if-held-eq1.true))

pub invariant_of-self : goal.invariant_of-self
invariant_of-self g c =
    let is = reached c.self.inside.frames.items c.fill_to.new.frames.items c.args.frame.0 c.self.inside.count
    c.self.invariant.few (rw (← c.self.view_is) at c.requires.frame) c.fill_to.ensures.items in
    let x = c.index_mut-held.result.now in
    let read = c.index_mut-held.ensures.value in
    kept-held is x read c.self.inside.free c.self.inside.free_count c.self.invariant.told
    (vec_capacity c.fill_to.new.frames) c.remove.new.self (record { holds = x.holds + 1; bytes = x.bytes })
    (rw c.fill_to.ensures.capacity c.self.invariant.fits) (omega (arith, c.if-held-eq1.true)) (omega arith)
    c.remove.ensures.this c.remove.ensures.others

pub invariant_of-self-else-held-eq1 : goal.invariant_of-self-else-held-eq1
invariant_of-self-else-held-eq1 g c =
    let is = reached c.self.inside.frames.items c.fill_to.new.frames.items c.args.frame.0 c.self.inside.count
    c.self.invariant.few (rw (← c.self.view_is) at c.requires.frame) c.fill_to.ensures.items in
    let x = c.index_mut-held.result.now in
    let read = c.index_mut-held.ensures.value in
    kept-same is x read c.self.inside.free c.self.inside.free_count c.self.invariant.told
    (vec_capacity c.fill_to.new.frames)
    (record { holds = x.holds + 1; bytes = x.bytes }) (rw c.fill_to.ensures.capacity c.self.invariant.fits)
    (omega arith) (omega arith)

pub index_mut-held-requires : goal.index_mut-held-requires
index_mut-held-requires g c =
    let is = reached c.self.inside.frames.items c.fill_to.new.frames.items c.args.frame.0 c.self.inside.count
    c.self.invariant.few (rw (← c.self.view_is) at c.requires.frame) c.fill_to.ensures.items in
    omega (arith, c.fill_to.new.frames.ok.0, is.within)
