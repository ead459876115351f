use Rattle.std.proofs.Common.{◌<◌, ◌-◌, ap, arith, vec_capacity}
use Rattle.frame_memory.proofs.Reached.{already, some_written}
use Rattle.frame_memory.proofs.Seen.{count_seen, kept-freed, kept-same, seen-counted}
use Rattle.frame_memory.proofs.pool.Pool.release.Goals as goal

pub index_mut-held-requires : goal.index_mut-held-requires
index_mut-held-requires g c =
    let some = rw (← c.self.view_is) at c.requires in
    omega (arith, some_written c.self.inside.frames.items c.args.frame.0 c.self.inside.count some)

pub overflow_sub-held : goal.overflow_sub-held
overflow_sub-held g c =
    let some = rw (← c.self.view_is) at c.requires in
    let is = already c.self.inside.frames.items c.args.frame.0 c.self.inside.count c.self.invariant.few some in
    let x = c.index_mut-held.result.now in
    let read = c.index_mut-held.ensures.value in
    omega (arith, count_seen is x read, some)

pub returns-then-held-eq0 : goal.returns-then-held-eq0
returns-then-held-eq0 g c =
    let some = rw (← c.self.view_is) at c.requires in
    let is = already c.self.inside.frames.items c.args.frame.0 c.self.inside.count c.self.invariant.few some in
    let x = c.index_mut-held.result.now in
    let read = c.index_mut-held.ensures.value in
    rw (← c.self.view_is) (seen-counted is x read (x.holds - 1) _ (ap (λ k. k - 1) (count_seen is x read)))

pub returns-else-held-eq0 : goal.returns-else-held-eq0
returns-else-held-eq0 g c =
    let some = rw (← c.self.view_is) at c.requires in
    let is = already c.self.inside.frames.items c.args.frame.0 c.self.inside.count c.self.invariant.few some in
    let x = c.index_mut-held.result.now in
    let read = c.index_mut-held.ensures.value in
    rw (← c.self.view_is) (seen-counted is x read (x.holds - 1) _ (ap (λ k. k - 1) (count_seen is x read)))

pub invariant_of-self : goal.invariant_of-self
invariant_of-self g c =
    let some = rw (← c.self.view_is) at c.requires in
    let is = already c.self.inside.frames.items c.args.frame.0 c.self.inside.count c.self.invariant.few some in
    let x = c.index_mut-held.result.now in
    let read = c.index_mut-held.ensures.value in
    let held : 0 < x.holds = omega (arith, count_seen is x read, some) in
    kept-freed is x read c.self.inside.free c.self.inside.free_count c.self.invariant.told
    (vec_capacity c.self.inside.frames)
    c.insert.new.self (record { holds = x.holds - 1; bytes = x.bytes }) c.self.invariant.fits
    (omega arith) (omega arith) c.insert.ensures.this c.insert.ensures.others

pub invariant_of-self-else-held-eq0 : goal.invariant_of-self-else-held-eq0
invariant_of-self-else-held-eq0 g c =
    let some = rw (← c.self.view_is) at c.requires in
    let is = already c.self.inside.frames.items c.args.frame.0 c.self.inside.count c.self.invariant.few some in
    let x = c.index_mut-held.result.now in
    let read = c.index_mut-held.ensures.value in
    let held : 0 < x.holds = omega (arith, count_seen is x read, some) in
    kept-same is x read c.self.inside.free c.self.inside.free_count c.self.invariant.told
    (vec_capacity c.self.inside.frames)
    (record { holds = x.holds - 1; bytes = x.bytes }) c.self.invariant.fits (omega arith) (omega arith)
