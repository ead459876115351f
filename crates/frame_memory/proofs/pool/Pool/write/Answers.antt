use Rattle.std.proofs.Common.{◌+◌, ◌≤◌, ◌∙◌, List, ℕ, length, ap, arith, refl, vec_capacity}
use Rattle.std.specs.List.{splice}
use Rattle.frame_memory.specs.Kept.{all_frames, seen}
use Rattle.frame_memory.specs.Pool.{FramePool, bytes_at, bytes_of}
use Rattle.frame_memory.proofs.Reached.{reached}
use Rattle.frame_memory.proofs.Seen.{bytes_seen, in_bytes, kept-written, seen-written}
use Rattle.frame_memory.proofs.Written.{written_apart, written_back}
use Rattle.frame_memory.proofs.pool.Pool.write.Goals as goal

pub returns-clause-new : goal.returns-clause-new
returns-clause-new g c =
    let is = reached c.self.inside.frames.items c.fill_to.new.frames.items c.args.frame.0 c.self.inside.count
    c.self.invariant.few (rw (← c.self.view_is) at c.requires.frame) c.fill_to.ensures.items in
    let x = c.index_mut.result.now in
    let read = c.index_mut.ensures.value in
    let offset = c.args.offset in
    let bytes = c.args.bytes.now in
    rw (← c.self.view_is)
    (seen-written is x read c.overwrite.new.bytes _ (c.overwrite.ensures
    ∙ ap (λ (old : List ℕ). splice old offset (offset + length bytes) bytes) (bytes_seen is x read)))

pub returns-clause-back : goal.returns-clause-back
returns-clause-back g c =
    let is = reached c.self.inside.frames.items c.fill_to.new.frames.items c.args.frame.0 c.self.inside.count
    c.self.invariant.few (rw (← c.self.view_is) at c.requires.frame) c.fill_to.ensures.items in
    let x = c.index_mut.result.now in
    let read = c.index_mut.ensures.value in
    let pool = seen (all_frames c.self.inside.frames.items c.self.inside.count) in
    let room : c.args.offset ≤ length (bytes_of pool c.args.frame.0) =
    omega (arith, ap length (bytes_seen is x read)) in
    ap (λ (new : FramePool). bytes_at new c.args.frame.0 c.args.offset (length c.args.bytes.now))
    (returns-clause-new g c)
    ∙ rw (← c.self.view_is) (written_back pool c.args.frame.0 c.args.offset c.args.bytes.now (in_bytes is) room)

pub returns-clause-others : goal.returns-clause-others
returns-clause-others g c = λ other at len apart.
    let is = reached c.self.inside.frames.items c.fill_to.new.frames.items c.args.frame.0 c.self.inside.count
    c.self.invariant.few (rw (← c.self.view_is) at c.requires.frame) c.fill_to.ensures.items in
    let x = c.index_mut.result.now in
    let read = c.index_mut.ensures.value in
    let pool = seen (all_frames c.self.inside.frames.items c.self.inside.count) in
    let room : c.args.offset ≤ length (bytes_of pool c.args.frame.0) =
    omega (arith, ap length (bytes_seen is x read)) in
    ap (λ (new : FramePool). bytes_at new other at len) (returns-clause-new g c)
    ∙ rw (← c.self.view_is) (written_apart pool c.args.frame.0 c.args.offset c.args.bytes.now (in_bytes is) room
    other at len apart)

pub invariant_of-self : goal.invariant_of-self
invariant_of-self g c =
    let is = reached c.self.inside.frames.items c.fill_to.new.frames.items c.args.frame.0 c.self.inside.count
    c.self.invariant.few (rw (← c.self.view_is) at c.requires.frame) c.fill_to.ensures.items in
    let x = c.index_mut.result.now in
    let read = c.index_mut.ensures.value in
    kept-written is x read c.self.inside.free c.self.inside.free_count c.self.invariant.told
    (vec_capacity c.fill_to.new.frames) (record { holds = x.holds; bytes = c.overwrite.new.bytes })
    (rw c.fill_to.ensures.capacity c.self.invariant.fits) refl
