use Rattle.std.proofs.Common.{◌≡◌, ◌≢◌, ◌∙◌, ℕ, true, false, ap, sym, arith, refl, vec_capacity}
use Rattle.std.proofs.lemmas.Bool.{false≢true}
use Rattle.frame_memory.specs.Pool.{FramePool, is_free, word_at}
use Rattle.frame_memory.proofs.Written.{given_others, given_zero}
use Rattle.frame_memory.specs.Kept.{all_frames, seen}
use Rattle.frame_memory.proofs.Holds.{least-is_free, least_free-none, least_free-some, some-free}
use Rattle.frame_memory.proofs.Reached.{reached}
use Rattle.frame_memory.proofs.Refusals.{taken}
use Rattle.frame_memory.proofs.Seen.{count_seen, in_bytes, kept-held, seen-given}
use Rattle.frame_memory.proofs.pool.Pool.take.Goals as goal

pub returns-in_default-clause-least : goal.returns-in_default-clause-least
returns-in_default-clause-least g c =
    let all = all_frames c.self.inside.frames.items c.self.inside.count in
    rw (
      ← c.self.view_is,
      least_free-none c.self.inside.free c.self.inside.free_count (seen all).holds c.self.invariant.told
          c.in_default.ensures.none,
    ) tt

pub returns-clause-least : goal.returns-clause-least
returns-clause-least g c =
    let all = all_frames c.self.inside.frames.items c.self.inside.count in
    rw (
      ← c.self.view_is,
      least_free-some c.self.inside.free c.self.inside.free_count (seen all).holds c.in-Some.frame
          c.self.invariant.told c.in-Some.ensures.some,
    ) refl

pub returns-clause-refused : goal.returns-clause-refused
returns-clause-refused g c =
    let all = all_frames c.self.inside.frames.items c.self.inside.count in
    rw (
      ← c.self.view_is,
      least_free-some c.self.inside.free c.self.inside.free_count (seen all).holds c.in-Some.frame
          c.self.invariant.told c.in-Some.ensures.some,
    ) tt

pub returns-clause-ok : goal.returns-clause-ok
returns-clause-ok g c =
    let all = all_frames c.self.inside.frames.items c.self.inside.count in
    let f = c.in-Some.frame in
    let free = least-is_free c.self.inside.free c.self.inside.free_count (seen all).holds f c.self.invariant.told
    c.in-Some.ensures.some in
    let is = reached c.self.inside.frames.items c.fill_to.new.frames.items f c.self.inside.count c.self.invariant.few
    free.0 c.fill_to.ensures.items in
    rw (← c.self.view_is) (seen-given is c.zero_bytes-taken.result c.zero_bytes-taken.ensures)

pub invariant_of-self : goal.invariant_of-self
invariant_of-self g c =
    let all = all_frames c.self.inside.frames.items c.self.inside.count in
    let f = c.in-Some.frame in
    let free = least-is_free c.self.inside.free c.self.inside.free_count (seen all).holds f c.self.invariant.told
    c.in-Some.ensures.some in
    let is = reached c.self.inside.frames.items c.fill_to.new.frames.items f c.self.inside.count c.self.invariant.few
    free.0 c.fill_to.ensures.items in
    let x = c.index_mut-taken.result.now in
    let read = c.index_mut-taken.ensures.value in
    kept-held is x read c.self.inside.free c.self.inside.free_count c.self.invariant.told
    (vec_capacity c.fill_to.new.frames) c.remove.new.self (record { holds = 1; bytes = c.zero_bytes-taken.result })
    (rw c.fill_to.ensures.capacity c.self.invariant.fits) (count_seen is x read ∙ free.1) (omega arith)
    c.remove.ensures.this c.remove.ensures.others

pub returns-clause-zero : goal.returns-clause-zero
returns-clause-zero g c = λ i small.
    let all = all_frames c.self.inside.frames.items c.self.inside.count in
    let f = c.in-Some.frame in
    let free = least-is_free c.self.inside.free c.self.inside.free_count (seen all).holds f c.self.invariant.told
    c.in-Some.ensures.some in
    let is = reached c.self.inside.frames.items c.fill_to.new.frames.items f c.self.inside.count c.self.invariant.few
    free.0 c.fill_to.ensures.items in
    ap (λ (pool : FramePool). word_at pool f i) (returns-clause-ok g c)
    ∙ rw (← c.self.view_is) (given_zero (seen all) f i (in_bytes is) small)

pub returns-clause-others : goal.returns-clause-others
returns-clause-others g c = λ other i held.
    let all = all_frames c.self.inside.frames.items c.self.inside.count in
    let f = c.in-Some.frame in
    let free : is_free (seen all).holds f ≡ true = sym (c.self.invariant.told.tells f) ∙ c.in-Some.ensures.some.there in
    let not_free : is_free (seen all).holds other ≡ false = rw (← c.self.view_is) at held in
    let differ : other ≢ f =
    λ same. false≢true (sym not_free ∙ ap (λ (k : ℕ). is_free (seen all).holds k) same ∙ free) in
    ap (λ (pool : FramePool). word_at pool other i) (returns-clause-ok g c)
    ∙ rw (← c.self.view_is) (given_others (seen all) f other i differ)

pub first-requires : goal.first-requires
first-requires g c = tt

pub returns-in_default-clause-refused : goal.returns-in_default-clause-refused
returns-in_default-clause-refused g c = taken _ _ refl

pub returns-in_default-clause-ok : goal.returns-in_default-clause-ok
returns-in_default-clause-ok g c = tt

pub returns-in_default-clause-zero : goal.returns-in_default-clause-zero
returns-in_default-clause-zero g c = tt

pub returns-in_default-clause-others : goal.returns-in_default-clause-others
returns-in_default-clause-others g c f i held = refl

pub returns-in_default-clause-err : goal.returns-in_default-clause-err
returns-in_default-clause-err g c = refl

pub overflow_sub-self : goal.overflow_sub-self
overflow_sub-self g c =
    let all = all_frames c.self.inside.frames.items c.self.inside.count in
    let f = c.in-Some.frame in
    let free = least-is_free c.self.inside.free c.self.inside.free_count (seen all).holds f c.self.invariant.told
    c.in-Some.ensures.some in
    some-free c.self.inside.free c.self.inside.free_count (seen all).holds f c.self.invariant.told free.0 free.1

pub index_mut-taken-requires : goal.index_mut-taken-requires
index_mut-taken-requires g c =
    let all = all_frames c.self.inside.frames.items c.self.inside.count in
    let f = c.in-Some.frame in
    let free = least-is_free c.self.inside.free c.self.inside.free_count (seen all).holds f c.self.invariant.told
    c.in-Some.ensures.some in
    let is = reached c.self.inside.frames.items c.fill_to.new.frames.items f c.self.inside.count c.self.invariant.few
    free.0 c.fill_to.ensures.items in
    omega (arith, c.fill_to.new.frames.ok.0, is.within)

pub zero_bytes-taken-requires : goal.zero_bytes-taken-requires
zero_bytes-taken-requires g c = tt

pub returns-clause-err : goal.returns-clause-err
returns-clause-err g c = tt
