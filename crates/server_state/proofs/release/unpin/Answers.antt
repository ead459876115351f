use Rattle.std.proofs.Common.{List, refl, sym, subst, arith}
use Rattle.iofd_words.specs.declared.rows.Area.{Area}
use Rattle.user_memory_rows.proofs.AreasGoing.{AreGoing, going_first, going_further, going_last, may_unpin, over_first}
use Rattle.user_memory_rows.specs.Shown.{over}
use Rattle.user_memory.specs.Changes.{never, once}
use Rattle.server_state.proofs.release.unpin.Goals as goal

pub loop-area-init : goal.loop-area-init
loop-area-init g c =
    let P : List Area → Type 0 = λ left. AreGoing (λ areas. never) over c.args.areas left c.args.memory.now
    c.args.memory.now c.args.pool.now c.args.pool.now in
    subst P (sym c.into_iter-area-iterator.ensures.into_iter_gives)
    (going_first (λ areas. never) over c.args.areas c.args.memory.now c.args.pool.now c.requires)

pub unpin-requires-clause-pins : goal.unpin-requires-clause-pins
unpin-requires-clause-pins g c =
    may_unpin (λ areas. never) c.args.areas c.loop-area.area-iterator c.next.new.self c.in-Some.area.now
    c.args.memory.now c.loop-area.memory c.args.pool.now c.loop-area.pool
    c.in-Some.ensures.steps c.loop-area.invariant

pub unpin-requires-clause-backed : goal.unpin-requires-clause-backed
unpin-requires-clause-backed g c = c.loop-area.invariant.may.backed

pub loop-area-preserved : goal.loop-area-preserved
loop-area-preserved g c =
    going_further (λ areas. never) over c.args.areas c.loop-area.area-iterator c.next.new.self never
    (once c.in-Some.area.now.memory) c.args.memory.now c.loop-area.memory c.unpin.new.self c.args.pool.now
    c.loop-area.pool c.unpin.new.pool
    (λ n. omega arith)
    (λ n. let first = over_first c.in-Some.area.now c.next.new.self n in rw c.in-Some.ensures.steps first)
    c.loop-area.invariant c.unpin.ensures.less c.unpin.ensures.settles

pub returns : goal.returns
returns g c =
    let P : List Area → Type 0 = λ left. AreGoing (λ areas. never) over c.args.areas left c.args.memory.now
    c.loop-area.memory c.args.pool.now c.loop-area.pool in
    going_last (λ areas. never) over c.args.areas c.args.memory.now c.loop-area.memory c.args.pool.now c.loop-area.pool
    (λ n. refl) (λ n. refl) (subst P c.in-None.ensures.steps.0 c.loop-area.invariant)
