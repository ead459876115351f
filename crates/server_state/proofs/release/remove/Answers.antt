use Rattle.std.proofs.Common.{cond, List, refl, sym, subst}
use Rattle.iofd_words.specs.declared.rows.Area.{Area}
use Rattle.user_memory_rows.proofs.AreasGoing.{AreGoing, going_first, going_further, going_last, may_one, over_first}
use Rattle.user_memory_rows.proofs.AreasGoing.{translated_first, translated_none}
use Rattle.user_memory_rows.specs.Moves.{if_translated}
use Rattle.user_memory_rows.specs.Shown.{over}
use Rattle.user_memory.specs.Changes.{never, once}
use Rattle.server_state.proofs.release.remove.Goals as goal

pub loop-area-init : goal.loop-area-init
loop-area-init g c =
    let P : List Area → Type 0 = λ left. AreGoing over (if_translated c.args.translated) c.args.areas left
    c.args.memory.now c.args.memory.now c.args.pool.now c.args.pool.now in
    subst P (sym c.into_iter-area-iterator.ensures.into_iter_gives)
    (going_first over (if_translated c.args.translated) c.args.areas c.args.memory.now c.args.pool.now c.requires)

pub remove_one-requires : goal.remove_one-requires
remove_one-requires g c =
    may_one c.args.translated c.args.areas c.loop-area.area-iterator c.next.new.self c.in-Some.area.now
    c.args.memory.now c.loop-area.memory c.args.pool.now c.loop-area.pool
    c.in-Some.ensures.steps c.loop-area.invariant

pub loop-area-preserved : goal.loop-area-preserved
loop-area-preserved g c =
    going_further over (if_translated c.args.translated) c.args.areas c.loop-area.area-iterator c.next.new.self
    (once c.in-Some.area.now.memory) (cond c.args.translated (once c.in-Some.area.now.memory) never)
    c.args.memory.now c.loop-area.memory c.remove_one.new.memory c.args.pool.now
    c.loop-area.pool c.remove_one.new.pool
    (λ n. let first = over_first c.in-Some.area.now c.next.new.self n in rw c.in-Some.ensures.steps first)
    (λ n. let first = translated_first c.args.translated c.in-Some.area.now c.next.new.self n in
    rw c.in-Some.ensures.steps first)
    c.loop-area.invariant c.remove_one.ensures.less c.remove_one.ensures.settles

pub returns : goal.returns
returns g c =
    let P : List Area → Type 0 = λ left. AreGoing over (if_translated c.args.translated) c.args.areas left
    c.args.memory.now c.loop-area.memory c.args.pool.now c.loop-area.pool in
    going_last over (if_translated c.args.translated) c.args.areas c.args.memory.now c.loop-area.memory c.args.pool.now
    c.loop-area.pool (λ n. refl) (translated_none c.args.translated)
    (subst P c.in-None.ensures.steps.0 c.loop-area.invariant)
