use Rattle.std.proofs.Common.{List, subst, sym}
use Rattle.iofd_words.specs.declared.rows.Area.{Area}
use Rattle.memory_objects.specs.declared.run.PageRun.{PageRun}
use Rattle.user_memory.specs.Changes.{HasRunReleased}
use Rattle.access_pages.proofs.Firsts.{shorter}
use Rattle.access_pages.proofs.UnpinSteps.{Releasing, first_lies, first_meets, first_pins, releasing_first}
use Rattle.access_pages.proofs.UnpinSteps.{releasing_further, releasing_last}
use Rattle.access_pages.proofs.runs.unpin_all.Goals as goal

pub loop-area-init : goal.loop-area-init
loop-area-init g c =
    let P : List Area → Type 0 = λ left. Releasing c.args.span c.args.areas left c.args.memory.now c.args.memory.now
    c.args.pool.now c.args.pool.now in
    subst P (sym c.into_iter-area-iterator.ensures.into_iter_gives)
    (releasing_first c.args.span c.args.areas c.args.memory.now c.args.pool.now c.requires.met c.requires.may)

pub loop-area-preserved : goal.loop-area-preserved
loop-area-preserved g c =
    let P : List Area → Type 0 = λ left. Releasing c.args.span c.args.areas left c.args.memory.now c.loop-area.memory
    c.args.pool.now c.loop-area.pool in
    let L : PageRun → Type 0 = λ run. HasRunReleased run c.loop-area.memory c.unpin_by_access.new.self in
    releasing_further c.args.span c.args.areas c.next.new.self c.in-Some.area.now c.args.memory.now c.loop-area.memory
    c.unpin_by_access.new.self c.args.pool.now c.loop-area.pool c.unpin_by_access.new.pool
    (subst P c.in-Some.ensures.steps c.loop-area.invariant)
    (subst L c.run_in.ensures c.unpin_by_access.ensures.less) c.unpin_by_access.ensures.settles

pub run_in-requires : goal.run_in-requires
run_in-requires g c =
    let P : List Area → Type 0 = λ left. Releasing c.args.span c.args.areas left c.args.memory.now c.loop-area.memory
    c.args.pool.now c.loop-area.pool in
    first_meets c.args.span c.args.areas c.next.new.self c.in-Some.area.now c.args.memory.now c.loop-area.memory
    c.args.pool.now c.loop-area.pool (subst P c.in-Some.ensures.steps c.loop-area.invariant)

pub unpin_by_access-requires-clause-lies : goal.unpin_by_access-requires-clause-lies
unpin_by_access-requires-clause-lies g c =
    let P : List Area → Type 0 = λ left. Releasing c.args.span c.args.areas left c.args.memory.now c.loop-area.memory
    c.args.pool.now c.loop-area.pool in
    first_lies c.args.span c.args.areas c.next.new.self c.in-Some.area.now c.args.memory.now c.loop-area.memory
    c.args.pool.now c.loop-area.pool (subst P c.in-Some.ensures.steps c.loop-area.invariant)
    c.run_in.result c.run_in.ensures

pub unpin_by_access-requires-clause-pins : goal.unpin_by_access-requires-clause-pins
unpin_by_access-requires-clause-pins g c =
    let P : List Area → Type 0 = λ left. Releasing c.args.span c.args.areas left c.args.memory.now c.loop-area.memory
    c.args.pool.now c.loop-area.pool in
    first_pins c.args.span c.args.areas c.next.new.self c.in-Some.area.now c.args.memory.now c.loop-area.memory
    c.args.pool.now c.loop-area.pool (subst P c.in-Some.ensures.steps c.loop-area.invariant)
    c.run_in.result c.run_in.ensures

pub unpin_by_access-requires-clause-backed : goal.unpin_by_access-requires-clause-backed
unpin_by_access-requires-clause-backed g c = c.loop-area.invariant.may.backed

pub loop-area-smaller : goal.loop-area-smaller
loop-area-smaller g c =
    shorter c.loop-area.area-iterator c.next.new.self c.in-Some.area.now c.in-Some.ensures.steps

pub returns : goal.returns
returns g c =
    releasing_last c.args.span c.args.areas c.loop-area.area-iterator c.args.memory.now c.loop-area.memory
    c.args.pool.now c.loop-area.pool c.loop-area.invariant c.in-None.ensures.steps.0
