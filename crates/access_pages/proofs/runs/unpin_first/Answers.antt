use Rattle.std.proofs.Common.{◌≡◌, ℕ, ◌∷◌, ◌-◌, ◌∙◌, List, ap, arith, subst, sym, take}
use Rattle.iofd_words.specs.Span.{meets}
use Rattle.iofd_words.specs.declared.rows.Area.{Area}
use Rattle.memory_objects.specs.declared.run.PageRun.{PageRun}
use Rattle.user_memory.specs.Changes.{HasRunReleased}
use Rattle.access_pages.proofs.Firsts.{all_first, first_more, first_none, shorter}
use Rattle.access_pages.proofs.UnpinSteps.{Releasing, first_lies, first_meets, first_pins, releasing_first}
use Rattle.access_pages.proofs.UnpinSteps.{releasing_further, releasing_last}
use Rattle.access_pages.proofs.runs.unpin_first.Goals as goal

pub loop-area-init : goal.loop-area-init
loop-area-init g c =
    let P : List Area → Type 0 = λ left. Releasing c.args.span (take c.args.count c.args.areas) (take c.args.count left)
    c.args.memory.now c.args.memory.now c.args.pool.now c.args.pool.now in
    subst P (sym c.into_iter-area-iterator.ensures.into_iter_gives)
    (releasing_first c.args.span (take c.args.count c.args.areas) c.args.memory.now c.args.pool.now
    (all_first (λ (area : Area). meets area.span c.args.span) c.args.count c.args.areas c.requires.met) c.requires.may)

pub run_in-requires : goal.run_in-requires
run_in-requires g c =
    let some = c.if-left-eq0.false in
    let split : take c.loop-area.left c.loop-area.area-iterator
    ≡ c.in-Some.area.now ∷ take (c.loop-area.left - 1) c.next.new.self =
    ap (take c.loop-area.left) c.in-Some.ensures.steps
    ∙ first_more c.loop-area.left c.in-Some.area.now c.next.new.self (omega (arith, some)) in
    let P : List Area → Type 0 = λ left. Releasing c.args.span (take c.args.count c.args.areas) left c.args.memory.now
    c.loop-area.memory c.args.pool.now c.loop-area.pool in
    first_meets c.args.span (take c.args.count c.args.areas) (take (c.loop-area.left - 1) c.next.new.self)
    c.in-Some.area.now c.args.memory.now c.loop-area.memory c.args.pool.now c.loop-area.pool
    (subst P split c.loop-area.invariant)

pub unpin_by_access-requires-clause-lies : goal.unpin_by_access-requires-clause-lies
unpin_by_access-requires-clause-lies g c =
    let some = c.if-left-eq0.false in
    let split : take c.loop-area.left c.loop-area.area-iterator
    ≡ c.in-Some.area.now ∷ take (c.loop-area.left - 1) c.next.new.self =
    ap (take c.loop-area.left) c.in-Some.ensures.steps
    ∙ first_more c.loop-area.left c.in-Some.area.now c.next.new.self (omega (arith, some)) in
    let P : List Area → Type 0 = λ left. Releasing c.args.span (take c.args.count c.args.areas) left c.args.memory.now
    c.loop-area.memory c.args.pool.now c.loop-area.pool in
    first_lies c.args.span (take c.args.count c.args.areas) (take (c.loop-area.left - 1) c.next.new.self)
    c.in-Some.area.now c.args.memory.now c.loop-area.memory c.args.pool.now c.loop-area.pool
    (subst P split c.loop-area.invariant) c.run_in.result c.run_in.ensures

pub unpin_by_access-requires-clause-pins : goal.unpin_by_access-requires-clause-pins
unpin_by_access-requires-clause-pins g c =
    let some = c.if-left-eq0.false in
    let split : take c.loop-area.left c.loop-area.area-iterator
    ≡ c.in-Some.area.now ∷ take (c.loop-area.left - 1) c.next.new.self =
    ap (take c.loop-area.left) c.in-Some.ensures.steps
    ∙ first_more c.loop-area.left c.in-Some.area.now c.next.new.self (omega (arith, some)) in
    let P : List Area → Type 0 = λ left. Releasing c.args.span (take c.args.count c.args.areas) left c.args.memory.now
    c.loop-area.memory c.args.pool.now c.loop-area.pool in
    first_pins c.args.span (take c.args.count c.args.areas) (take (c.loop-area.left - 1) c.next.new.self)
    c.in-Some.area.now c.args.memory.now c.loop-area.memory c.args.pool.now c.loop-area.pool
    (subst P split c.loop-area.invariant) c.run_in.result c.run_in.ensures

pub loop-area-preserved : goal.loop-area-preserved
loop-area-preserved g c =
    let some = c.if-left-eq0.false in
    let split : take c.loop-area.left c.loop-area.area-iterator
    ≡ c.in-Some.area.now ∷ take (c.loop-area.left - 1) c.next.new.self =
    ap (take c.loop-area.left) c.in-Some.ensures.steps
    ∙ first_more c.loop-area.left c.in-Some.area.now c.next.new.self (omega (arith, some)) in
    let P : List Area → Type 0 = λ left. Releasing c.args.span (take c.args.count c.args.areas) left c.args.memory.now
    c.loop-area.memory c.args.pool.now c.loop-area.pool in
    let L : PageRun → Type 0 = λ run. HasRunReleased run c.loop-area.memory c.unpin_by_access.new.self in
    releasing_further c.args.span (take c.args.count c.args.areas) (take (c.loop-area.left - 1) c.next.new.self)
    c.in-Some.area.now c.args.memory.now c.loop-area.memory c.unpin_by_access.new.self c.args.pool.now
    c.loop-area.pool c.unpin_by_access.new.pool (subst P split c.loop-area.invariant)
    (subst L c.run_in.ensures c.unpin_by_access.ensures.less) c.unpin_by_access.ensures.settles

pub unpin_by_access-requires-clause-backed : goal.unpin_by_access-requires-clause-backed
unpin_by_access-requires-clause-backed g c = c.loop-area.invariant.may.backed

pub loop-area-smaller : goal.loop-area-smaller
loop-area-smaller g c =
    shorter c.loop-area.area-iterator c.next.new.self c.in-Some.area.now c.in-Some.ensures.steps

pub returns-then-left-eq0 : goal.returns-then-left-eq0
returns-then-left-eq0 g c =
    releasing_last c.args.span (take c.args.count c.args.areas) (take c.loop-area.left c.loop-area.area-iterator)
    c.args.memory.now c.loop-area.memory c.args.pool.now c.loop-area.pool c.loop-area.invariant
    (ap (λ (n : ℕ). take n c.loop-area.area-iterator) c.if-left-eq0.true)

pub returns : goal.returns
returns g c =
    releasing_last c.args.span (take c.args.count c.args.areas) (take c.loop-area.left c.loop-area.area-iterator)
    c.args.memory.now c.loop-area.memory c.args.pool.now c.loop-area.pool c.loop-area.invariant
    (ap (take c.loop-area.left) c.in-None.ensures.steps.0 ∙ first_none c.loop-area.left)
