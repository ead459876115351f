use Rattle.std.proofs.Common.{◌≡◌, ◌∙◌, List, true, refl, subst, sym, take}
use Rattle.std.specs.List.{list_all}
use Rattle.area_map.proofs.Room.{at_answer, at_error}
use Rattle.iofd_words.specs.Span.{meets}
use Rattle.iofd_words.specs.declared.rows.Area.{Area}
use Rattle.memory_objects.specs.declared.run.PageRun.{PageRun}
use Rattle.user_memory.specs.Changes.{HasRunPinned}
use Rattle.access_pages.proofs.PinSteps.{Pinning, next_has_room, next_is_few, next_lies, next_meets, next_present}
use Rattle.access_pages.proofs.PinSteps.{counts_one_more, pinning_first, pinning_further, pinning_last, unpinned_in}
use Rattle.access_pages.proofs.Firsts.{shorter}
use Rattle.access_pages.proofs.Undone.{may_undo, none_done, undone}
use Rattle.access_pages.specs.Runs.{AreReleased, MayRelease, run_in, runs_in}
use Rattle.access_pages.proofs.runs.pin_all.Goals as goal

pub loop-area-init : goal.loop-area-init
loop-area-init g c =
    let P : List Area → Type 0 = λ left. Pinning c.args.span c.args.areas left 0 c.args.memory.now c.args.memory.now
    c.args.pool.now c.args.pool.now in
    subst P (sym c.into_iter-area-iterator.ensures.into_iter_gives)
    (pinning_first c.args.span c.args.areas c.args.memory.now c.args.pool.now c.requires.met c.requires.may)

pub run_in-requires : goal.run_in-requires
run_in-requires g c =
    let P : List Area → Type 0 = λ left. Pinning c.args.span c.args.areas left c.loop-area.count c.args.memory.now
    c.loop-area.memory c.args.pool.now c.loop-area.pool in
    next_meets c.args.span c.args.areas c.next.new.self c.in-Some.area.now c.loop-area.count c.args.memory.now
    c.loop-area.memory c.args.pool.now c.loop-area.pool (subst P c.in-Some.ensures.steps c.loop-area.invariant)
    (run_in c.args.span c.in-Some.area.now) refl

pub pin_by_access-requires-clause-lies : goal.pin_by_access-requires-clause-lies
pin_by_access-requires-clause-lies g c =
    let P : List Area → Type 0 = λ left. Pinning c.args.span c.args.areas left c.loop-area.count c.args.memory.now
    c.loop-area.memory c.args.pool.now c.loop-area.pool in
    next_lies c.args.span c.args.areas c.next.new.self c.in-Some.area.now c.loop-area.count c.args.memory.now
    c.loop-area.memory c.args.pool.now c.loop-area.pool (subst P c.in-Some.ensures.steps c.loop-area.invariant)
    c.run_in.result c.run_in.ensures

pub pin_by_access-requires-clause-present : goal.pin_by_access-requires-clause-present
pin_by_access-requires-clause-present g c =
    let P : List Area → Type 0 = λ left. Pinning c.args.span c.args.areas left c.loop-area.count c.args.memory.now
    c.loop-area.memory c.args.pool.now c.loop-area.pool in
    next_present c.args.span c.args.areas c.next.new.self c.in-Some.area.now c.loop-area.count c.args.memory.now
    c.loop-area.memory c.args.pool.now c.loop-area.pool (subst P c.in-Some.ensures.steps c.loop-area.invariant)
    c.run_in.result c.run_in.ensures

pub pin_by_access-requires-clause-room : goal.pin_by_access-requires-clause-room
pin_by_access-requires-clause-room g c =
    let P : List Area → Type 0 = λ left. Pinning c.args.span c.args.areas left c.loop-area.count c.args.memory.now
    c.loop-area.memory c.args.pool.now c.loop-area.pool in
    next_has_room c.args.span c.args.areas c.next.new.self c.in-Some.area.now c.loop-area.count c.args.memory.now
    c.loop-area.memory c.args.pool.now c.loop-area.pool (subst P c.in-Some.ensures.steps c.loop-area.invariant)
    c.run_in.result c.run_in.ensures

pub pin_by_access-requires-clause-few : goal.pin_by_access-requires-clause-few
pin_by_access-requires-clause-few g c =
    let P : List Area → Type 0 = λ left. Pinning c.args.span c.args.areas left c.loop-area.count c.args.memory.now
    c.loop-area.memory c.args.pool.now c.loop-area.pool in
    next_is_few c.args.span c.args.areas c.next.new.self c.in-Some.area.now c.loop-area.count c.args.memory.now
    c.loop-area.memory c.args.pool.now c.loop-area.pool (subst P c.in-Some.ensures.steps c.loop-area.invariant)
    c.run_in.result c.run_in.ensures

pub unpin_first-requires-clause-may : goal.unpin_first-requires-clause-may
unpin_first-requires-clause-may g c =
    let failed = sym c.is_err.ensures.value ∙ c.if-is_err.true in
    let same = none_done c.loop-area.memory c.pin_by_access.new.self c.pin_by_access.new.self c.loop-area.pool
    c.pin_by_access.new.pool c.pin_by_access.new.pool refl refl
    (at_error c.pin_by_access.result failed c.pin_by_access.ensures.err) c.pin_by_access.ensures.pages
    c.pin_by_access.ensures.limits (at_error c.pin_by_access.result failed c.pin_by_access.ensures.pool_err) in
    let M : List Area → Type 0 = λ areas. MayRelease (runs_in c.args.span (take c.loop-area.count areas))
    c.pin_by_access.new.self c.pin_by_access.new.pool.holds in
    subst M (sym c.again-all.ensures)
    (may_undo c.args.span c.args.areas c.loop-area.area-iterator c.loop-area.count c.args.memory.now c.loop-area.memory
    c.pin_by_access.new.self c.args.pool.now c.loop-area.pool c.pin_by_access.new.pool c.loop-area.invariant same)

pub returns-then-is_err-clause-err : goal.returns-then-is_err-clause-err
returns-then-is_err-clause-err g c =
    let failed = sym c.is_err.ensures.value ∙ c.if-is_err.true in
    let same = none_done c.loop-area.memory c.pin_by_access.new.self c.pin_by_access.new.self c.loop-area.pool
    c.pin_by_access.new.pool c.pin_by_access.new.pool refl refl
    (at_error c.pin_by_access.result failed c.pin_by_access.ensures.err) c.pin_by_access.ensures.pages
    c.pin_by_access.ensures.limits (at_error c.pin_by_access.result failed c.pin_by_access.ensures.pool_err) in
    let R : List Area → Type 0 = λ areas. AreReleased (runs_in c.args.span (take c.loop-area.count areas))
    c.pin_by_access.new.self c.unpin_first.new.memory c.pin_by_access.new.pool c.unpin_first.new.pool in
    undone c.args.span c.args.areas c.loop-area.area-iterator c.loop-area.count c.args.memory.now c.loop-area.memory
    c.pin_by_access.new.self c.unpin_first.new.memory c.args.pool.now c.loop-area.pool c.pin_by_access.new.pool
    c.unpin_first.new.pool c.loop-area.invariant same (subst R c.again-all.ensures c.unpin_first.ensures)

pub returns-then-is_err-clause-memory : goal.returns-then-is_err-clause-memory
returns-then-is_err-clause-memory g c =
    let P : List Area → Type 0 = λ left. Pinning c.args.span c.args.areas left c.loop-area.count c.args.memory.now
    c.loop-area.memory c.args.pool.now c.loop-area.pool in
    unpinned_in c.args.span c.args.areas c.next.new.self c.in-Some.area.now c.loop-area.count c.args.memory.now
    c.loop-area.memory c.args.pool.now c.loop-area.pool (subst P c.in-Some.ensures.steps c.loop-area.invariant)
    c.run_in.result c.run_in.ensures
    (at_error c.pin_by_access.result (sym c.is_err.ensures.value ∙ c.if-is_err.true) c.pin_by_access.ensures.memory)

pub loop-area-preserved : goal.loop-area-preserved
loop-area-preserved g c =
    let P : List Area → Type 0 = λ left. Pinning c.args.span c.args.areas left c.loop-area.count c.args.memory.now
    c.loop-area.memory c.args.pool.now c.loop-area.pool in
    let M : PageRun → Type 0 = λ run. HasRunPinned run c.loop-area.memory c.pin_by_access.new.self in
    pinning_further c.args.span c.args.areas c.next.new.self c.in-Some.area.now c.loop-area.count c.args.memory.now
    c.loop-area.memory c.pin_by_access.new.self c.args.pool.now c.loop-area.pool c.pin_by_access.new.pool
    (subst P c.in-Some.ensures.steps c.loop-area.invariant)
    (subst M c.run_in.ensures (at_answer c.pin_by_access.result (sym c.is_err.ensures.value ∙ c.if-is_err.false)
    c.pin_by_access.ensures.more))
    (at_answer c.pin_by_access.result (sym c.is_err.ensures.value ∙ c.if-is_err.false) c.pin_by_access.ensures.settles)

pub pin_by_access-requires-clause-backed : goal.pin_by_access-requires-clause-backed
pin_by_access-requires-clause-backed g c = c.loop-area.invariant.may.backed

pub unpin_first-requires-clause-met : goal.unpin_first-requires-clause-met
unpin_first-requires-clause-met g c =
    let M : List Area → Type 0 = λ areas. list_all (λ (area : Area). meets area.span c.args.span) areas ≡ true in
    subst M (sym c.again-all.ensures) c.requires.met

pub overflow_add-count : goal.overflow_add-count
overflow_add-count g c =
    counts_one_more c.args.span c.args.areas c.loop-area.area-iterator c.next.new.self c.in-Some.area.now
    c.loop-area.count c.args.memory.now c.loop-area.memory c.args.pool.now c.loop-area.pool c.loop-area.invariant
    c.in-Some.ensures.steps c.requires.few

pub loop-area-smaller : goal.loop-area-smaller
loop-area-smaller g c =
    shorter c.loop-area.area-iterator c.next.new.self c.in-Some.area.now c.in-Some.ensures.steps

pub returns-clause-ok : goal.returns-clause-ok
returns-clause-ok g c =
    pinning_last c.args.span c.args.areas c.loop-area.area-iterator c.loop-area.count c.args.memory.now
    c.loop-area.memory c.args.pool.now c.loop-area.pool c.loop-area.invariant c.in-None.ensures.steps.0
