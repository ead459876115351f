use Rattle.std.proofs.Common.{List, sym, subst}
use Rattle.iofd_words.specs.declared.rows.Area.{Area}
use Rattle.hwpt_device.proofs.Filled.{AreFilling, can_fill, filling_first, filling_further, filling_last}
use Rattle.hwpt_device.proofs.filling.fill.Goals as goal

pub loop-area-init : goal.loop-area-init
loop-area-init g c =
    let P : List Area → Type 0 = λ left. AreFilling c.args.file c.args.id c.args.memory.now c.args.areas left
    c.args.page_tables.now c.args.page_tables.now c.args.pool.now c.args.pool.now
    c.args.taken.now c.args.taken.now in
    subst P (sym c.into_iter-area-iterator.ensures.into_iter_gives)
    (filling_first c.args.file c.args.id c.args.memory.now c.args.areas c.args.page_tables.now
    c.args.pool.now c.args.taken.now)

pub fill_area-requires : goal.fill_area-requires
fill_area-requires g c =
    can_fill c.args.file c.args.id c.args.memory.now c.args.areas c.loop-area.area-iterator c.next.new.self
    c.in-Some.area.now c.args.page_tables.now c.loop-area.page_tables c.args.pool.now c.loop-area.pool
    c.args.taken.now c.loop-area.taken
    c.in-Some.ensures.steps c.loop-area.invariant c.requires

pub loop-area-preserved : goal.loop-area-preserved
loop-area-preserved g c =
    filling_further c.args.file c.args.id c.args.memory.now c.args.areas c.loop-area.area-iterator c.next.new.self
    c.in-Some.area.now c.args.page_tables.now c.loop-area.page_tables c.args.pool.now c.loop-area.pool
    c.args.taken.now c.loop-area.taken
    c.in-Some.ensures.steps c.loop-area.invariant c.requires.apart c.fill_area.new.page_tables c.fill_area.new.pool
    c.fill_area.new.taken c.fill_area.ensures.same c.fill_area.ensures.capacity c.fill_area.ensures.filled

pub returns-clause-same : goal.returns-clause-same
returns-clause-same g c = c.loop-area.invariant.same

pub returns-clause-filled : goal.returns-clause-filled
returns-clause-filled g c =
    filling_last c.args.file c.args.id c.args.memory.now c.args.areas c.loop-area.area-iterator c.args.page_tables.now
    c.loop-area.page_tables c.args.pool.now c.loop-area.pool c.args.taken.now c.loop-area.taken
    c.in-None.ensures.steps.0 c.loop-area.invariant

pub returns-clause-capacity : goal.returns-clause-capacity
returns-clause-capacity g c = c.loop-area.invariant.capacity
