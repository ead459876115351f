use Rattle.std.proofs.Common.{List, sym, subst}
use Rattle.iofd_words.specs.declared.rows.Area.{Area}
use Rattle.event_unmap.proofs.PagesCleared.{AreClearing, can_clear, clearing_first, clearing_further, clearing_last}
use Rattle.event_unmap.proofs.clearing.clear_areas.Goals as goal

pub loop-area-init : goal.loop-area-init
loop-area-init g c =
    let P : List Area → Type 0 = λ left. AreClearing c.args.file c.args.ioas c.args.areas left c.args.page_tables.now
    c.args.page_tables.now c.args.pool.now c.args.pool.now in
    subst P (sym c.into_iter-area-iterator.ensures.into_iter_gives)
    (clearing_first c.args.file c.args.ioas c.args.areas c.args.page_tables.now c.args.pool.now)

pub clear_area-requires : goal.clear_area-requires
clear_area-requires g c =
    can_clear c.args.file c.args.ioas c.args.areas c.loop-area.area-iterator c.next.new.self c.in-Some.area.now
    c.args.page_tables.now c.loop-area.page_tables c.args.pool.now c.loop-area.pool
    c.in-Some.ensures.steps c.loop-area.invariant c.requires

pub loop-area-preserved : goal.loop-area-preserved
loop-area-preserved g c =
    clearing_further c.args.file c.args.ioas c.args.areas c.loop-area.area-iterator c.next.new.self c.in-Some.area.now
    c.args.page_tables.now c.loop-area.page_tables c.args.pool.now c.loop-area.pool
    c.in-Some.ensures.steps c.loop-area.invariant c.clear_area.new.page_tables c.clear_area.new.pool
    c.clear_area.ensures.same c.clear_area.ensures.cleared

pub returns-clause-cleared : goal.returns-clause-cleared
returns-clause-cleared g c =
    clearing_last c.args.file c.args.ioas c.args.areas c.loop-area.area-iterator c.args.page_tables.now
    c.loop-area.page_tables c.args.pool.now c.loop-area.pool c.in-None.ensures.steps.0 c.loop-area.invariant
