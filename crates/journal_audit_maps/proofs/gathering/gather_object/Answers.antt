use Rattle.std.proofs.Common.{arith}
use Rattle.journal_audit_maps.proofs.Gathered.{next_from, object_begins, object_beyond, object_fails, object_none, object_over, object_step}
use Rattle.journal_audit_maps.proofs.gathering.gather_object.Goals as goal

pub loop-step-init : goal.loop-step-init
loop-step-init g c = record {
  low = omega arith;
  rest = object_begins c.args.memory.now c.args.user_pages.now c.args.pins.now c.args.areas.now c.args.file c.args.ioas
      c.args.asked c.args.object.number c.args.object.count c.args.found.now.items;
}

pub returns-in_default : goal.returns-in_default
returns-in_default g c =
    object_none c.args.memory.now c.args.user_pages.now c.args.pins.now c.args.areas.now c.args.file c.args.ioas c.args.asked
    c.args.object.number c.args.object.count c.loop-step.found.items c.args.found.now.items c.loop-step.from
    c.loop-step.invariant.rest
    c.next_spanned.result c.in_default.is c.next_spanned.ensures

pub returns-then-index-object : goal.returns-then-index-object
returns-then-index-object g c =
    object_beyond c.args.memory.now c.args.user_pages.now c.args.pins.now c.args.areas.now c.args.file c.args.ioas c.args.asked
    c.args.object.number c.args.object.count c.loop-step.found.items c.args.found.now.items c.loop-step.from
    c.loop-step.invariant.rest
    c.next_spanned.result c.in-Some.index c.in-Some.is c.if-index-object.true c.next_spanned.ensures

pub returns-then-not-branch : goal.returns-then-not-branch
returns-then-not-branch g c =
    object_fails c.args.memory.now c.args.user_pages.now c.args.pins.now c.args.areas.now c.args.file c.args.ioas c.args.asked
    c.args.object.number c.args.object.count c.loop-step.found.items c.args.found.now.items c.loop-step.from
    c.loop-step.invariant.rest
    c.next_spanned.result c.in-Some.index _ _ c.in-Some.is c.if-index-object.false c.next_spanned.ensures
    c.if-not-branch.true c.in_ok-gather_page.ensures

pub loop-step-preserved : goal.loop-step-preserved
loop-step-preserved g c =
    let low = c.loop-step.invariant.low in
    let next = c.next_spanned.ensures in
    record {
      low = let least = next_from _ c.loop-step.from c.next_spanned.result c.in-Some.index c.in-Some.is next in omega (arith, low, least);
      rest = object_step c.args.memory.now c.args.user_pages.now c.args.pins.now c.args.areas.now c.args.file c.args.ioas c.args.asked
          c.args.object.number c.args.object.count c.loop-step.found.items c.args.found.now.items c.loop-step.from
          c.loop-step.invariant.rest
          c.next_spanned.result c.in-Some.index _ _ c.in-Some.is c.if-index-object.false c.next_spanned.ensures
          c.if-not-branch.false c.in_ok-gather_page.ensures;
    }

pub returns : goal.returns
returns g c =
    let low = c.loop-step.invariant.low in
    let over = c.loop-step-test.false in
    object_over c.args.memory.now c.args.user_pages.now c.args.pins.now c.args.areas.now c.args.file c.args.ioas c.args.asked
    c.args.object.number c.args.object.count c.loop-step.found.items c.args.found.now.items c.loop-step.from
    c.loop-step.invariant.rest
    (omega (arith, low, over))
