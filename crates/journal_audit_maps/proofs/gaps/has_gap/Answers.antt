use Rattle.std.proofs.Common.{ap, arith}
use Rattle.iofd_words.specs.Bounds.{Bounds}
use Rattle.iofd_words.specs.Areas.{areas_of}
use Rattle.journal_audit_maps.proofs.Gapless.{gap_begins, gap_here, gap_over, gap_passed, told_of}
use Rattle.journal_audit_maps.proofs.gaps.has_gap.Goals as goal

pub loop-step-init : goal.loop-step-init
loop-step-init c = record {
  low = omega arith;
  rest = gap_begins (areas_of c.args.areas.now c.args.file c.args.ioas) c.args.asked c.args.count c.requires;
}

pub returns-then-index-count : goal.returns-then-index-count
returns-then-index-count c =
    gap_over (areas_of c.args.areas.now c.args.file c.args.ioas) c.args.asked.first c.loop-step.index c.args.count _
    c.if-index-count.true c.loop-step.invariant.rest

pub returns-in_default : goal.returns-in_default
returns-in_default c =
    gap_here (areas_of c.args.areas.now c.args.file c.args.ioas) c.args.asked.first c.loop-step.index c.args.count _
    c.reached.result c.if-index-count.false c.in_default.is (told_of c.asked.inside.first c.args.asked.first (areas_of c.args.areas.now c.args.file c.args.ioas) c.loop-step.index
    c.reached.result (ap (λ (b : Bounds). b.first) c.asked.view_is) c.reached.ensures) c.loop-step.invariant.rest

pub loop-step-preserved : goal.loop-step-preserved
loop-step-preserved c =
    let low = c.loop-step.invariant.low in
    let on = gap_passed (areas_of c.args.areas.now c.args.file c.args.ioas) c.args.asked.first c.loop-step.index c.args.count _
    c.reached.result c.in-Some.next c.in-Some.is (told_of c.asked.inside.first c.args.asked.first (areas_of c.args.areas.now c.args.file c.args.ioas) c.loop-step.index
    c.reached.result (ap (λ (b : Bounds). b.first) c.asked.view_is) c.reached.ensures) c.loop-step.invariant.rest in
    let more = on.0 in
    record { low = omega (arith, low, more); rest = on.1 }

pub returns : goal.returns
returns c =
    let low = c.loop-step.invariant.low in
    let over = c.loop-step-test.false in
    gap_over (areas_of c.args.areas.now c.args.file c.args.ioas) c.args.asked.first c.loop-step.index c.args.count _
    (omega (arith, low, over)) c.loop-step.invariant.rest
