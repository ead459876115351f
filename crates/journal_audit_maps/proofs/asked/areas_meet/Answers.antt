use Rattle.std.proofs.Common.{◌&&◌, ◌∙◌, ap, sym}
use Rattle.iofd_words.specs.Areas.{is_of}
use Rattle.iofd_rows.proofs.ListTests.{any-filter}
use Rattle.iofd_words.specs.Span.{meets}
use Rattle.journal_audit_world.proofs.RowByRow.{any_here, any_none, any_on}
use Rattle.journal_audit_maps.proofs.asked.areas_meet.Goals as goal

pub loop-area-init : goal.loop-area-init
loop-area-init c =
    sym (any-filter (λ area. meets area.span c.args.asked) (is_of c.args.file c.args.ioas) c.args.areas.now)

pub loop-area-preserved : goal.loop-area-preserved
loop-area-preserved c =
    any_on (λ area. is_of c.args.file c.args.ioas area && meets area.span c.args.asked) c.args.areas.now
    c.loop-area.area-index c.area-item.result _ _ c.loop-area-test.true (c.is_met.ensures ∙ ap
    (λ area. is_of c.args.file c.args.ioas area && meets area.span c.args.asked) c.area-item.is) c.if-is_met.false
    c.loop-area.invariant

pub returns-then-is_met : goal.returns-then-is_met
returns-then-is_met c =
    any_here (λ area. is_of c.args.file c.args.ioas area && meets area.span c.args.asked) c.args.areas.now
    c.loop-area.area-index c.area-item.result _ _ c.loop-area-test.true (c.is_met.ensures ∙ ap
    (λ area. is_of c.args.file c.args.ioas area && meets area.span c.args.asked) c.area-item.is) c.if-is_met.true
    c.loop-area.invariant

pub returns : goal.returns
returns c =
    any_none (λ area. is_of c.args.file c.args.ioas area && meets area.span c.args.asked) c.args.areas.now
    c.loop-area.area-index _ c.loop-area-test.false c.loop-area.invariant
