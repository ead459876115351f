use Rattle.std.proofs.Common.{◌&&◌, ◌∙◌, ap, sym}
use Rattle.iofd_words.specs.Areas.{is_of}
use Rattle.iofd_rows.proofs.ListTests.{any-filter}
use Rattle.iofd_words.specs.Span.{meets}
use Rattle.iofd_words.specs.Accesses.{lacks_right}
use Rattle.journal_audit_world.proofs.RowByRow.{any_here, any_none, any_on}
use Rattle.journal_audit_maps.proofs.under.meets_without_right.Goals as goal

pub loop-area-init : goal.loop-area-init
loop-area-init c =
    sym (any-filter (λ area. meets area.span c.args.asked && lacks_right c.args.write area)
    (is_of c.args.file c.args.ioas) c.args.areas.now)

pub loop-area-preserved : goal.loop-area-preserved
loop-area-preserved c =
    any_on (λ area. is_of c.args.file c.args.ioas area
    && (meets area.span c.args.asked && lacks_right c.args.write area)) c.args.areas.now c.loop-area.area-index
    c.area-item.result _ _ c.loop-area-test.true (c.is_without_right.ensures ∙ ap
    (λ area. is_of c.args.file c.args.ioas area && (meets area.span c.args.asked && lacks_right c.args.write area))
    c.area-item.is) c.if-is_without_right.false c.loop-area.invariant

pub returns-then-is_without_right : goal.returns-then-is_without_right
returns-then-is_without_right c =
    any_here (λ area. is_of c.args.file c.args.ioas area
    && (meets area.span c.args.asked && lacks_right c.args.write area)) c.args.areas.now c.loop-area.area-index
    c.area-item.result _ _ c.loop-area-test.true (c.is_without_right.ensures ∙ ap
    (λ area. is_of c.args.file c.args.ioas area && (meets area.span c.args.asked && lacks_right c.args.write area))
    c.area-item.is) c.if-is_without_right.true c.loop-area.invariant

pub returns : goal.returns
returns c =
    any_none (λ area. is_of c.args.file c.args.ioas area
    && (meets area.span c.args.asked && lacks_right c.args.write area)) c.args.areas.now c.loop-area.area-index _
    c.loop-area-test.false c.loop-area.invariant
